use Rattle.gx_fifo.proofs.Words.{entry_format, length, read_format, read_list, ◌-◌, ◌≡◌}
use Rattle.ds_state.specs.Loops.{with_front}
use Rattle.gx_fifo.proofs.entries.saved.take_entries.Given as goal

abbrev pub invariant-loop : goal.invariant-loop
invariant-loop l =
    let reader = read_format entry_format l.fn.at in
    record {
      reads : with_front l.entries (read_list reader (l.fn.count - l.counter) l.from) ≡ read_list reader l.fn.count l.fn.from;
      long : length l.entries ≡ l.counter;
    }
