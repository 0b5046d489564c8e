use Rattle.gx_fifo.proofs.Words.{[], arith, entry_format, length-append, read_format, read_list, ◌∷◌}
use Rattle.ds_state.proofs.Loop.{goes_on}
use Rattle.gx_fifo.proofs.entries.saved.take_entries.Goals as goal

pub loop-preserved : goal.loop-preserved
loop-preserved c =
    let reader = read_format entry_format c.args.at in
    let total = read_list reader c.args.count c.args.from.now in
    let one = length-append c.loop.entries (c.in_ok-entry.entry ∷ []) in
    record {
      reads = rw c.add.ensures
          (goes_on reader c.loop.entries c.args.count c.loop.counter c.loop.from c.in_ok-entry.entry c.take.new.from total
          c.loop-test.true c.in_ok-entry.ensures c.loop.invariant.reads);
      long = rw c.add.ensures (omega (arith, one, c.loop.invariant.long));
    }
