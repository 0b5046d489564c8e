use Rattle.std.proofs.Common.{◌≡◌, ◌-◌, length, map}
use Rattle.ds_state.specs.Reading.{read_list}
use Rattle.ds_state.specs.Loops.{with_front}
use Rattle.ds_state.proofs.parts.take_list.Given as goal

abbrev pub invariant-loop : goal.invariant-loop
invariant-loop g l =
    let reader = g.T.Part.reader l.fn.at in
    record {
      reads : with_front (map (g.T.Part.state) l.parts.items) (read_list reader (l.fn.count - l.counter) l.from) ≡ read_list reader l.fn.count l.fn.from;
      long : length l.parts.items ≡ l.counter;
    }
