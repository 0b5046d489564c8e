use Rattle.std.proofs.Common.{◌≡◌, ◌-◌, length, map, take}
use Rattle.ds_state.specs.Reading.{read_list}
use Rattle.ds_state.specs.Loops.{with_front}
use Rattle.ds_state.proofs.parts.take_each.Given as goal

abbrev pub invariant-loop-i : goal.invariant-loop-i
invariant-loop-i g l =
    let reader = g.T.Part.reader l.fn.at in
    record {
      reads : with_front (map (g.T.Part.state) (take l.i l.into)) (read_list reader (length l.fn.into - l.i) l.from) ≡ read_list reader (length l.fn.into) l.fn.from;
      long : length l.into ≡ length l.fn.into;
    }
