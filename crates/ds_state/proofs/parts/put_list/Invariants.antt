use Rattle.std.proofs.Common.{◌≡◌, drop, map}
use Rattle.ds_state.specs.Formats.{written_each}
use Rattle.ds_state.proofs.parts.put_list.Given as goal

abbrev pub invariant-loop-part : goal.invariant-loop-part
invariant-loop-part g l =
    let state = g.T.Part.state in
    let writer = g.T.Part.writer in
    written_each writer l.into (map state (drop l.part-index l.parts)) ≡ written_each writer l.fn.into (map state l.fn.parts)
