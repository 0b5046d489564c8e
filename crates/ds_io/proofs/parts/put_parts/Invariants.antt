use Rattle.std.proofs.Common.{◌≤◌, flat_map, take}
use Rattle.ds_io.specs.Sinks.{Appended}
use Rattle.ds_io.proofs.parts.put_parts.Given as goal

-- the parts so far were written
abbrev pub invariant-loop-part : goal.invariant-loop-part
invariant-loop-part g l = record {
  written : Appended g.O.Sink.tells g.O.Sink.taken l.initial.out l.out (flat_map (λ part. part.now) (take l.part-index l.parts));
  later : g.O.Sink.faults l.initial.out ≤ g.O.Sink.faults l.out;
}
