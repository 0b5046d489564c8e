use Rattle.std.proofs.Common.{◌≤◌, take}
use Rattle.ds_io.specs.Sinks.{Appended}
use Rattle.nds_records.specs.Lists.{vertex_records}
use Rattle.nds_records.proofs.lists.put_vertices.Given as goal

-- those so far were written
abbrev pub invariant-loop-vertex : goal.invariant-loop-vertex
invariant-loop-vertex g l = record {
  written : Appended g.O.Sink.tells g.O.Sink.taken l.initial.out l.out (vertex_records (take l.vertex-index l.vertices));
  later : g.O.Sink.faults l.initial.out ≤ g.O.Sink.faults l.out;
}
