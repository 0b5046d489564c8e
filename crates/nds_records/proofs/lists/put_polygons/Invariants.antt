use Rattle.std.proofs.Common.{◌≡◌, ◌≤◌, ◌*◌, length, take}
use Rattle.ds_io.specs.Sinks.{Appended}
use Rattle.nds_records.specs.Lists.{polygon_records}
use Rattle.nds_records.proofs.lists.put_polygons.Given as goal

-- those so far were written
abbrev pub invariant-loop-polygon : goal.invariant-loop-polygon
invariant-loop-polygon g l = record {
  written : Appended g.O.Sink.tells g.O.Sink.taken l.initial.out l.out (polygon_records (take l.polygon-index l.polygons));
  later : g.O.Sink.faults l.initial.out ≤ g.O.Sink.faults l.out;
  long : length (polygon_records (take l.polygon-index l.polygons)) ≡ 25 * l.polygon-index;
}
