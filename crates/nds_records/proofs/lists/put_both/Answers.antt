use Rattle.nds_records.specs.Lists.{polygon_records, vertex_records}
use Rattle.ds_io.proofs.Putting.{puts_then}
use Rattle.nds_records.proofs.lists.put_both.Goals as goal

pub returns-clause-put : goal.returns-clause-put
returns-clause-put g c =
    let first = c.in_ok-put_vertices.ensures in
    rw (c.vertices.ensures, c.polygons.ensures) at
    (puts_then g.O.Sink.tells g.O.Sink.taken g.O.Sink.faults (vertex_records c.vertices.result.now) (polygon_records c.polygons.result.now)
    c.args.out.now c.put_vertices.new.out c.put_polygons.new.out c.put_polygons.result first.0 first.1 c.put_polygons.ensures.put)

pub returns-clause-long : goal.returns-clause-long
returns-clause-long g c = rw c.polygons.ensures at c.put_polygons.ensures.long
