use Rattle.std.proofs.Common.{◌++◌}
use Rattle.std.specs.List.{concat}
use Rattle.std.proofs.lemmas.Result.{err_from_is_err_and, on_ok_weaker}
use Rattle.ds_io.proofs.SinkLemmas.{front_of_more}
use Rattle.nds_records.specs.Lists.{lists_head, polygon_records, vertex_records}
use Rattle.ds_io.proofs.Putting.{puts_then}
use Rattle.nds_records.proofs.Lengths.{lists_long}
use Rattle.nds_records.proofs.lists.put_lists.Goals as goal

pub returns-in_err-put_head-clause-put : goal.returns-in_err-put_head-clause-put
returns-in_err-put_head-clause-put g c =
    let p = err_from_is_err_and c.from_residual.result c.from_residual.ensures.1 in
    let lists = c.args.lists.now in
    let h = c.in_err-put_head.ensures in
    rw p.1 (
      front_of_more g.O.Sink.tells g.O.Sink.taken c.args.out.now c.put_head.new.out (concat (lists_head lists)) (vertex_records lists.vertices ++ polygon_records lists.polygons) h.0,
      h.1,
      h.2,
    )

pub returns-clause-put : goal.returns-clause-put
returns-clause-put g c =
    let lists = c.args.lists.now in
    let first = c.in_ok-put_head.ensures in
    puts_then g.O.Sink.tells g.O.Sink.taken g.O.Sink.faults (concat (lists_head lists)) (vertex_records lists.vertices ++ polygon_records lists.polygons)
    c.args.out.now c.put_head.new.out c.put_both.new.out c.put_both.result first.0 first.1 c.put_both.ensures.put

pub returns-clause-long : goal.returns-clause-long
returns-clause-long g c = on_ok_weaker c.put_both.result (lists_long c.args.lists.now) c.put_both.ensures.long
