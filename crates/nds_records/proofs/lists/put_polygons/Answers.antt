use Rattle.std.proofs.Common.{arith, ◌<◌, ◌++◌, List, ℕ, length, take, drop, get_or, suc, subst}
use Rattle.std.specs.List.{concat}
use Rattle.std.proofs.lemmas.Result.{err_from_is_err_and}
use Rattle.ds_io.specs.Sinks.{AppendedFront}
use Rattle.ds_io.proofs.SinkLemmas.{front_after, front_of_more}
use Rattle.gx_geometry.specs.declared.polygons.Polygon.{Polygon}
use Rattle.nds_records.specs.Lists.{polygon_record, polygon_records}
use Rattle.ds_io.proofs.Pieces.{pieces}
use Rattle.nds_records.proofs.lists.put_polygons.Goals as goal

pub returns-in_err-put_all-clause-put : goal.returns-in_err-put_all-clause-put
returns-in_err-put_all-clause-put g c =
    let p = err_from_is_err_and c.from_residual.result c.from_residual.ensures.1 in
    let f : Polygon → List ℕ = λ x. concat (polygon_record x) in
    let i : ℕ = c.loop-polygon.polygon-index in
    let items : List Polygon = c.args.polygons.now in
    let lt : i < length items = c.loop-polygon-test.true in
    let P : List ℕ → Type 0 = λ x. AppendedFront g.O.Sink.tells g.O.Sink.taken c.args.out.now c.put_all.new.sink x in
    let Q : List ℕ → Type 0 = λ x. AppendedFront g.O.Sink.tells g.O.Sink.taken c.loop-polygon.out c.put_all.new.sink x in
    let put : Q (f (get_or items i _)) = subst Q c.polygon_bytes.ensures c.in_err-put_all.ensures.err in
    let whole = front_of_more g.O.Sink.tells g.O.Sink.taken c.args.out.now c.put_all.new.sink (polygon_records (take i items) ++ f (get_or items i _)) (polygon_records (drop (suc i) items))
    (front_after g.O.Sink.tells g.O.Sink.taken _ _ _ (polygon_records (take i items)) (f (get_or items i _)) c.loop-polygon.invariant.written put) in
    rw p.1 (subst P (pieces f items i _ lt) whole, omega (arith, c.in_err-put_all.ensures.cause, c.loop-polygon.invariant.later), omega (arith, c.in_err-put_all.ensures.later, c.loop-polygon.invariant.later))
