use Rattle.std.proofs.Common.{arith, ◌<◌, ◌++◌, List, ℕ, length, take, drop, get_or, suc, subst}
use Rattle.std.specs.List.{concat}
use Rattle.std.proofs.lemmas.Result.{err_from_is_err_and}
use Rattle.ds_io.specs.Sinks.{AppendedFront}
use Rattle.ds_io.proofs.SinkLemmas.{front_after, front_of_more}
use Rattle.gx_geometry.specs.declared.polygons.Vertex.{Vertex}
use Rattle.nds_records.specs.Lists.{vertex_record, vertex_records}
use Rattle.ds_io.proofs.Pieces.{pieces}
use Rattle.nds_records.proofs.lists.put_vertices.Goals as goal

pub returns-in_err-put_all : goal.returns-in_err-put_all
returns-in_err-put_all g c =
    let p = err_from_is_err_and c.from_residual.result c.from_residual.ensures.1 in
    let f : Vertex → List ℕ = λ x. concat (vertex_record x) in
    let i : ℕ = c.loop-vertex.vertex-index in
    let items : List Vertex = c.args.vertices.now in
    let lt : i < length items = c.loop-vertex-test.true in
    let P : List ℕ → Type 0 = λ x. AppendedFront g.O.Sink.tells g.O.Sink.taken c.args.out.now c.put_all.new.sink x in
    let Q : List ℕ → Type 0 = λ x. AppendedFront g.O.Sink.tells g.O.Sink.taken c.loop-vertex.out c.put_all.new.sink x in
    let put : Q (f (get_or items i _)) = subst Q c.vertex_bytes.ensures c.in_err-put_all.ensures.err in
    let whole = front_of_more g.O.Sink.tells g.O.Sink.taken c.args.out.now c.put_all.new.sink (vertex_records (take i items) ++ f (get_or items i _)) (vertex_records (drop (suc i) items))
    (front_after g.O.Sink.tells g.O.Sink.taken _ _ _ (vertex_records (take i items)) (f (get_or items i _)) c.loop-vertex.invariant.written put) in
    rw p.1 (subst P (pieces f items i _ lt) whole, omega (arith, c.in_err-put_all.ensures.cause, c.loop-vertex.invariant.later), omega (arith, c.in_err-put_all.ensures.later, c.loop-vertex.invariant.later))
