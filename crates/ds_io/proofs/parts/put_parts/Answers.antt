use Rattle.std.proofs.Common.{arith, ◌<◌, ◌++◌, List, ℕ, Bor, length, take, drop, get_or, flat_map, suc, subst}
use Rattle.std.proofs.lemmas.Result.{err_from_is_err_and}
use Rattle.ds_io.specs.Sinks.{AppendedFront}
use Rattle.ds_io.proofs.SinkLemmas.{front_after, front_of_more}
use Rattle.ds_io.proofs.Pieces.{pieces}
use Rattle.ds_io.proofs.parts.put_parts.Goals as goal

pub returns-in_err-put_all : goal.returns-in_err-put_all
returns-in_err-put_all g c =
    let p = err_from_is_err_and c.from_residual.result c.from_residual.ensures.1 in
    let f : Bor (List ℕ) → List ℕ = λ part. part.now in
    let i : ℕ = c.loop-part.part-index in
    let parts : List (Bor (List ℕ)) = c.args.parts.now in
    let lt : i < length parts = c.loop-part-test.true in
    let P : List ℕ → Type 0 = λ x. AppendedFront g.O.Sink.tells g.O.Sink.taken c.args.out.now c.put_all.new.sink x in
    let whole = front_of_more g.O.Sink.tells g.O.Sink.taken c.args.out.now c.put_all.new.sink (flat_map f (take i parts) ++ f (get_or parts i _)) (flat_map f (drop (suc i) parts))
    (front_after g.O.Sink.tells g.O.Sink.taken _ _ _ (flat_map f (take i parts)) (f (get_or parts i _)) c.loop-part.invariant.written c.in_err-put_all.ensures.err) in
    rw p.1 (subst P (pieces f parts i _ lt) whole, omega (arith, c.in_err-put_all.ensures.cause, c.loop-part.invariant.later), omega (arith, c.in_err-put_all.ensures.later, c.loop-part.invariant.later))
