use Rattle.std.proofs.Common.{arith, ◌<◌, ◌+◌, ◌-◌, ◌/◌, ◌++◌, List, ℕ, length, flat_map, subst, ◌∙◌}
use Rattle.std.specs.List.{range_with_len}
use Rattle.std.proofs.lemmas.Result.{err_from_is_err_and}
use Rattle.ds_io.specs.Sinks.{Appended, AppendedFront}
use Rattle.ds_io.proofs.SinkLemmas.{append_twice, front_after, front_of_more}
use Rattle.nds_records.proofs.LineLists.{line_at, lines_more, lines_split}
use Rattle.nds_records.proofs.peeks.put_peek.Goals as goal

pub returns-in_err-put_all-clause-err : goal.returns-in_err-put_all-clause-err
returns-in_err-put_all-clause-err g c =
    let p = err_from_is_err_and c.from_residual.result c.from_residual.ensures.1 in
    let place = c.args.place in
    let bytes = c.args.bytes.now in
    let n = c.loop-line.line in
    let all = (length bytes + 15) / 16 in
    let lt : n < all = omega (arith, c.loop-line-test.true, c.div_ceil-lines.ensures) in
    let P : List ℕ → Type 0 = λ x. AppendedFront g.O.Sink.tells g.O.Sink.taken c.args.out.now c.put_all.new.sink x in
    let written = c.loop-line.invariant.written in
    let put : AppendedFront g.O.Sink.tells g.O.Sink.taken c.loop-line.out c.put_all.new.sink (line_at place bytes n) = subst (λ (x : List ℕ). AppendedFront g.O.Sink.tells g.O.Sink.taken c.loop-line.out c.put_all.new.sink x) (c.bytes.ensures.text ∙ c.line_at.ensures) c.in_err-put_all.ensures.err in
    let whole = front_of_more g.O.Sink.tells g.O.Sink.taken c.args.out.now c.put_all.new.sink (flat_map (line_at place bytes) (range_with_len 0 n) ++ line_at place bytes n)
    (flat_map (line_at place bytes) (range_with_len (n + 1) (all - (n + 1))))
    (front_after g.O.Sink.tells g.O.Sink.taken c.args.out.now c.loop-line.out c.put_all.new.sink (flat_map (line_at place bytes) (range_with_len 0 n)) (line_at place bytes n) written put) in
    rw p.1 (subst P (lines_split place bytes n all lt) whole)

pub loop-line-preserved : goal.loop-line-preserved
loop-line-preserved g c =
    let place = c.args.place in
    let bytes = c.args.bytes.now in
    let n = c.loop-line.line in
    let P : List ℕ → Type 0 = λ x. Appended g.O.Sink.tells g.O.Sink.taken c.args.out.now c.put_all.new.sink x in
    let put : Appended g.O.Sink.tells g.O.Sink.taken c.loop-line.out c.put_all.new.sink (line_at place bytes n) = subst (λ (x : List ℕ). Appended g.O.Sink.tells g.O.Sink.taken c.loop-line.out c.put_all.new.sink x) (c.bytes.ensures.text ∙ c.line_at.ensures) c.in_ok-put_all.ensures.ok in
    record {
      written = subst P (lines_more place bytes n) (append_twice g.O.Sink.tells g.O.Sink.taken c.args.out.now c.loop-line.out c.put_all.new.sink (flat_map (line_at place bytes) (range_with_len 0 n)) (line_at place bytes n) c.loop-line.invariant.written put);
      later = (let a = c.loop-line.invariant.later in let b = c.put_all.ensures.later in omega (arith, a, b));
    }
