use Rattle.nds_plays.proofs.Words.{Appended, AppendedFront, List, append_none, append_twice, arith, drop, err_from_is_err_and, front_after}
use Rattle.nds_plays.proofs.Words.{front_of_more, halves, subst, sym, take, ℕ, ◌*◌, ◌++◌, ◌+◌}
use Rattle.nds_plays.proofs.Rows.{halves_none, row_lent, rows_more, rows_whole}
use Rattle.nds_plays.proofs.records.put_pixels.Goals as goal

pub loop-row-init : goal.loop-row-init
loop-row-init g c =
    let P : List ℕ → Type 0 = λ x. Appended g.O.Sink.tells g.O.Sink.taken c.args.out.now c.args.out.now x in
    record { written = subst P (sym halves_none) (append_none g.O.Sink.tells g.O.Sink.taken c.args.out.now); later = omega arith }

pub returns-in_err-put_all : goal.returns-in_err-put_all
returns-in_err-put_all g c =
    let p = err_from_is_err_and c.from_residual.result c.from_residual.ensures.1 in
    let xs : List ℕ = c.args.pixels.now in
    let row : ℕ = c.loop-row.row in
    let done : List ℕ = halves (take (256 * row) xs) in
    let next : List ℕ = halves (take 256 (drop (256 * row) xs)) in
    let P : List ℕ → Type 0 = λ x. AppendedFront g.O.Sink.tells g.O.Sink.taken c.args.out.now c.put_all.new.sink x in
    let Q : List ℕ → Type 0 = λ x. AppendedFront g.O.Sink.tells g.O.Sink.taken c.loop-row.out c.put_all.new.sink x in
    let put : AppendedFront g.O.Sink.tells g.O.Sink.taken c.loop-row.out c.put_all.new.sink next = subst Q (row_lent xs row c.row_bytes.result c.row_bytes.ensures) c.in_err-put_all.ensures.err in
    let whole = front_of_more g.O.Sink.tells g.O.Sink.taken c.args.out.now c.put_all.new.sink (done ++ next) (halves (drop (256 * (row + 1)) xs))
    (front_after g.O.Sink.tells g.O.Sink.taken c.args.out.now c.loop-row.out c.put_all.new.sink done next c.loop-row.invariant.written put) in
    rw p.1 (subst P (rows_whole xs row) whole, omega (arith, c.in_err-put_all.ensures.cause, c.loop-row.invariant.later), omega (arith, c.in_err-put_all.ensures.later, c.loop-row.invariant.later))

pub loop-row-preserved : goal.loop-row-preserved
loop-row-preserved g c =
    let xs : List ℕ = c.args.pixels.now in
    let row : ℕ = c.loop-row.row in
    let done : List ℕ = halves (take (256 * row) xs) in
    let next : List ℕ = halves (take 256 (drop (256 * row) xs)) in
    let P : List ℕ → Type 0 = λ x. Appended g.O.Sink.tells g.O.Sink.taken c.args.out.now c.put_all.new.sink x in
    let Q : List ℕ → Type 0 = λ x. Appended g.O.Sink.tells g.O.Sink.taken c.loop-row.out c.put_all.new.sink x in
    let put : Appended g.O.Sink.tells g.O.Sink.taken c.loop-row.out c.put_all.new.sink next = subst Q (row_lent xs row c.row_bytes.result c.row_bytes.ensures) c.in_ok-put_all.ensures.ok in
    record {
      written = subst P (rows_more xs row)
          (append_twice g.O.Sink.tells g.O.Sink.taken c.args.out.now c.loop-row.out c.put_all.new.sink done next c.loop-row.invariant.written put);
      later = omega (arith, c.in_ok-put_all.ensures.later, c.loop-row.invariant.later);
    }
