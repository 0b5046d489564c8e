use Rattle.asm_files.proofs.Words.{IsFirstBad, List, ap, drop, err_from_is_err_and, subst, sym, whole_lines, ℕ, ◌+◌, ◌∙◌, ◌∷◌}
use Rattle.asm_files.proofs.FrontLaws.{bad_start, bad_later, listing_of_path}
use Rattle.asm_files.proofs.reading.assemble.Goals as goal

pub returns-in_default-read_start-clause-bad : goal.returns-in_default-read_start-clause-bad
returns-in_default-read_start-clause-bad c =
    bad_start c.args.text.now _ _ c.in-Some.ensures.lines (λ arch set at h e. absurd (let s = c.in_default-read_start.ensures.own arch set at h e in cc))

pub returns-clause-ok : goal.returns-clause-ok
returns-clause-ok c =
    let r = c.in-Some-read_start in
    let lines = c.in-Some.ensures.lines ∙ ap (λ (l : List ℕ). l ∷ whole_lines (drop (c.in-Some.end + 1) c.args.text.now)) r.ensures.found.1 in
    (c.in_ok-n.ensures.within, listing_of_path r.arch r.set r.at _ c.args.text.now _ r.ensures.found.0 lines (c.in-Some.ensures.tail ∙ c.in_ok-n.ensures.closed) c.in_ok-n.ensures.ok)

pub returns-in_err-n-clause-bad : goal.returns-in_err-n-clause-bad
returns-in_err-n-clause-bad c =
    let r = c.in-Some-read_start in
    let lines = c.in-Some.ensures.lines ∙ ap (λ (l : List ℕ). l ∷ whole_lines (drop (c.in-Some.end + 1) c.args.text.now)) r.ensures.found.1 in
    let b = c.in_err-n.ensures.bad in
    let p = err_from_is_err_and c.from_residual.result c.from_residual.ensures.1 in
    let P : ℕ → Type 0 = λ x. IsFirstBad c.args.text.now x in
    rw (p.1, p.2) (subst P (sym b.1) (bad_later r.arch r.set r.at c.args.text.now _ _ b.0 r.ensures.found.0 lines c.in-Some.ensures.tail b.2))
