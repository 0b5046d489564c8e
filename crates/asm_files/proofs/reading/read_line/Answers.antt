use Rattle.asm_files.proofs.Words.{List, arith, length, number_in, subst, sym, ℕ, ◌≤◌}
use Rattle.asm_files.proofs.LoopLaws.{four_at_most}
use Rattle.asm_files.proofs.reading.read_line.Goals as goal

pub returns-in-Ok-clause-short : goal.returns-in-Ok-clause-short
returns-in-Ok-clause-short c =
    let s = c.in-Ok.spelling in
    let few = four_at_most s in
    let P : List ℕ → Type 0 = λ x. 3 ≤ length x in
    let long : 3 ≤ length c.args.line.now = subst P (sym c.in-Ok.ensures.found.2) (c.statement_laws.ensures.long c.args.arch c.args.set c.args.place.at (number_in s)) in
    omega (arith, few, long)
