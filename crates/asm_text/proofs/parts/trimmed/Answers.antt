use Rattle.std.proofs.Common.{◌≡◌, ◌≢◌, ◌<◌, length, ◌∷◌, [], ℕ, List, get_or, refl, arith, sym, ◌∙◌}
use Rattle.asm_text.specs.Text.{trimmed}
use Rattle.asm_text.proofs.parts.trimmed.Goals as goal

-- a list that isn't a zero before more stands
stands : (xs : List ℕ) → (1 < length xs → get_or xs 0 0 ≢ 48) → trimmed xs ≡ xs
stands [] h = refl
stands (x ∷ []) h = refl
stands (x ∷ y ∷ ys) h = let n : x ≢ 48 = h (omega arith) in grind (arith, n)

pub returns-after-loop-rest-clause-text : goal.returns-after-loop-rest-clause-text
returns-after-loop-rest-clause-text c =
    let e = stands c.loop-rest.rest.now (λ more. absurd (let f = c.loop-rest-test.false in omega arith)) in
    sym e ∙ c.loop-rest.invariant.same
