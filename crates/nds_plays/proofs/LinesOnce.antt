use Rattle.nds_plays.proofs.Words.{Ending, LinesAreOne, List, Makes, Runs, Stops, Tick, TickMachine, ap, arith, least_unique, more, not_both, over}
use Rattle.nds_plays.proofs.Words.{reference, refl, same_makes, step_lines, stops, subst, sym, told_of, ℕ, ◌++◌, ◌∙◌, ◌≡◌}

-- What is told of a run's steps is one list.

module _ {S O L X : Type 0} (m : TickMachine S O L) (limit : ℕ) (tell : ℕ → Tick → S → List X) where
  told_once : (s : S) (end end₂ : Ending S L) (outs outs₂ : List O) (run : Runs m limit end s outs) (run₂ : Runs m limit end₂ s outs₂) → told_of tell run ≡ told_of tell run₂
  told_once s end end₂ outs outs₂ (over _ none) (over _ none₂) = refl
  told_once s end end₂ outs outs₂ (over _ none) (stops _ after t r stop least below halts) = absurd (let le = none r t least.there in omega (arith, le, below))
  told_once s end end₂ outs outs₂ (over _ none) (more _ _ next t r front rest least below goes run₂) = absurd (let le = none r t least.there in omega (arith, le, below))
  told_once s end end₂ outs outs₂ (stops _ after t r stop least below halts) (over _ none) = absurd (let le = none r t least.there in omega (arith, le, below))
  told_once s end end₂ outs outs₂ (stops _ after t r stop least below halts) (stops _ after₂ t₂ r₂ stop₂ least₂ below₂ halts₂) = refl
  told_once s end end₂ outs outs₂ (stops _ after t r stop least below halts) (more _ _ next t₂ r₂ front rest least₂ below₂ goes run₂) =
      let same = least_unique (m.dues s) t r t₂ r₂ least least₂ in
      let P : ℕ → Type 0 = λ x. m.step x s ≡ Stops stop after in
      absurd (not_both next after front stop (sym goes ∙ subst P same.1 halts))
  told_once s end end₂ outs outs₂ (more _ _ next t r front rest least below goes run) (over _ none) = absurd (let le = none r t least.there in omega (arith, le, below))
  told_once s end end₂ outs outs₂ (more _ _ next t r front rest least below goes run) (stops _ after t₂ r₂ stop least₂ below₂ halts) =
      let same = least_unique (m.dues s) t r t₂ r₂ least least₂ in
      let P : ℕ → Type 0 = λ x. m.step x s ≡ Makes next front in
      absurd (not_both next after front stop (sym (subst P same.1 goes) ∙ halts))
  told_once s end end₂ outs outs₂ (more _ _ next t r front rest least below goes run) (more _ _ next₂ t₂ r₂ front₂ rest₂ least₂ below₂ goes₂ run₂) =
      let same = least_unique (m.dues s) t r t₂ r₂ least least₂ in
      let P : ℕ → Type 0 = λ x. m.step x s ≡ Makes next front in
      let joined = same_makes next next₂ front front₂ (sym (subst P same.1 goes) ∙ goes₂) in
      let Q : S → Type 0 = λ n. (run₃ : Runs m limit end₂ n rest₂) → told_of tell run ≡ told_of tell run₃ in
      let later = subst Q joined.0 (λ run₃. told_once next end end₂ rest rest₂ run run₃) run₂ in
      ap (λ (x : ℕ). tell x t s ++ told_of tell run) same.1
      ∙ ap (λ (x : Tick). tell r₂ x s ++ told_of tell run) same.0
      ∙ ap (λ (x : List X). tell r₂ t₂ s ++ x) later

pub lines_are_one : LinesAreOne
lines_are_one proc limit s end end₂ outs outs₂ run run₂ = told_once reference limit (step_lines proc) s end end₂ outs outs₂ run run₂
