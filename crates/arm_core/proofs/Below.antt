use Rattle.std.proofs.Common.{ℕ, zero, suc, ◌≡◌, ◌<◌, inl, inr, Bool, true, sym, subst, arith}
use Rattle.std.specs.Prelude.{◌&&◌}
use Rattle.ds_base.proofs.Choices.{both, same_or_not}

-- Tests of all numbers below a bound, by computing.

unfoldable pub all_below : ℕ → (ℕ → Bool) → Bool
all_below zero p = true
all_below (suc n) p = p n && all_below n p

pub all_below_holds : (n r : ℕ) (p : ℕ → Bool) → r < n → all_below n p ≡ true → p r ≡ true
unfolding all_below
all_below_holds zero r p lt h = absurd (omega (arith, lt))
all_below_holds (suc n) r p lt h =
    let k = both (p n) (all_below n p) h in
    elim (same_or_not r n) [
      | inl e ↦ (let P : ℕ → Type 0 = λ x. p x ≡ true in subst P (sym e) k.0)
      | inr ne ↦ all_below_holds n r p (omega arith) k.1
    ]
