use Rattle.std.proofs.Common.{ℕ, zero, suc, ◌≡◌, ◌≢◌, ◌<◌, ◌≤◌, ◌%◌, ◌⊎◌, inl, inr, ℤ, pos, negsuc, neg_ℤ, ◌<ℤ◌, unsigned_abs, refl, sym, arith, rules}
use Rattle.std.specs.Prelude.{int_div, int_rem}
use Rattle.std.proofs.lemmas.Int.{quot-rem, rem_below, ints}
use Rattle.ds_math.specs.Division.{IsDivision, modulo}
use Rattle.ds_math.specs.Dividers.{AreResults, divided, by_zero, quotient_word, remainder_word}

above_zero : (d : ℤ) → d ≢ pos 0 → 0 < unsigned_abs d
above_zero (pos zero) h = absurd (h refl)
above_zero (pos (suc k)) h = omega arith
above_zero (negsuc k) h = omega arith

up_sign : (a k : ℕ) → k ≤ a → (pos k ≡ pos 0) ⊎ ((pos a <ℤ pos 0) × (pos k <ℤ pos 0)) ⊎ ((pos 0 <ℤ pos a) × (pos 0 <ℤ pos k))
up_sign a zero h = inl refl
up_sign a (suc k) h = inr (inr (omega (arith, ints), omega (arith, ints)))

down_sign : (a k : ℕ) → (neg_ℤ (pos k) ≡ pos 0) ⊎ ((negsuc a <ℤ pos 0) × (neg_ℤ (pos k) <ℤ pos 0)) ⊎ ((pos 0 <ℤ negsuc a) × (pos 0 <ℤ neg_ℤ (pos k)))
down_sign a zero = inl refl
down_sign a (suc k) = inr (inl (omega (arith, ints), omega (arith, ints)))

mod_le : (a m : ℕ) → 0 < m → a % m ≤ a
mod_le a m h = omega arith

-- a remainder is 0 or has the numerator's sign
rem_sign : (n d : ℤ) → d ≢ pos 0 → (int_rem n d ≡ pos 0) ⊎ ((n <ℤ pos 0) × (int_rem n d <ℤ pos 0)) ⊎ ((pos 0 <ℤ n) × (pos 0 <ℤ int_rem n d))
rem_sign (pos a) d h = up_sign a (a % unsigned_abs d) (mod_le a (unsigned_abs d) (above_zero d h))
rem_sign (negsuc a) d h = down_sign a (suc a % unsigned_abs d)

-- rounding towards zero is the division of the definition
is_division : (n d : ℤ) → d ≢ pos 0 → IsDivision n d (int_div n d) (int_rem n d)
is_division n d h = record { equation = sym (quot-rem n d); smaller = rem_below n d (above_zero d h); sign = rem_sign n d h }

above_not : (k : ℕ) → pos (suc k) ≢ pos 0
above_not k h = grind arith

below_not : (k : ℕ) → negsuc k ≢ pos 0
below_not k h = grind arith

quotient_else : (mode : ℕ) (n d : ℤ) → 0 < unsigned_abs d → quotient_word mode n d ≡ modulo (int_div n d)
quotient_else mode n d h = grind (arith, rules)

remainder_else : (n d : ℤ) → 0 < unsigned_abs d → remainder_word n d ≡ modulo (int_rem n d)
remainder_else n d h = grind (arith, rules)

otherwise : (mode : ℕ) (n d : ℤ) → d ≢ pos 0 → AreResults mode n d (quotient_word mode n d) (remainder_word n d)
otherwise mode n d h =
    let above = above_zero d h in
    divided h (record { q = int_div n d; r = int_rem n d; exact = is_division n d h; quotient_word = quotient_else mode n d above; remainder_word = remainder_else n d above })

-- the results as numbers are results
pub are_results : (mode : ℕ) (n d : ℤ) → AreResults mode n d (quotient_word mode n d) (remainder_word n d)
are_results mode n (pos zero) = by_zero refl refl refl
are_results mode n (pos (suc k)) = otherwise mode n (pos (suc k)) (above_not k)
are_results mode n (negsuc k) = otherwise mode n (negsuc k) (below_not k)
