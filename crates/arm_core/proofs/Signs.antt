use Rattle.std.proofs.Common.{ℕ, zero, suc, ◌≡◌, ◌<◌, refl, arith}
use Rattle.std.specs.Prelude.{bit_and, bit_xor, ◌==◌, ◌&&◌, not}

-- Signs, which are 0 or 1, compared by their bits.
pub both_differ : (s t u : ℕ) → s < 2 → t < 2 → u < 2 → (bit_and (bit_xor s t) (bit_xor s u) == 1) ≡ (not (s == t) && not (s == u))
both_differ zero zero zero ls lt lu = refl
both_differ zero zero (suc zero) ls lt lu = refl
both_differ zero (suc zero) zero ls lt lu = refl
both_differ zero (suc zero) (suc zero) ls lt lu = refl
both_differ (suc zero) zero zero ls lt lu = refl
both_differ (suc zero) zero (suc zero) ls lt lu = refl
both_differ (suc zero) (suc zero) zero ls lt lu = refl
both_differ (suc zero) (suc zero) (suc zero) ls lt lu = refl
both_differ (suc (suc s)) t u ls lt lu = absurd (omega (arith, ls))
both_differ zero (suc (suc t)) u ls lt lu = absurd (omega (arith, lt))
both_differ (suc zero) (suc (suc t)) u ls lt lu = absurd (omega (arith, lt))
both_differ zero zero (suc (suc u)) ls lt lu = absurd (omega (arith, lu))
both_differ zero (suc zero) (suc (suc u)) ls lt lu = absurd (omega (arith, lu))
both_differ (suc zero) zero (suc (suc u)) ls lt lu = absurd (omega (arith, lu))
both_differ (suc zero) (suc zero) (suc (suc u)) ls lt lu = absurd (omega (arith, lu))

pub alike_and_differs : (s t u : ℕ) → s < 2 → t < 2 → u < 2 → (bit_and (bit_xor (bit_xor s t) 1) (bit_xor s u) == 1) ≡ ((s == t) && not (s == u))
alike_and_differs zero zero zero ls lt lu = refl
alike_and_differs zero zero (suc zero) ls lt lu = refl
alike_and_differs zero (suc zero) zero ls lt lu = refl
alike_and_differs zero (suc zero) (suc zero) ls lt lu = refl
alike_and_differs (suc zero) zero zero ls lt lu = refl
alike_and_differs (suc zero) zero (suc zero) ls lt lu = refl
alike_and_differs (suc zero) (suc zero) zero ls lt lu = refl
alike_and_differs (suc zero) (suc zero) (suc zero) ls lt lu = refl
alike_and_differs (suc (suc s)) t u ls lt lu = absurd (omega (arith, ls))
alike_and_differs zero (suc (suc t)) u ls lt lu = absurd (omega (arith, lt))
alike_and_differs (suc zero) (suc (suc t)) u ls lt lu = absurd (omega (arith, lt))
alike_and_differs zero zero (suc (suc u)) ls lt lu = absurd (omega (arith, lu))
alike_and_differs zero (suc zero) (suc (suc u)) ls lt lu = absurd (omega (arith, lu))
alike_and_differs (suc zero) zero (suc (suc u)) ls lt lu = absurd (omega (arith, lu))
alike_and_differs (suc zero) (suc zero) (suc (suc u)) ls lt lu = absurd (omega (arith, lu))
