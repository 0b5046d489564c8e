use Rattle.gx_geometry.proofs.Words.{FitsSigned, ap, arith, negsuc, of_z-to_z, pos, refl, suc, sym, to_z-of_z, w32, ℕ, ℤ, ◌%◌, ◌*◌, ◌+ℤ◌, ◌+◌, ◌-◌}
use Rattle.gx_geometry.proofs.Words.{◌/◌, ◌<◌, ◌^◌, ◌∙◌, ◌≡◌}
use Rattle.std.specs.Int.{cast_signed, cast_unsigned, int_wrap, w16, w64}
use Rattle.gx_geometry.specs.Coordinates.{half_of_sum, signed_13, tested_of_sum}

below : (n : ℕ) → n % 2 ^ 64 < 2 ^ 64
below n = omega arith

below_top : (n : ℕ) → 2 ^ 64 - 1 - n % 2 ^ 64 < 2 ^ 64
below_top n = omega arith

-- a sum of 64 bits that wrapped shows the bits of the exact sum: those of 2 ^ 17 and 2 ^ 20 on, and of 2 ^ 9 on
low_17 : (n : ℕ) → n % 2 ^ 64 / 131072 % 2 ^ 16 ≡ n / 131072 % 2 ^ 16
low_17 n = omega arith

top_17 : (n : ℕ) → (2 ^ 64 - 1 - n % 2 ^ 64) / 131072 % 2 ^ 16 ≡ 2 ^ 16 - 1 - n / 131072 % 2 ^ 16
top_17 n = omega arith

low_20 : (n : ℕ) → n % 2 ^ 64 / 1048576 % 2 ^ 16 ≡ n / 1048576 % 2 ^ 16
low_20 n = omega arith

top_20 : (n : ℕ) → (2 ^ 64 - 1 - n % 2 ^ 64) / 1048576 % 2 ^ 16 ≡ 2 ^ 16 - 1 - n / 1048576 % 2 ^ 16
top_20 n = omega arith

low_9 : (n : ℕ) → n % 2 ^ 64 / 512 % 8192 ≡ n / 512 % 8192
low_9 n = omega arith

top_9 : (n : ℕ) → (2 ^ 64 - 1 - n % 2 ^ 64) / 512 % 8192 ≡ 8192 - 1 - n / 512 % 8192
top_9 n = omega arith

pub half_17 : (z : ℤ) → cast_signed w16 (cast_unsigned w64 (int_wrap w64 z) / 131072 % 2 ^ 16) ≡ half_of_sum 131072 z
unfolding int_wrap half_of_sum
half_17 (pos n) = ap (λ (m : ℕ). cast_signed w16 (m / 131072 % 2 ^ 16)) (of_z-to_z w64 (n % 2 ^ 64) (below n)) ∙ ap (cast_signed w16) (low_17 n)
half_17 (negsuc n) = ap (λ (m : ℕ). cast_signed w16 (m / 131072 % 2 ^ 16)) (of_z-to_z w64 (2 ^ 64 - 1 - n % 2 ^ 64) (below_top n)) ∙ ap (cast_signed w16) (top_17 n)

pub half_20 : (z : ℤ) → cast_signed w16 (cast_unsigned w64 (int_wrap w64 z) / 1048576 % 2 ^ 16) ≡ half_of_sum 1048576 z
unfolding int_wrap half_of_sum
half_20 (pos n) = ap (λ (m : ℕ). cast_signed w16 (m / 1048576 % 2 ^ 16)) (of_z-to_z w64 (n % 2 ^ 64) (below n)) ∙ ap (cast_signed w16) (low_20 n)
half_20 (negsuc n) = ap (λ (m : ℕ). cast_signed w16 (m / 1048576 % 2 ^ 16)) (of_z-to_z w64 (2 ^ 64 - 1 - n % 2 ^ 64) (below_top n)) ∙ ap (cast_signed w16) (top_20 n)

pub tested_13 : (z : ℤ) → signed_13 (cast_unsigned w64 (int_wrap w64 z) / 512 % 8192) ≡ tested_of_sum z
unfolding int_wrap tested_of_sum
tested_13 (pos n) = ap (λ (m : ℕ). signed_13 (m / 512 % 8192)) (of_z-to_z w64 (n % 2 ^ 64) (below n)) ∙ ap signed_13 (low_9 n)
tested_13 (negsuc n) = ap (λ (m : ℕ). signed_13 (m / 512 % 8192)) (of_z-to_z w64 (2 ^ 64 - 1 - n % 2 ^ 64) (below_top n)) ∙ ap signed_13 (top_9 n)

-- the lower half of a word
top_16 : (n : ℕ) → n < 2 ^ 31 → (2 ^ 32 - suc n) % 2 ^ 16 ≡ 2 ^ 16 - 1 - n % 2 ^ 16
top_16 n h = omega arith

pub low_half_of : (z : ℤ) → FitsSigned w32 z → cast_signed w16 (cast_unsigned w32 z % 2 ^ 16) ≡ int_wrap w16 z
unfolding int_wrap
low_half_of (pos n) f = refl
low_half_of (negsuc n) f = ap (cast_signed w16) (top_16 n (omega (arith, f.sfits)))

-- for the functions that take such bits
pub ruleset halves = (arith, to_z-of_z, half_17, half_20)

pub ruleset tests = (arith, to_z-of_z, tested_13)

pub ruleset low_halves = (arith, to_z-of_z, low_half_of)
