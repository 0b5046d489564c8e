use Rattle.gx_geometry.proofs.Words.{FitsSigned, arith, bit, fits_signed_mul, ints, is_kept, negsuc, pos, refl, rules, suc, unsigned_abs}
use Rattle.gx_geometry.proofs.Words.{unsigned_abs-mul, w128, zero, ℕ, ℤ, ◌*ℤ◌, ◌*◌, ◌+◌, ◌-◌, ◌<ℤ◌, ◌<◌, ◌^◌, ◌||◌, ◌≡◌, ◌≤ℤ◌, ◌≤◌}
use Rattle.std.proofs.Math.Nat.{mul-le-mul_right}

-- polygons by the sign of the determinant
pub kept_front : (attributes : ℕ) (d : ℤ) → pos 0 <ℤ d → is_kept attributes d ≡ bit 7 attributes
unfolding is_kept
kept_front attributes (pos zero) h = absurd (omega (arith, ints))
kept_front attributes (pos (suc n)) h = refl
kept_front attributes (negsuc n) h = absurd (omega (arith, ints))

pub kept_back : (attributes : ℕ) (d : ℤ) → d <ℤ pos 0 → is_kept attributes d ≡ bit 6 attributes
unfolding is_kept
kept_back attributes (pos n) h = absurd (omega (arith, ints))
kept_back attributes (negsuc n) h = refl

pub kept_edge : (attributes : ℕ) (d : ℤ) → d ≤ℤ pos 0 → pos 0 ≤ℤ d → is_kept attributes d ≡ (bit 6 attributes || bit 7 attributes)
unfolding is_kept
kept_edge attributes (pos zero) h k = refl
kept_edge attributes (pos (suc n)) h k = absurd (omega (arith, ints))
kept_edge attributes (negsuc n) h k = absurd (omega (arith, ints))

-- the sizes of a number and of a minor bound their product
size_between : (z : ℤ) → negsuc (2 ^ 64) ≤ℤ z → z ≤ℤ pos (2 ^ 64) → unsigned_abs z ≤ 2 ^ 64 + 1
size_between (pos n) l h = omega (arith, ints)
size_between (negsuc n) l h = omega (arith, ints)

size_of_word : (z : ℤ) → negsuc (2 ^ 31) ≤ℤ z → z ≤ℤ pos (2 ^ 31) → unsigned_abs z ≤ 2 ^ 31 + 1
size_of_word (pos n) l h = omega (arith, ints)
size_of_word (negsuc n) l h = omega (arith, ints)

below_size : (z : ℤ) → unsigned_abs z ≤ 2 ^ 97 → negsuc (2 ^ 97) ≤ℤ z
below_size (pos n) h = omega (arith, ints)
below_size (negsuc n) h = omega (arith, ints)

above_size : (z : ℤ) → unsigned_abs z ≤ 2 ^ 97 → z ≤ℤ pos (2 ^ 97)
above_size (pos n) h = omega (arith, ints)
above_size (negsuc n) h = omega (arith, ints)

pub product_fits : (a z : ℤ) → negsuc (2 ^ 31) ≤ℤ a → a ≤ℤ pos (2 ^ 31) → negsuc (2 ^ 64) ≤ℤ z → z ≤ℤ pos (2 ^ 64) → FitsSigned w128 (a *ℤ z)
product_fits a z al ah zl zh = fits_signed_mul w128 a z (2 ^ 31 + 1) (2 ^ 64 + 1) (size_of_word a al ah) (size_between z zl zh) (omega arith)

product_size : (a z : ℤ) → negsuc (2 ^ 31) ≤ℤ a → a ≤ℤ pos (2 ^ 31) → negsuc (2 ^ 64) ≤ℤ z → z ≤ℤ pos (2 ^ 64) → unsigned_abs (a *ℤ z) ≤ 2 ^ 97
product_size a z al ah zl zh =
    let m : unsigned_abs a * unsigned_abs z ≤ (2 ^ 31 + 1) * unsigned_abs z = mul-le-mul_right (unsigned_abs z) (size_of_word a al ah) in
    let n : unsigned_abs z ≤ 2 ^ 64 + 1 = size_between z zl zh in
    rw unsigned_abs-mul (omega arith)

pub product_low : (a z : ℤ) → negsuc (2 ^ 31) ≤ℤ a → a ≤ℤ pos (2 ^ 31) → negsuc (2 ^ 64) ≤ℤ z → z ≤ℤ pos (2 ^ 64) → negsuc (2 ^ 97) ≤ℤ (a *ℤ z)
product_low a z al ah zl zh = below_size (a *ℤ z) (product_size a z al ah zl zh)

pub product_high : (a z : ℤ) → negsuc (2 ^ 31) ≤ℤ a → a ≤ℤ pos (2 ^ 31) → negsuc (2 ^ 64) ≤ℤ z → z ≤ℤ pos (2 ^ 64) → (a *ℤ z) ≤ℤ pos (2 ^ 97)
product_high a z al ah zl zh = above_size (a *ℤ z) (product_size a z al ah zl zh)

pub ruleset sides = (arith, kept_front, kept_back, kept_edge)
