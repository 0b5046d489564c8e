use Rattle.std.proofs.Common.{ℕ, zero, suc, ◌≡◌, ◌≤◌, ◌<◌, ◌+◌, ◌*◌, ◌^◌, List, [], ◌∷◌, sym, subst, arith}
use Rattle.std.specs.Simd.Lanes.{zip2}
use Rattle.line_lanes.specs.Lanes.{mixed_channel, mixed_pixel}
use Rattle.line_lanes.specs.Pixels.{red, green, blue, top_bit, StaysClear}

-- Bit 15 of a mixed pixel is that of the first target.

joined_clear : (r g b t : ℕ) → r ≤ 31 → g ≤ 31 → b ≤ 31 → t ≡ 0 → r + 32 * g + 1024 * b + 32768 * t < 2 ^ 15
joined_clear r g b t hr hg hb ht = omega (arith, hr, hg, hb, ht)

mixed_small : (eva evb rounding x y : ℕ) → mixed_channel eva evb rounding x y ≤ 31
mixed_small eva evb rounding x y = omega arith

mixed_clear : (eva evb rounding p q : ℕ) → p < 2 ^ 15 → mixed_pixel eva evb rounding p q < 2 ^ 15
mixed_clear eva evb rounding p q h =
    joined_clear (mixed_channel eva evb rounding (red p) (red q)) (mixed_channel eva evb rounding (green p) (green q)) (mixed_channel eva evb rounding (blue p) (blue q)) (top_bit p)
    (mixed_small eva evb rounding (red p) (red q)) (mixed_small eva evb rounding (green p) (green q)) (mixed_small eva evb rounding (blue p) (blue q)) (omega (arith, h))

zip2_clear : (f : ℕ → ℕ → ℕ) → ((p q : ℕ) → p < 2 ^ 15 → f p q < 2 ^ 15) → (xs ys : List ℕ) → StaysClear xs (zip2 f xs ys)
zip2_clear f h [] ys i small = omega arith
zip2_clear f h (x ∷ xs) [] i small = omega arith
zip2_clear f h (x ∷ xs) (y ∷ ys) zero small = h x y small
zip2_clear f h (x ∷ xs) (y ∷ ys) (suc i) small = zip2_clear f h xs ys i small

-- a row that is mixed
pub row_clear : (eva evb rounding : ℕ) (old others new : List ℕ) → new ≡ zip2 (mixed_pixel eva evb rounding) old others → StaysClear old new
row_clear eva evb rounding old others new e =
    subst (StaysClear old) (sym e) (zip2_clear (mixed_pixel eva evb rounding) (mixed_clear eva evb rounding) old others)
