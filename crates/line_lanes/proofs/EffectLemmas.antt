use Rattle.std.proofs.Common.{ℕ, ◌≡◌, ◌≤◌, ◌<◌, ◌+◌, ◌-◌, ◌*◌, ◌/◌, List, [], ◌∷◌, length, map, refl, ap, ◌∙◌, arith}
use Rattle.std.proofs.Math.Nat.{mul-le-mul_left}
use Rattle.std.specs.Prelude.{replicate}
use Rattle.std.specs.Simd.Lanes.{zip2}
use Rattle.std.proofs.lemmas.Simd.{zip2_splat}
use Rattle.line_lanes.specs.Lanes.{mixed_channel, mixed_pixel}
use Rattle.line_lanes.specs.Pixels.{brightened, darkened, held, red, green, blue}

-- two factors of sixteen sixteenths share a channel out
shared : (x w e : ℕ) → w + e ≡ 16 → x * w + x * e ≡ x * 16
shared x w e h = omega arith ∙ ap (λ (s : ℕ). x * s) h

-- a channel mixed with white is brightened
mixed_white : (w e x y : ℕ) → w + e ≡ 16 → x + y ≡ 31 → mixed_channel w e 0 x 31 ≡ x + y * e / 16
mixed_white w e x y h k =
    let a : x * w + x * e ≡ x * 16 = shared x w e h in
    let b : x * e + y * e ≡ 31 * e = omega arith ∙ ap (λ (s : ℕ). s * e) k in
    let m : y * e ≤ y * 16 = mul-le-mul_left y (omega arith) in
    omega (arith, a, b, m)

-- a channel mixed with black, and rounded up, is darkened
mixed_black : (w e x : ℕ) → w + e ≡ 16 → x ≤ 31 → mixed_channel w e 15 x 0 ≡ x - x * e / 16
mixed_black w e x h k =
    let a : x * w + x * e ≡ x * 16 = shared x w e h in
    omega (arith, a)

-- what holds of f and g at each element holds of the lists
map-same : (f g : ℕ → ℕ) → ((x : ℕ) → f x ≡ g x) → (xs : List ℕ) → map f xs ≡ map g xs
map-same f g h [] = refl
map-same f g h (x ∷ xs) = rw (h x, map-same f g h xs)

module _ (evy : ℕ) where
  white_pixel : (p : ℕ) → mixed_pixel (16 - held evy) (held evy) 0 p 32767 ≡ brightened evy p
  white_pixel p =
      let e : (16 - held evy) + held evy ≡ 16 = omega arith in
      let one : (x : ℕ) → x < 32 → mixed_channel (16 - held evy) (held evy) 0 x 31 ≡ x + (31 - x) * held evy / 16 =
      λ x h. mixed_white (16 - held evy) (held evy) x (31 - x) e (omega arith) in
      rw (one (red p) (omega arith), one (green p) (omega arith), one (blue p) (omega arith))

  black_pixel : (p : ℕ) → mixed_pixel (16 - held evy) (held evy) 15 p 0 ≡ darkened evy p
  black_pixel p =
      let e : (16 - held evy) + held evy ≡ 16 = omega arith in
      let one : (x : ℕ) → x < 32 → mixed_channel (16 - held evy) (held evy) 15 x 0 ≡ x - x * held evy / 16 =
      λ x h. mixed_black (16 - held evy) (held evy) x e (omega arith) in
      rw (one (red p) (omega arith), one (green p) (omega arith), one (blue p) (omega arith))

  -- a row mixed with white
  pub zip2-white : (row : List ℕ) → zip2 (mixed_pixel (16 - held evy) (held evy) 0) row (replicate (length row) 32767) ≡ map (brightened evy) row
  zip2-white row =
      zip2_splat (mixed_pixel (16 - held evy) (held evy) 0) row (length row) 32767 refl
      ∙ map-same (λ p. mixed_pixel (16 - held evy) (held evy) 0 p 32767) (brightened evy) white_pixel row

  -- a row mixed with black
  pub zip2-black : (row : List ℕ) → zip2 (mixed_pixel (16 - held evy) (held evy) 15) row (replicate (length row) 0) ≡ map (darkened evy) row
  zip2-black row =
      zip2_splat (mixed_pixel (16 - held evy) (held evy) 15) row (length row) 0 refl
      ∙ map-same (λ p. mixed_pixel (16 - held evy) (held evy) 15 p 0) (darkened evy) black_pixel row
