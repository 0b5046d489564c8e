use Rattle.std.proofs.Common.{ℕ, zero, suc, ◌≡◌, ◌≤◌, ◌<◌, ◌+◌, ◌*◌, ◌/◌, ◌%◌, ◌^◌, List, [], ◌∷◌, length, map, min, cond, refl, arith, bit_and}
use Rattle.std.proofs.Math.Nat.{mul-le-mul}
use Rattle.std.proofs.Math.Dec.{ltb}
use Rattle.std.specs.Prelude.{replicate}
use Rattle.std.specs.Simd.Lanes.{zip2, sel_l}
use Rattle.std.proofs.lemmas.Nat.{and_mask}
use Rattle.line_lanes.specs.Lanes.{mixed_channel, mixed_pixel, joined_pixels}
use Rattle.line_lanes.specs.Pixels.{top_bit}

cond-lesser : (x k : ℕ) → cond (ltb x k) x k ≡ min x k
cond-lesser x k = grind arith

-- where a comparison with k chooses between each lane and k
pub sel_l-lesser : (xs : List ℕ) (n k : ℕ) → length xs ≡ n → sel_l (zip2 ltb xs (replicate n k)) xs (replicate n k) ≡ map (λ x. min x k) xs
sel_l-lesser [] n k h = refl
sel_l-lesser (x ∷ xs) zero k h = absurd (omega (arith, h))
sel_l-lesser (x ∷ xs) (suc n) k h =
    let rec : sel_l (zip2 ltb xs (replicate n k)) xs (replicate n k) ≡ map (λ x. min x k) xs = sel_l-lesser xs n k (omega (arith, h)) in
    let one : cond (ltb x k) x k ≡ min x k = cond-lesser x k in
    rw (one, rec)

-- a channel is five bits
pub map-channel : (from : ℕ) (ps : List ℕ) → map (λ x. bit_and x 31) (map (λ x. x / 2 ^ from) ps) ≡ map (λ p. p / 2 ^ from % 32) ps
map-channel from [] = refl
map-channel from (p ∷ ps) = rw (and_mask (p / 2 ^ from) 5, map-channel from ps)

joined_one : (r g b p : ℕ) →
    ((r + g * 32 % 65536) % 65536 + (b * 1024 % 65536 + p / 32768 * 32768 % 65536) % 65536) % 65536
    ≡ (r + 32 * g + 1024 * b + 32768 * top_bit p) % 65536
joined_one r g b p = omega arith

-- three channels and bit 15, each moved to its place and added
pub zip2-joined : (rs gs bs ps : List ℕ) →
    zip2 (λ x y. (x + y) % 65536) (zip2 (λ x y. (x + y) % 65536) rs (map (λ x. x * 32 % 65536) gs))
    (zip2 (λ x y. (x + y) % 65536) (map (λ x. x * 1024 % 65536) bs) (map (λ x. x * 32768 % 65536) (map (λ x. x / 32768) ps)))
    ≡ joined_pixels rs gs bs ps
zip2-joined (r ∷ rs) (g ∷ gs) (b ∷ bs) (p ∷ ps) = rw (joined_one r g b p, zip2-joined rs gs bs ps)
zip2-joined _ _ _ _ = refl

module _ (eva evb rounding : ℕ) where
  -- a sixteenth of the products' sum, as lanes of 16 bits make it
  abbrev sixteenth : ℕ → ℕ → ℕ
  sixteenth x y = ((x * eva % 65536 + y * evb % 65536) % 65536 + rounding) % 65536 / 16

  -- it is held to 31, or can't exceed it
  pub capped_one : eva ≤ 16 → evb ≤ 16 → rounding ≤ 15 → (x y : ℕ) → x < 32 → y < 32 → min (sixteenth x y) 31 ≡ mixed_channel eva evb rounding x y
  capped_one ea eb er x y hx hy =
      let a : x * eva ≤ 31 * 16 = mul-le-mul {n₁ = x} {m₁ = eva} {n₂ = 31} {m₂ = 16} (omega arith) ea in
      let b : y * evb ≤ 31 * 16 = mul-le-mul {n₁ = y} {m₁ = evb} {n₂ = 31} {m₂ = 16} (omega arith) eb in
      grind arith

  pub shared_one : eva + evb ≤ 16 → rounding ≤ 15 → (x y : ℕ) → x < 32 → y < 32 → sixteenth x y ≡ mixed_channel eva evb rounding x y
  shared_one e er x y hx hy =
      let a : x * eva ≤ 31 * eva = mul-le-mul {n₁ = x} {m₁ = eva} {n₂ = 31} {m₂ = eva} (omega arith) (omega arith) in
      let b : y * evb ≤ 31 * evb = mul-le-mul {n₁ = y} {m₁ = evb} {n₂ = 31} {m₂ = evb} (omega arith) (omega arith) in
      grind arith

  -- a channel of two targets mixed, lane by lane, and what is above 31 left to `hold`
  pub zip2-mixed : (hold : ℕ → ℕ) → ((x y : ℕ) → x < 32 → y < 32 → hold (sixteenth x y) ≡ mixed_channel eva evb rounding x y) → (from : ℕ) (ps qs : List ℕ) →
      map hold (map (λ x. x / 16) (map (λ x. (x + rounding) % 65536)
      (zip2 (λ x y. (x + y) % 65536) (map (λ x. x * eva % 65536) (map (λ p. p / 2 ^ from % 32) ps)) (map (λ x. x * evb % 65536) (map (λ p. p / 2 ^ from % 32) qs)))))
      ≡ zip2 (λ p q. mixed_channel eva evb rounding (p / 2 ^ from % 32) (q / 2 ^ from % 32)) ps qs
  zip2-mixed hold one from [] qs = refl
  zip2-mixed hold one from (p ∷ ps) [] = refl
  zip2-mixed hold one from (p ∷ ps) (q ∷ qs) =
      rw (one (p / 2 ^ from % 32) (q / 2 ^ from % 32) (omega arith) (omega arith), zip2-mixed hold one from ps qs)

  mixed_most : (x y : ℕ) → mixed_channel eva evb rounding x y ≤ 31
  mixed_most x y = grind arith

  joined_mixed_one : (p q : ℕ) →
      (mixed_channel eva evb rounding (p / 1 % 32) (q / 1 % 32) + 32 * mixed_channel eva evb rounding (p / 32 % 32) (q / 32 % 32)
      + 1024 * mixed_channel eva evb rounding (p / 1024 % 32) (q / 1024 % 32) + 32768 * top_bit p) % 65536
      ≡ mixed_pixel eva evb rounding p q
  joined_mixed_one p q =
      let ep : p / 1 ≡ p = omega arith in
      let eq : q / 1 ≡ q = omega arith in
      let r = mixed_most (p % 32) (q % 32) in
      let g = mixed_most (p / 32 % 32) (q / 32 % 32) in
      let b = mixed_most (p / 1024 % 32) (q / 1024 % 32) in
      rw (ep, eq) (omega (arith, r, g, b))

  -- the mixed channels joined are the mixed pixels
  pub joined-mixed : (ps qs : List ℕ) →
      joined_pixels (zip2 (λ p q. mixed_channel eva evb rounding (p / 1 % 32) (q / 1 % 32)) ps qs)
      (zip2 (λ p q. mixed_channel eva evb rounding (p / 32 % 32) (q / 32 % 32)) ps qs)
      (zip2 (λ p q. mixed_channel eva evb rounding (p / 1024 % 32) (q / 1024 % 32)) ps qs) ps
      ≡ zip2 (mixed_pixel eva evb rounding) ps qs
  joined-mixed [] qs = refl
  joined-mixed (p ∷ ps) [] = refl
  joined-mixed (p ∷ ps) (q ∷ qs) = rw (joined_mixed_one p q, joined-mixed ps qs)
