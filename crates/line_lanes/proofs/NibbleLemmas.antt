use Rattle.std.proofs.Common.{ℕ, zero, suc, ◌≡◌, ◌≤◌, ◌<◌, ◌+◌, ◌-◌, ◌*◌, ◌/◌, ◌%◌, List, [], ◌∷◌, ◌++◌, length, map, take, drop, get_or, refl, ap, ◌∙◌, arith, bit_and, length-drop}
use Rattle.std.specs.Simd.Lanes.{put_chunk}
use Rattle.std.proofs.lemmas.Nat.{and_mask}
use Rattle.std.proofs.lemmas.Simd.{put_chunk_whole}
use Rattle.std.proofs.lemmas.List.{get_or_append_left, get_or-append_right, drop_more, take_all, drop_all, append-nil, take_at, drop_at, length-take, take-map, drop-map}
use Rattle.line_lanes.specs.Nibbles.{nibbles}
use Rattle.line_lanes.specs.Lanes.{woven}

pub map-low_nibble : (bs : List ℕ) → map (λ b. bit_and b 15) bs ≡ map (λ b. b % 16) bs
map-low_nibble [] = refl
map-low_nibble (b ∷ bs) = rw (and_mask b 4, map-low_nibble bs)

-- n elements from i on and n from 16 + i on, in turn
abbrev turns : ℕ → ℕ → List ℕ → List ℕ
turns zero i zs = []
turns (suc n) i zs = get_or zs i 0 ∷ (get_or zs (16 + i) 0 ∷ turns n (i + 1) zs)

module _ (xs ys : List ℕ) (xs_long : length xs ≡ 16) (ys_long : length ys ≡ 16) where
  pub turns-append : (n i : ℕ) → i + n ≤ 16 → turns n i (xs ++ ys) ≡ woven (take n (drop i xs)) (take n (drop i ys))
  turns-append zero i h = refl
  turns-append (suc n) i h =
      let here : i < length xs = omega arith in
      let there : i < length ys = omega arith in
      let back : 16 + i - 16 ≡ i = omega arith in
      let right : get_or (xs ++ ys) (16 + i) 0 ≡ get_or ys i 0 =
      get_or-append_right xs ys 16 (16 + i) 0 xs_long (omega arith) ∙ ap (λ (k : ℕ). get_or ys k 0) back in
      rw (get_or_append_left xs ys 0 i here, right, drop_more xs i 0 here, drop_more ys i 0 there, turns-append n (i + 1) (omega arith))

-- low and high nibbles in turn are the nibbles
pub woven-nibbles : (bs : List ℕ) → woven (map (λ b. b % 16) bs) (map (λ b. b / 16) bs) ≡ nibbles bs
woven-nibbles [] = refl
woven-nibbles (b ∷ bs) = rw (woven-nibbles bs)

pub nibbles-append : (xs ys : List ℕ) → nibbles (xs ++ ys) ≡ nibbles xs ++ nibbles ys
nibbles-append [] ys = refl
nibbles-append (x ∷ xs) ys = rw (nibbles-append xs ys)

pub length-nibbles : (bs : List ℕ) → length (nibbles bs) ≡ 2 * length bs
length-nibbles [] = refl
length-nibbles (b ∷ bs) = let rec : length (nibbles bs) ≡ 2 * length bs = length-nibbles bs in omega arith

-- two stores of sixteen bytes each
pub stored_twice : (into front back : List ℕ) → length into ≡ 32 → length front ≡ 16 → length back ≡ 16 →
    (let half : List ℕ = put_chunk 0 (take 16 into) front ++ drop 16 into in
    take 16 half ++ (put_chunk 0 (take 16 (drop 16 half)) back ++ drop 16 (drop 16 half))) ≡ front ++ back
stored_twice into front back hi hf hb =
    let head_long : length (take 16 into) ≡ length front = simp length-take (omega arith) in
    let tail_long : length (drop 16 into) ≡ length back = simp length-drop (omega arith) in
    let tail : take 16 (drop 16 into) ≡ drop 16 into = take_all 16 (drop 16 into) (omega arith) in
    let none : drop 16 (drop 16 into) ≡ [] = drop_all 16 (drop 16 into) (omega arith) in
    rw (put_chunk_whole (take 16 into) front head_long, take_at front (drop 16 into) 16 hf, drop_at front (drop 16 into) 16 hf, tail, put_chunk_whole (drop 16 into) back tail_long, none, append-nil back)

-- the nibbles of a front, and of the others
pub woven-take : (n : ℕ) (bs : List ℕ) → woven (take n (map (λ b. b % 16) bs)) (take n (map (λ b. b / 16) bs)) ≡ nibbles (take n bs)
woven-take n bs = rw (take-map (λ b. b % 16) n bs, take-map (λ b. b / 16) n bs) (woven-nibbles (take n bs))

pub woven-drop : (n : ℕ) (bs : List ℕ) → woven (drop n (map (λ b. b % 16) bs)) (drop n (map (λ b. b / 16) bs)) ≡ nibbles (drop n bs)
woven-drop n bs = rw (drop-map (λ b. b % 16) n bs, drop-map (λ b. b / 16) n bs) (woven-nibbles (drop n bs))

-- each place of the nibbles
pub get_or-nibbles_low : (bs : List ℕ) (i : ℕ) → get_or (nibbles bs) (2 * i) 0 ≡ get_or bs i 0 % 16
get_or-nibbles_low [] i = refl
get_or-nibbles_low (b ∷ bs) zero = refl
get_or-nibbles_low (b ∷ bs) (suc i) =
    let e : 2 * suc i ≡ suc (suc (2 * i)) = omega arith in rw e (get_or-nibbles_low bs i)

pub get_or-nibbles_high : (bs : List ℕ) (i : ℕ) → get_or (nibbles bs) (2 * i + 1) 0 ≡ get_or bs i 0 / 16
get_or-nibbles_high [] i = refl
get_or-nibbles_high (b ∷ bs) zero = refl
get_or-nibbles_high (b ∷ bs) (suc i) =
    let e : 2 * suc i + 1 ≡ suc (suc (2 * i + 1)) = omega arith in rw e (get_or-nibbles_high bs i)
