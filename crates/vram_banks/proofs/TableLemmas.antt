use Rattle.vram_banks.proofs.Words.{List, [], and_mask, ap, arith, bit_and, cases_lt, drop, get_or, get_or_past, inl, inr, length, map, opaque_pixel}
use Rattle.vram_banks.proofs.Words.{palette_colour, refl, suc, take, zero, ℕ, ◌%◌, ◌*◌, ◌+◌, ◌<◌, ◌^◌, ◌∙◌, ◌∷◌, ◌≡◌, ◌≤◌}
use Rattle.std.specs.Simd.Lanes.{chunk, number_l, digits_l}
use Rattle.std.proofs.lemmas.Simd.{get_or_wider, get_or-chunk, length-chunk, Each1-from_get_or}

-- Eight colours of a palette at once.

two_bytes : (bytes : List ℕ) → length bytes ≡ 2 → number_l 256 bytes ≡ get_or bytes 0 0 + 256 * get_or bytes 1 0
two_bytes [] h = absurd (omega (arith, h))
two_bytes (a ∷ []) h = absurd (omega (arith, h))
two_bytes (a ∷ b ∷ []) h = omega arith
two_bytes (a ∷ b ∷ c ∷ more) h = absurd (omega (arith, h))

-- lane i is the half of the bytes from 2 i on
lane_of : (bytes : List ℕ) (i : ℕ) → length bytes ≡ 16 → ((j : ℕ) → get_or bytes j 0 < 256) → i < 8 →
    get_or (digits_l 65536 8 (number_l 256 bytes)) i 0 ≡ get_or bytes (2 * i) 0 + 256 * get_or bytes (2 * i + 1) 0
lane_of bytes i long small lt =
    let pair : List ℕ = chunk (2 * i) 2 bytes in
    let low : get_or pair 0 0 ≡ get_or bytes (2 * i + 0) 0 = get_or-chunk (2 * i) 2 bytes 0 0 (omega arith) in
    let high : get_or pair 1 0 ≡ get_or bytes (2 * i + 1) 0 = get_or-chunk (2 * i) 2 bytes 1 0 (omega arith) in
    let none : 2 * i + 0 ≡ 2 * i = omega arith in
    get_or_wider 256 2 65536 8 bytes i refl (Each1-from_get_or (λ x. x < 256) bytes 0 (λ j _. small j)) lt
    ∙ two_bytes pair (length-chunk (2 * i) 2 bytes (omega (arith, long, lt)))
    ∙ ap (λ (n : ℕ). n + 256 * get_or pair 1 0) (low ∙ ap (λ (n : ℕ). get_or bytes n 0) none)
    ∙ ap (λ (n : ℕ). get_or bytes (2 * i) 0 + 256 * n) high

part_of : (palette : List ℕ) (at n j : ℕ) → n ≡ 16 → j < 16 → get_or (chunk 0 16 (take n (drop at palette))) j 0 ≡ get_or palette (at + j) 0
part_of palette at n j e lt =
    let none : 0 + j ≡ j = omega arith in
    get_or-chunk 0 16 (take n (drop at palette)) j 0 lt
    ∙ ap (λ (i : ℕ). get_or (take n (drop at palette)) i 0) none
    ∙ get_or-chunk at n palette j 0 (omega (arith, e, lt))

pub lane_is_colour : (palette : List ℕ) (k i n : ℕ) → ((j : ℕ) → get_or palette j 0 < 256) → 16 * k + 16 ≤ length palette → n ≡ 16 → i < 8 →
    get_or (digits_l 65536 8 (number_l 256 (chunk 0 16 (take n (drop (16 * k) palette))))) i 0 ≡ palette_colour palette (8 * k + i)
lane_is_colour palette k i n small long e lt =
    let within : List ℕ = take n (drop (16 * k) palette) in
    let bytes : List ℕ = chunk 0 16 within in
    let room : length within ≡ n = length-chunk (16 * k) n palette (omega (arith, e, long)) in
    let narrow : (j : ℕ) → get_or bytes j 0 < 256 = λ j. elim (cases_lt j 16) [
      | inl below ↦ (let f = small (16 * k + j) in let g = part_of palette (16 * k) n j e below in omega (arith, f, g))
      | inr past ↦ (let f = get_or_past bytes j 0 (omega (arith, past, length-chunk 0 16 within (omega (arith, room, e)))) in omega (arith, f))
    ] in
    let first : 16 * k + 2 * i ≡ 2 * (8 * k + i) = omega arith in
    let next : 16 * k + (2 * i + 1) ≡ 2 * (8 * k + i) + 1 = omega arith in
    lane_of bytes i (length-chunk 0 16 within (omega (arith, room, e))) narrow lt
    ∙ ap (λ (x : ℕ). x + 256 * get_or bytes (2 * i + 1) 0)
    (part_of palette (16 * k) n (2 * i) e (omega (arith, lt)) ∙ ap (λ (j : ℕ). get_or palette j 0) first)
    ∙ ap (λ (x : ℕ). get_or palette (2 * (8 * k + i)) 0 + 256 * x)
    (part_of palette (16 * k) n (2 * i + 1) e (omega (arith, lt)) ∙ ap (λ (j : ℕ). get_or palette j 0) next)

pub lane_is_pixel : (colours : List ℕ) (i : ℕ) → i < length colours →
    get_or (map (λ n. (n + 2 ^ 15) % 65536) (map (λ c. bit_and c 0x7FFF) colours)) i 0 ≡ opaque_pixel (get_or colours i 0)
lane_is_pixel [] i h = absurd (omega (arith, h))
lane_is_pixel (c ∷ colours) zero h = rw (and_mask c 15) (omega arith)
lane_is_pixel (c ∷ colours) (suc i) h = lane_is_pixel colours i (omega (arith, h))

pub pixels_are : (colours : List ℕ) → length (map (λ n. (n + 2 ^ 15) % 65536) (map (λ c. bit_and c 0x7FFF) colours)) ≡ length colours
pixels_are [] = refl
pixels_are (c ∷ colours) = (let more = pixels_are colours in omega (arith, more))
