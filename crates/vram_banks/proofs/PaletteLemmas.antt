use Rattle.vram_banks.proofs.Words.{Banks, List, Space, ap, arith, extended_colour, false, get_or, if◌then◌else◌, indexed_pixel, opaque_pixel}
use Rattle.vram_banks.proofs.Words.{palette_colour, refl, sym, table_pixel, true, vram_byte, ℕ, ◌%◌, ◌*◌, ◌+◌, ◌-◌, ◌<◌, ◌==◌, ◌∙◌, ◌≡◌}

-- A palette that was read at once has the colours that are read one by one.

even_place : (at index : ℕ) → at + 2 * index - (at + 2 * index) % 2 ≡ at - at % 2 + 2 * index
even_place at index = omega arith

read_colour : (v : Banks) (space : Space) (at index : ℕ) (bytes : List ℕ) → index < 256 →
    ((i : ℕ) → i < 512 → get_or bytes i 0 ≡ vram_byte v space (at - at % 2 + i)) → palette_colour bytes index ≡ extended_colour v space at index
read_colour v space at index bytes small read =
    let f : ℕ → ℕ = vram_byte v space in
    let here : ℕ = at - at % 2 + 2 * index in
    let low : get_or bytes (2 * index) 0 ≡ f here = read (2 * index) (omega arith) in
    let next : at - at % 2 + (2 * index + 1) ≡ here + 1 = omega arith in
    let high : get_or bytes (2 * index + 1) 0 ≡ f (here + 1) = read (2 * index + 1) (omega arith) ∙ ap f next in
    ap (λ (n : ℕ). n + 256 * get_or bytes (2 * index + 1) 0) low
    ∙ ap (λ (n : ℕ). f here + 256 * n) high
    ∙ sym (ap (λ (n : ℕ). f n + 256 * f (n + 1)) (even_place at index))

same_pixel : (f g : ℕ → ℕ) (index : ℕ) → f index ≡ g index → indexed_pixel f index ≡ indexed_pixel g index
same_pixel f g index e = rw e refl

pub read_pixel : (v : Banks) (space : Space) (at index : ℕ) (bytes : List ℕ) → index < 256 →
    ((i : ℕ) → i < 512 → get_or bytes i 0 ≡ vram_byte v space (at - at % 2 + i)) →
    indexed_pixel (λ c. palette_colour bytes (0 + c)) index ≡ indexed_pixel (extended_colour v space at) index
read_pixel v space at index bytes small read =
    let none : 0 + index ≡ index = omega arith in
    same_pixel (λ c. palette_colour bytes (0 + c)) (extended_colour v space at) index
    (ap (palette_colour bytes) none ∙ read_colour v space at index bytes small read)

-- an index has the pixel of its colour in a table
pub tabled_16 : (palette : List ℕ) (start index : ℕ) → start % 16 ≡ 0 → index < 16 →
    table_pixel false palette (start + index) ≡ indexed_pixel (λ c. palette_colour palette (start + c)) index
tabled_16 palette start index whole small =
    let same : (start + index) % 16 ≡ index = omega (arith, whole, small) in
    ap (λ (n : ℕ). if n == 0 then 0 else opaque_pixel (palette_colour palette (start + index))) same

pub tabled_256 : (palette : List ℕ) (index : ℕ) → index < 256 →
    table_pixel true palette (0 + index) ≡ indexed_pixel (λ c. palette_colour palette (0 + c)) index
tabled_256 palette index small =
    let same : (0 + index) % 256 ≡ index = omega (arith, small) in
    ap (λ (n : ℕ). if n == 0 then 0 else opaque_pixel (palette_colour palette (0 + index))) same
