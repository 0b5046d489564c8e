use Rattle.vram_banks.proofs.Words.{ABg, ABgPalette, AObj, AObjPalette, Arm7, BBg, BBgPalette, BObj, BObjPalette, Banks, Byte, Half, IsCellAt, IsOr}
use Rattle.vram_banks.proofs.Words.{IsRead, IsWritten, Lcdc, List, None, Option, Some, Space, Width, Word, add-zero, aligned_down, ap, arith}
use Rattle.vram_banks.proofs.Words.{byte_or_0, cell_of, cell_there, div-add-mod', get_or, get_or-set_other, get_or-set_same, inl, inr, length}
use Rattle.vram_banks.proofs.Words.{length-set, max, mod-mul-add, mod_below, mul-mod, none-some, or_at, or_below, or_lt, origin_of, put_below, put_by}
use Rattle.vram_banks.proofs.Words.{put_in_cells, put_there, refl, same_Some, same_or_not, space_size, subst, suc, sym, value_by, vram_byte}
use Rattle.vram_banks.proofs.Words.{vram_value, vram_written, width_bytes, with_vram_byte, zero, ℕ, ◌%◌, ◌*◌, ◌+◌, ◌/◌, ◌<◌, ◌^◌, ◌∙◌, ◌≡◌, ◌≢◌, ◌⊎◌}
use Rattle.vram_banks.specs.BankMap.{BankRow, chosen_row, row_start, first_cell, IsThere}
use Rattle.vram_banks.specs.paging.Flat.{window_of}
use Rattle.std.specs.Int.{bit_at}
use Rattle.std.proofs.lemmas.Nat.Bits.{bit_at_or, bit_at-zero, bit_at-lt}
use Rattle.vram_banks.proofs.MapLaws.{stands_cell, cell_stands, there_flat, Found, found_window, one_cell, fits_of, first_cell-inside}

-- some bank's cell stands at a flat address
pub record Hit (controls : List ℕ) (x cell : ℕ) : Type 0 where
  pub bank : ℕ
  pub known : bank < 9
  pub there : cell_of controls bank x ≡ Some cell

-- which is the relation of the table
pub there_hit : (controls : List ℕ) (space : Space) (at cell : ℕ) → IsThere controls space at cell → Hit controls (origin_of space + at) cell
unfolding cell_of
there_hit controls space at cell t = record {
  bank = t.bank;
  known = t.known;
  there = stands_cell t.bank (get_or controls t.bank 0) t.i space at t.stands ∙ ap (λ (k : ℕ). Some k) (sym t.number);
}

pub hit_there : (controls : List ℕ) (space : Space) (at cell : ℕ) → at < space_size space → Hit controls (origin_of space + at) cell → IsThere controls space at cell
unfolding cell_of
hit_there controls space at cell small h =
    let s = cell_stands h.bank (get_or controls h.bank 0) space at cell h.known small h.there in
    record { bank = h.bank; known = h.known; i = s.0; stands = s.1; number = s.2 }

-- ---- the OR

one_of : (x y : ℕ) → x < 2 → y < 2 → max x y ≡ 1 → (x ≡ 1) ⊎ (y ≡ 1)
one_of x y p q h = grind arith

-- a bit of the OR is a bit of some part
bit_from : (n : ℕ) (f : ℕ → ℕ) (k : ℕ) → bit_at (or_below n f) k ≡ 1 → (b : ℕ) × (b < n) × (bit_at (f b) k ≡ 1)
unfolding or_below
bit_from zero f k h = (let e = bit_at-zero k in absurd (omega (arith, e, h)))
bit_from (suc n) f k h =
    elim (one_of (bit_at (or_below n f) k) (bit_at (f n) k) (bit_at-lt (or_below n f) k) (bit_at-lt (f n) k) (sym (bit_at_or (or_below n f) (f n) k) ∙ h)) [
      | inl p ↦ (let r = bit_from n f k p in (r.0, omega (arith, r), r.2))
      | inr q ↦ (n, omega arith, q)
    ]

-- a bit of a part is a bit of the OR
bit_into : (n : ℕ) (f : ℕ → ℕ) (k b : ℕ) → b < n → bit_at (f b) k ≡ 1 → bit_at (or_below n f) k ≡ 1
unfolding or_below
bit_into zero f k b lt h = absurd (omega arith)
bit_into (suc n) f k b lt h =
    let e = bit_at_or (or_below n f) (f n) k in
    let x = bit_at-lt (or_below n f) k in
    let y = bit_at-lt (f n) k in
    elim (same_or_not b n) [
      | inl same ↦ (let P : ℕ → Type 0 = λ c. bit_at (f c) k ≡ 1 in let p : bit_at (f n) k ≡ 1 = subst P same h in omega (arith, e, x, y, p))
      | inr other ↦ (let p : bit_at (or_below n f) k ≡ 1 = bit_into n f k b (omega arith) h in omega (arith, e, x, y, p))
    ]

bit_of_cell : (bytes : List ℕ) (o : Option ℕ) (k : ℕ) → bit_at (byte_or_0 bytes o) k ≡ 1 → (i : ℕ) × (o ≡ Some i) × (bit_at (get_or bytes i 0) k ≡ 1)
bit_of_cell bytes None k h = (let e = bit_at-zero k in absurd (omega (arith, e, h)))
bit_of_cell bytes (Some i) k h = (i, refl, h)

-- what is read at an address of a space is the OR of the cells that stand there
pub is_or : (controls bytes : List ℕ) (space : Space) (at x : ℕ) → at < space_size space → x ≡ origin_of space + at → IsOr (IsThere controls space at) bytes (or_at controls bytes x)
unfolding or_at
is_or controls bytes space at x small same =
    let f : ℕ → ℕ = λ b. byte_or_0 bytes (cell_of controls b x) in
    let P : ℕ → Type 0 = λ y. (cell : ℕ) → Hit controls y cell → IsThere controls space at cell in
    let into_there : P x = subst P (sym same) (λ cell. hit_there controls space at cell small) in
    let Q : ℕ → Type 0 = λ y. (cell : ℕ) → IsThere controls space at cell → Hit controls y cell in
    let from_there : Q x = subst Q (sym same) (λ cell. there_hit controls space at cell) in
    record {
      bits = λ k. (
        (λ h. (let r = bit_from 9 f k h in let c = bit_of_cell bytes (cell_of controls r.0 x) k r.2 in
            (c.0, into_there c.0 (record { bank = r.0; known = r.1; there = c.1 }), c.2))),
        (λ s. (let hit = from_there s.0 s.1 in
            let R : Option ℕ → Type 0 = λ o. bit_at (byte_or_0 bytes o) k ≡ 1 in bit_into 9 f k hit.bank hit.known (subst R (sym hit.there) s.2))),
      );
    }

-- ---- alignment

pub record IsSize (size : ℕ) : Type 0 where
  pub whole : size % 8192 ≡ 0
  pub some : 0 < size

pub space_size-whole : (space : Space) → IsSize (space_size space)
space_size-whole ABg = record { whole = refl; some = omega arith }
space_size-whole BBg = record { whole = refl; some = omega arith }
space_size-whole AObj = record { whole = refl; some = omega arith }
space_size-whole BObj = record { whole = refl; some = omega arith }
space_size-whole Lcdc = record { whole = refl; some = omega arith }
space_size-whole Arm7 = record { whole = refl; some = omega arith }
space_size-whole ABgPalette = record { whole = refl; some = omega arith }
space_size-whole BBgPalette = record { whole = refl; some = omega arith }
space_size-whole AObjPalette = record { whole = refl; some = omega arith }
space_size-whole BObjPalette = record { whole = refl; some = omega arith }

-- the bytes of an access, which are aligned in a space as they are at flat addresses
whole_by : (width : Width) (origin m k : ℕ) → origin % 8192 ≡ 0 → aligned_down width (origin + m) + k ≡ origin + (aligned_down width m + k)
whole_by Byte origin m k h = omega arith
whole_by Half origin m k h = omega arith
whole_by Word origin m k h = omega arith

origin_of-whole : (space : Space) → origin_of space % 8192 ≡ 0
origin_of-whole ABg = refl
origin_of-whole BBg = refl
origin_of-whole AObj = refl
origin_of-whole BObj = refl
origin_of-whole Lcdc = refl
origin_of-whole Arm7 = refl
origin_of-whole ABgPalette = refl
origin_of-whole BBgPalette = refl
origin_of-whole AObjPalette = refl
origin_of-whole BObjPalette = refl

-- and so is the remainder by a space's size
fours : (q size : ℕ) → size % 4 ≡ 0 → q * size % 4 ≡ 0
fours q size h = mul-mod q size 4 ∙ ap (λ (s : ℕ). q % 4 * s % 4) h ∙ omega arith

aligned_below : (width : Width) (m size k : ℕ) → m < size → size % 8192 ≡ 0 → k < width_bytes width → aligned_down width m + k < size
aligned_below Byte m size k h whole lt = omega arith
aligned_below Half m size k h whole lt = omega arith
aligned_below Word m size k h whole lt = omega arith

aligned_over : (width : Width) (at whole r k : ℕ) → at ≡ whole + r → whole % 4 ≡ 0 → whole + (aligned_down width r + k) ≡ aligned_down width at + k
aligned_over Byte at whole r k e h = omega arith
aligned_over Half at whole r k e h = omega arith
aligned_over Word at whole r k e h = omega arith

within_by : (width : Width) (size at k : ℕ) → size % 8192 ≡ 0 → 0 < size → k < width_bytes width →
    aligned_down width (at % size) + k ≡ (aligned_down width at + k) % size
within_by width size at k whole some lt =
    let same = aligned_over width at (at / size * size) (at % size) k (sym (div-add-mod' at size)) (fours (at / size) size (omega (arith, whole))) in
    let inside = aligned_below width (at % size) size k (mod_below at size some) whole lt in
    sym (mod-mul-add (at / size) size (aligned_down width (at % size) + k) inside) ∙ ap (λ (m : ℕ). m % size) same

pub flat_aligned : (space : Space) (at : ℕ) (width : Width) (k : ℕ) → k < width_bytes width →
    aligned_down width (origin_of space + at % space_size space) + k ≡ origin_of space + (aligned_down width at + k) % space_size space
flat_aligned space at width k lt =
    let s = space_size-whole space in
    whole_by width (origin_of space) (at % space_size space) k (origin_of-whole space)
    ∙ ap (λ (m : ℕ). origin_of space + m) (within_by width (space_size space) at k s.whole s.some lt)

flat_first : (space : Space) (at : ℕ) (width : Width) → 0 < width_bytes width →
    aligned_down width (origin_of space + at % space_size space) ≡ origin_of space + aligned_down width at % space_size space
flat_first space at width lt =
    let e = flat_aligned space at width 0 lt in
    let zero : aligned_down width at + 0 ≡ aligned_down width at = add-zero (aligned_down width at) in
    sym (add-zero (aligned_down width (origin_of space + at % space_size space))) ∙ e ∙ ap (λ (y : ℕ). origin_of space + y % space_size space) zero

-- ---- reads

pub or_below-same : (n : ℕ) (f g : ℕ → ℕ) → ((b : ℕ) → b < n → f b ≡ g b) → or_below n f ≡ or_below n g
unfolding or_below
or_below-same zero f g h = refl
or_below-same (suc n) f g h = rw (or_below-same n f g (λ b lt. h b (omega arith)), h n (omega arith)) refl

-- the byte at an address of a space is the byte at its flat address
pub byte_flat : (v : Banks) (space : Space) (at : ℕ) → vram_byte v space at ≡ or_at v.controls v.bytes (origin_of space + at % space_size space)
unfolding vram_byte or_at
byte_flat v space at =
    let small = mod_below at (space_size space) (space_size-whole space).some in
    or_below-same 9 (λ b. byte_or_0 v.bytes (cell_there v.controls space at b)) (λ b. byte_or_0 v.bytes (cell_of v.controls b (origin_of space + at % space_size space)))
    (λ b lt. ap (byte_or_0 v.bytes) (there_flat v.controls space at b lt small))

-- which is a byte
or_narrow : (n : ℕ) (f : ℕ → ℕ) → ((b : ℕ) → f b < 256) → or_below n f < 256
unfolding or_below
or_narrow zero f h = omega arith
or_narrow (suc n) f h = or_lt 8 (or_below n f) (f n) (or_narrow n f h) (h n)

cell_narrow : (bytes : List ℕ) (o : Option ℕ) → ((i : ℕ) → get_or bytes i 0 < 256) → byte_or_0 bytes o < 256
cell_narrow bytes None h = omega arith
cell_narrow bytes (Some i) h = h i

pub byte_narrow : (v : Banks) (space : Space) (at : ℕ) → ((i : ℕ) → get_or v.bytes i 0 < 256) → vram_byte v space at < 256
unfolding vram_byte
byte_narrow v space at h =
    or_narrow 9 (λ bank. byte_or_0 v.bytes (cell_there v.controls space at bank)) (λ bank. cell_narrow v.bytes (cell_there v.controls space at bank) h)

-- the bytes of an access from a flat address on
value_by-shifted : (width : Width) (f : ℕ → ℕ) (x : ℕ) → value_by width f x ≡ value_by width (λ k. f (x + k)) 0
value_by-shifted Byte f x = ap f (omega arith)
value_by-shifted Half f x = (let e : x ≡ x + 0 = omega arith in ap (λ (y : ℕ). f y + 256 * f (x + 1)) e)
value_by-shifted Word f x = (let e : x ≡ x + 0 = omega arith in ap (λ (y : ℕ). f y + 256 * f (x + 1) + 65536 * f (x + 2) + 16777216 * f (x + 3)) e)

value_by-same : (width : Width) (f g : ℕ → ℕ) → ((k : ℕ) → k < width_bytes width → f k ≡ g k) → value_by width f 0 ≡ value_by width g 0
value_by-same Byte f g h = h 0 (omega arith)
value_by-same Half f g h = rw (h 0 (omega arith), h 1 (omega arith)) refl
value_by-same Word f g h = rw (h 0 (omega arith), h 1 (omega arith), h 2 (omega arith), h 3 (omega arith)) refl

pub value_flat : (v : Banks) (space : Space) (at : ℕ) (width : Width) →
    value_by width (or_at v.controls v.bytes) (aligned_down width (origin_of space + at % space_size space)) ≡ vram_value v space at width
value_flat v space at width =
    let x : ℕ = aligned_down width (origin_of space + at % space_size space) in
    value_by-shifted width (or_at v.controls v.bytes) x
    ∙ value_by-same width (λ k. or_at v.controls v.bytes (x + k)) (λ k. vram_byte v space (aligned_down width at + k))
    (λ k lt. ap (or_at v.controls v.bytes) (flat_aligned space at width k lt) ∙ sym (byte_flat v space (aligned_down width at + k)))
    ∙ sym (value_by-shifted width (vram_byte v space) (aligned_down width at))

-- the byte at an address is the OR of the cells that stand there
pub byte_is_or : (v : Banks) (space : Space) (at : ℕ) → IsOr (IsCellAt v space at) v.bytes (vram_byte v space at)
byte_is_or v space at =
    let P : ℕ → Type 0 = λ value. IsOr (IsCellAt v space at) v.bytes value in
    subst P (sym (byte_flat v space at)) (is_or v.controls v.bytes space (at % space_size space) (origin_of space + at % space_size space)
    (mod_below at (space_size space) (space_size-whole space).some) refl)

pub is_read : (v : Banks) (space : Space) (at : ℕ) (width : Width) → IsRead v space at width (vram_value v space at width)
is_read v space at width = record {
  bytes = λ k. vram_byte v space (aligned_down width at + k);
  each = λ k lt. byte_is_or v space (aligned_down width at + k);
  in_order = value_by-shifted width (vram_byte v space) (aligned_down width at);
}

-- ---- writes

put_length : (o : Option ℕ) (x : ℕ) (bytes : List ℕ) → length (put_there o x bytes) ≡ length bytes
put_length None x bytes = refl
put_length (Some i) x bytes = length-set bytes i x

pub put_below-length : (n : ℕ) (f : ℕ → Option ℕ) (x : ℕ) (bytes : List ℕ) → length (put_below n f x bytes) ≡ length bytes
unfolding put_below
put_below-length zero f x bytes = refl
put_below-length (suc n) f x bytes = put_length (f n) x (put_below n f x bytes) ∙ put_below-length n f x bytes

put_here : (bytes : List ℕ) (i x : ℕ) (o : Option ℕ) → o ≡ Some i → i < length bytes → get_or (put_there o x bytes) i 0 ≡ x
put_here bytes i x o e lt = (let P : Option ℕ → Type 0 = λ q. get_or (put_there q x bytes) i 0 ≡ x in subst P (sym e) (get_or-set_same bytes i x 0 lt))

put_elsewhere : (o : Option ℕ) (x : ℕ) (bytes : List ℕ) (i : ℕ) → o ≢ Some i → get_or (put_there o x bytes) i 0 ≡ get_or bytes i 0
put_elsewhere None x bytes i ne = refl
put_elsewhere (Some j) x bytes i ne = get_or-set_other bytes j i x 0 (λ e. ne (ap (λ (k : ℕ). Some k) (sym e)))

-- a cell is where this is put, or it isn't
put_cases : (o : Option ℕ) (i : ℕ) → (o ≡ Some i) ⊎ (o ≢ Some i)
put_cases None i = inr (λ e. none-some i e)
put_cases (Some j) i = elim (same_or_not j i) [
  | inl same ↦ inl (ap (λ (k : ℕ). Some k) same)
  | inr other ↦ inr (λ e. other (same_Some j i e))
]

put_in : (n : ℕ) (f : ℕ → Option ℕ) (x : ℕ) (bytes : List ℕ) (b i : ℕ) → b < n → f b ≡ Some i → i < length bytes → get_or (put_below n f x bytes) i 0 ≡ x
unfolding put_below
put_in zero f x bytes b i lt e h = absurd (omega arith)
put_in (suc n) f x bytes b i lt e h =
    let long = put_below-length n f x bytes in
    elim (put_cases (f n) i) [
      | inl here ↦ put_here (put_below n f x bytes) i x (f n) here (omega arith)
      | inr past ↦ put_elsewhere (f n) x (put_below n f x bytes) i past ∙ (elim (same_or_not b n) [
        | inl same ↦ (let P : ℕ → Type 0 = λ c. f c ≡ Some i in absurd (past (subst P same e)))
        | inr other ↦ put_in n f x bytes b i (omega arith) e h
      ])
    ]

put_others : (n : ℕ) (f : ℕ → Option ℕ) (x : ℕ) (bytes : List ℕ) (i : ℕ) → ((b : ℕ) → b < n → f b ≢ Some i) → get_or (put_below n f x bytes) i 0 ≡ get_or bytes i 0
unfolding put_below
put_others zero f x bytes i none = refl
put_others (suc n) f x bytes i none = put_elsewhere (f n) x (put_below n f x bytes) i (none n (omega arith)) ∙ put_others n f x bytes i (λ b lt. none b (omega arith))

put_at-length : (controls : List ℕ) (x value : ℕ) (bytes : List ℕ) → length (put_in_cells controls x value bytes) ≡ length bytes
unfolding put_in_cells
put_at-length controls x value bytes = put_below-length 9 (λ b. cell_of controls b x) value bytes

put_at-in : (controls : List ℕ) (x value : ℕ) (bytes : List ℕ) (cell : ℕ) → Hit controls x cell → cell < length bytes → get_or (put_in_cells controls x value bytes) cell 0 ≡ value
unfolding put_in_cells
put_at-in controls x value bytes cell h small = put_in 9 (λ b. cell_of controls b x) value bytes h.bank cell h.known h.there small

put_at-others : (controls : List ℕ) (x value : ℕ) (bytes : List ℕ) (cell : ℕ) → ¬ Hit controls x cell → get_or (put_in_cells controls x value bytes) cell 0 ≡ get_or bytes cell 0
unfolding put_in_cells
put_at-others controls x value bytes cell none = put_others 9 (λ b. cell_of controls b x) value bytes cell (λ b known e. none (record { bank = b; known = known; there = e }))

-- what is known of a cell that stands at a flat address
hit_found : (controls : List ℕ) (x cell : ℕ) (h : Hit controls x cell) →
    Found (get_or controls h.bank 0 / 2 ^ 7 % 2) (chosen_row h.bank (get_or controls h.bank 0)) (get_or controls h.bank 0) (first_cell h.bank) x cell
unfolding cell_of window_of
hit_found controls x cell h =
    found_window (chosen_row h.bank (get_or controls h.bank 0)) (get_or controls h.bank 0 / 2 ^ 7 % 2) (get_or controls h.bank 0) (first_cell h.bank) x cell h.there

pub hit_inside : (controls : List ℕ) (x cell : ℕ) → Hit controls x cell → cell < 0xA4000
hit_inside controls x cell h =
    let f = hit_found controls x cell h in
    let fits = (fits_of h.bank (get_or controls h.bank 0 % 8) f.row h.known f.by).in_bank in
    let inside = first_cell-inside h.bank h.known in
    let w = f.within in
    let n = f.number in
    omega (arith, fits, inside, w, n)

-- a cell stands at one flat address only
pub one_address : (controls : List ℕ) (x y cell : ℕ) → Hit controls x cell → Hit controls y cell → x ≡ y
one_address controls x y cell h k =
    let f = hit_found controls x cell h in
    let g = hit_found controls y cell k in
    let fits = (fits_of h.bank (get_or controls h.bank 0 % 8) f.row h.known f.by).in_bank in
    let fits2 = (fits_of k.bank (get_or controls k.bank 0 % 8) g.row k.known g.by).in_bank in
    let fw = f.within in
    let gw = g.within in
    let same = one_cell h.bank k.bank f.i g.i h.known k.known (omega (arith, fits, fw)) (omega (arith, fits2, gw)) (sym f.number ∙ g.number) in
    let rows : Some f.row ≡ Some g.row = sym f.by ∙ ap (λ (b : ℕ). chosen_row b (get_or controls b 0)) same.0 ∙ g.by in
    let row : f.row ≡ g.row = same_Some f.row g.row rows in
    let base : origin_of f.row.space + row_start f.row (get_or controls h.bank 0) ≡ origin_of g.row.space + row_start g.row (get_or controls k.bank 0) =
    ap (λ (r : BankRow). origin_of r.space + row_start r (get_or controls h.bank 0)) row ∙ ap (λ (b : ℕ). origin_of g.row.space + row_start g.row (get_or controls b 0)) same.0 in
    let i = same.1 in
    let fa = f.address in
    let ga = g.address in
    omega (arith, base, i, fa, ga)

-- the first n bytes of a value are put at the flat addresses from x on
abbrev puts : ℕ → List ℕ → ℕ → ℕ → List ℕ → List ℕ
puts zero controls x value bytes = bytes
puts (suc n) controls x value bytes = put_in_cells controls (x + n) (value / 256 ^ n % 256) (puts n controls x value bytes)

puts-length : (n : ℕ) (controls : List ℕ) (x value : ℕ) (bytes : List ℕ) → length (puts n controls x value bytes) ≡ length bytes
puts-length zero controls x value bytes = refl
puts-length (suc n) controls x value bytes = put_at-length controls (x + n) (value / 256 ^ n % 256) (puts n controls x value bytes) ∙ puts-length n controls x value bytes

puts-in : (n : ℕ) (controls : List ℕ) (x value : ℕ) (bytes : List ℕ) (k cell : ℕ) → length bytes ≡ 0xA4000 → k < n → Hit controls (x + k) cell →
    get_or (puts n controls x value bytes) cell 0 ≡ value / 256 ^ k % 256
puts-in zero controls x value bytes k cell long lt h = absurd (omega arith)
puts-in (suc n) controls x value bytes k cell long lt h =
    let before : List ℕ = puts n controls x value bytes in
    let l = puts-length n controls x value bytes in
    let inside = hit_inside controls (x + k) cell h in
    elim (same_or_not k n) [
      | inl same ↦
          (let P : ℕ → Type 0 = λ j. Hit controls (x + j) cell in
          let here = put_at-in controls (x + n) (value / 256 ^ n % 256) before cell (subst P same h) (omega (arith, l, long, inside)) in
          here ∙ ap (λ (j : ℕ). value / 256 ^ j % 256) (sym same))
      | inr other ↦
          (let apart : ¬ Hit controls (x + n) cell = λ also. (let e = one_address controls (x + k) (x + n) cell h also in other (omega (arith, e))) in
          put_at-others controls (x + n) (value / 256 ^ n % 256) before cell apart ∙ puts-in n controls x value bytes k cell long (omega arith) h)
    ]

puts-others : (n : ℕ) (controls : List ℕ) (x value : ℕ) (bytes : List ℕ) (cell : ℕ) → ((k : ℕ) → k < n → ¬ Hit controls (x + k) cell) →
    get_or (puts n controls x value bytes) cell 0 ≡ get_or bytes cell 0
puts-others zero controls x value bytes cell none = refl
puts-others (suc n) controls x value bytes cell none =
    put_at-others controls (x + n) (value / 256 ^ n % 256) (puts n controls x value bytes) cell (none n (omega arith))
    ∙ puts-others n controls x value bytes cell (λ k lt. none k (omega arith))

put_first : (controls : List ℕ) (x value : ℕ) (bytes : List ℕ) → put_in_cells controls x (value % 256) bytes ≡ put_in_cells controls (x + 0) (value / 1 % 256) bytes
put_first controls x value bytes =
    let e : x ≡ x + 0 = omega arith in
    let f : value % 256 ≡ value / 1 % 256 = omega arith in
    ap (λ (y : ℕ). put_in_cells controls y (value % 256) bytes) e ∙ ap (λ (y : ℕ). put_in_cells controls (x + 0) y bytes) f

put_by-puts : (width : Width) (controls : List ℕ) (x value : ℕ) (bytes : List ℕ) → put_by width (put_in_cells controls) x value bytes ≡ puts (width_bytes width) controls x value bytes
put_by-puts Byte controls x value bytes = put_first controls x value bytes
put_by-puts Half controls x value bytes = ap (λ (b : List ℕ). put_in_cells controls (x + 1) (value / 256 % 256) b) (put_first controls x value bytes)
put_by-puts Word controls x value bytes =
    ap (λ (b : List ℕ). put_in_cells controls (x + 3) (value / 16777216 % 256) (put_in_cells controls (x + 2) (value / 65536 % 256) (put_in_cells controls (x + 1) (value / 256 % 256) b))) (put_first controls x value bytes)

put_below-same : (n : ℕ) (f g : ℕ → Option ℕ) (value : ℕ) (bytes : List ℕ) → ((b : ℕ) → b < n → f b ≡ g b) → put_below n f value bytes ≡ put_below n g value bytes
unfolding put_below
put_below-same zero f g value bytes h = refl
put_below-same (suc n) f g value bytes h = rw (put_below-same n f g value bytes (λ b lt. h b (omega arith)), h n (omega arith)) refl

-- a byte is put at an address of a space as it is at the flat address
put_flat : (v : Banks) (bytes : List ℕ) (space : Space) (at value x : ℕ) → x ≡ origin_of space + at % space_size space →
    with_vram_byte space at value (record v { bytes = bytes }) ≡ record v { bytes = put_in_cells v.controls x value bytes }
unfolding with_vram_byte put_in_cells
put_flat v bytes space at value x e =
    let small = mod_below at (space_size space) (space_size-whole space).some in
    ap (λ (b : List ℕ). record v { bytes = b })
    (put_below-same 9 (cell_there v.controls space at) (λ b. cell_of v.controls b x) value bytes
    (λ b lt. there_flat v.controls space at b lt small ∙ ap (cell_of v.controls b) (sym e)))

-- an access's bytes are
pub written_flat : (v : Banks) (space : Space) (at : ℕ) (width : Width) (value : ℕ) →
    vram_written v space at width value ≡ record v { bytes = put_by width (put_in_cells v.controls) (aligned_down width (origin_of space + at % space_size space)) value v.bytes }
written_flat v space at Byte value =
    put_flat v v.bytes space (aligned_down Byte at) (value % 256) (aligned_down Byte (origin_of space + at % space_size space)) (flat_first space at Byte (omega arith))
written_flat v space at Half value =
    let x : ℕ = aligned_down Half (origin_of space + at % space_size space) in
    let b0 : List ℕ = put_in_cells v.controls x (value % 256) v.bytes in
    ap (with_vram_byte space (aligned_down Half at + 1) (value / 256 % 256)) (put_flat v v.bytes space (aligned_down Half at) (value % 256) x (flat_first space at Half (omega arith)))
    ∙ put_flat v b0 space (aligned_down Half at + 1) (value / 256 % 256) (x + 1) (flat_aligned space at Half 1 (omega arith))
written_flat v space at Word value =
    let x : ℕ = aligned_down Word (origin_of space + at % space_size space) in
    let y : ℕ = aligned_down Word at in
    let b0 : List ℕ = put_in_cells v.controls x (value % 256) v.bytes in
    let b1 : List ℕ = put_in_cells v.controls (x + 1) (value / 256 % 256) b0 in
    let b2 : List ℕ = put_in_cells v.controls (x + 2) (value / 65536 % 256) b1 in
    let p0 = put_flat v v.bytes space y (value % 256) x (flat_first space at Word (omega arith)) in
    let p1 = put_flat v b0 space (y + 1) (value / 256 % 256) (x + 1) (flat_aligned space at Word 1 (omega arith)) in
    let p2 = put_flat v b1 space (y + 2) (value / 65536 % 256) (x + 2) (flat_aligned space at Word 2 (omega arith)) in
    let p3 = put_flat v b2 space (y + 3) (value / 16777216 % 256) (x + 3) (flat_aligned space at Word 3 (omega arith)) in
    ap (λ (s : Banks). with_vram_byte space (y + 3) (value / 16777216 % 256) (with_vram_byte space (y + 2) (value / 65536 % 256) (with_vram_byte space (y + 1) (value / 256 % 256) s))) p0
    ∙ ap (λ (s : Banks). with_vram_byte space (y + 3) (value / 16777216 % 256) (with_vram_byte space (y + 2) (value / 65536 % 256) s)) p1
    ∙ ap (with_vram_byte space (y + 3) (value / 16777216 % 256)) p2 ∙ p3

-- a write changes all cells that stand at the addresses of its bytes, and nothing else
pub is_written : (v : Banks) (space : Space) (at : ℕ) (width : Width) (value : ℕ) → length v.bytes ≡ 0xA4000 → IsWritten v (vram_written v space at width value) space at width value
is_written v space at width value long =
    let x : ℕ = aligned_down width (origin_of space + at % space_size space) in
    let z : ℕ = aligned_down width at in
    let whole = written_flat v space at width value in
    let by : (vram_written v space at width value).bytes ≡ puts (width_bytes width) v.controls x value v.bytes =
    ap (λ (s : Banks). s.bytes) whole ∙ put_by-puts width v.controls x value v.bytes in
    let same : (k : ℕ) → k < width_bytes width → x + k ≡ origin_of space + (z + k) % space_size space = (λ k lt. flat_aligned space at width k lt) in
    let small : (k : ℕ) → (z + k) % space_size space < space_size space = (λ k. mod_below (z + k) (space_size space) (space_size-whole space).some) in
    let from_there : (k cell : ℕ) → k < width_bytes width → IsCellAt v space (z + k) cell → Hit v.controls (x + k) cell =
    (λ k cell lt t. (let P : ℕ → Type 0 = λ y. Hit v.controls y cell in subst P (sym (same k lt)) (there_hit v.controls space ((z + k) % space_size space) cell t))) in
    let into_there : (k cell : ℕ) → k < width_bytes width → Hit v.controls (x + k) cell → IsCellAt v space (z + k) cell =
    (λ k cell lt h. (let P : ℕ → Type 0 = λ y. Hit v.controls y cell in
    hit_there v.controls space ((z + k) % space_size space) cell (small k) (subst P (same k lt) h))) in
    record {
      controls = ap (λ (s : Banks). s.controls) whole;
      long = ap length by ∙ puts-length (width_bytes width) v.controls x value v.bytes;
      each = λ k cell lt t. ap (λ (bytes : List ℕ). get_or bytes cell 0) by ∙ puts-in (width_bytes width) v.controls x value v.bytes k cell long lt (from_there k cell lt t);
      others = λ cell none. ap (λ (bytes : List ℕ). get_or bytes cell 0) by ∙ puts-others (width_bytes width) v.controls x value v.bytes cell (λ k lt h. none k lt (into_there k cell lt h));
    }
