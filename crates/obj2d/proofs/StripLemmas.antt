use Rattle.obj2d.proofs.Words.{Banks, Bool, Display, IsLaid, List, Object, ObjectPixel, SeenObject, across, ap, arith, box_width, down, false}
use Rattle.obj2d.proofs.Words.{flipped, flips_across, get_or, group, if◌then◌else◌, inl, inr, is_affine, is_drawn, left_edge, mirrored, mode, nat_lt}
use Rattle.obj2d.proofs.Words.{nibble_at, object_at, object_has_256, object_size, palette_number, priority, refl, seen_at, shape, subst, sym, true}
use Rattle.obj2d.proofs.Words.{turn_at, vram_byte, width, widths, with_object, ℕ, ◌%◌, ◌&&◌, ◌*◌, ◌+◌, ◌-◌, ◌/◌, ◌<◌, ◌==◌, ◌^◌, ◌∙◌, ◌≡◌, ◌≢◌, ◌≤◌}
use Rattle.std.proofs.lemmas.Bool.{cases_eq, cases_lt, cases_Bool, agree_below_at, eqb-true, ltb-true, lt-ltb, le-ltb}
use Rattle.ds_base.specs.declared.memories.Space.{Space}
use Rattle.vram_banks.specs.Colours.{indexed_pixel, palette_colour, extended_colour, IsTable}
use Rattle.vram_banks.proofs.PaletteLemmas.{read_pixel, tabled_16, tabled_256}
use Rattle.obj2d.specs.ObjectPixels.{object_space, object_palette_space, object_index, object_colour, point_pixel, flat_pixel, turned_pixel, box_pixel, pixel_of}
use Rattle.obj2d.specs.rows.Strips.{object_tile_row, mirrored_tile, object_colours, AreObjectPixels, AreBox, IsColoured, strip_seen}
use Rattle.obj2d.specs.rows.Spans.{span_first, span_start, span_count}
use Rattle.obj2d.proofs.LayerLemmas.{unseen}

-- ---- addresses

whole_product : (t q n : ℕ) → (t * (4 * q) + 32 * n) % 4 ≡ 0
whole_product t q n = omega arith

pub whole_address : (t b u n : ℕ) → b % 4 ≡ 0 → (t * b + 32 * u * n) % 4 ≡ 0
whole_address t b u n h =
    let P : ℕ → ℕ → Type 0 = λ b sum. (t * b + sum) % 4 ≡ 0 in
    let quarter : 4 * (b / 4) ≡ b = omega (arith, h) in
    let units : 32 * (u * n) ≡ 32 * u * n = omega arith in
    let start : P (4 * (b / 4)) (32 * (u * n)) = whole_product t (b / 4) (u * n) in
    subst (λ (sum : ℕ). P b sum) units (subst (λ (x : ℕ). P x (32 * (u * n))) quarter start)

-- widths are whole tiles
form_below : (o : Object) → 4 * shape o + object_size o < 16
form_below o = omega arith

width_whole : (o : Object) → width o % 8 ≡ 0
width_whole o = eqb-true (width o % 8) 0 (agree_below_at (λ f. get_or widths f 0 % 8 == 0) (λ f. true) 16 (4 * shape o + object_size o) refl (form_below o))

-- ---- indices of the object's line

index_16 : (v : Banks) (display : Display) (o : Object) (x y : ℕ) → object_has_256 o ≡ false →
    object_index v display o x y ≡ nibble_at (x % 8) (vram_byte v (object_space display.engine) (object_tile_row display o y (x / 8) + x % 8 / 2))
unfolding object_index
index_16 v display o x y h = rw h refl

index_256 : (v : Banks) (display : Display) (o : Object) (x y : ℕ) → object_has_256 o ≡ true →
    object_index v display o x y ≡ vram_byte v (object_space display.engine) (object_tile_row display o y (x / 8) + x % 8)
unfolding object_index
index_256 v display o x y h = rw h refl

-- ---- painting

same_pixel : (f g : ℕ → ℕ) (index : ℕ) → f index ≡ g index → indexed_pixel f index ≡ indexed_pixel g index
same_pixel f g index e = rw e refl

pub painted_16 : (v : Banks) (palette : List ℕ) (display : Display) (o : Object) (start index : ℕ) → object_has_256 o ≡ false → start ≡ 16 * palette_number o →
    indexed_pixel (λ c. palette_colour palette (start + c)) index ≡ indexed_pixel (object_colour v palette display o) index
unfolding object_colour
painted_16 v palette display o start index h e =
    same_pixel (λ c. palette_colour palette (start + c)) (object_colour v palette display o) index
    (ap (λ (s : ℕ). palette_colour palette (s + index)) e ∙ (rw h refl))

pub painted_256 : (v : Banks) (palette : List ℕ) (display : Display) (o : Object) (index : ℕ) → object_has_256 o ≡ true → (display.control / 2 ^ 31 % 2 == 1) ≡ false →
    indexed_pixel (λ c. palette_colour palette (0 + c)) index ≡ indexed_pixel (object_colour v palette display o) index
unfolding object_colour
painted_256 v palette display o index h off =
    let none : 0 + index ≡ index = omega arith in
    same_pixel (λ c. palette_colour palette (0 + c)) (object_colour v palette display o) index
    (ap (palette_colour palette) none ∙ (rw (h, off) refl))

pub painted_extended : (v : Banks) (palette : List ℕ) (display : Display) (o : Object) (at index : ℕ) → object_has_256 o ≡ true →
    (display.control / 2 ^ 31 % 2 == 1) ≡ true → at ≡ 512 * palette_number o →
    indexed_pixel (extended_colour v (object_palette_space display.engine) at) index ≡ indexed_pixel (object_colour v palette display o) index
unfolding object_colour
painted_extended v palette display o at index h on e =
    same_pixel (extended_colour v (object_palette_space display.engine) at) (object_colour v palette display o) index
    (ap (λ (a : ℕ). extended_colour v (object_palette_space display.engine) a index) e ∙ (rw (h, on) refl))

-- ---- by a table

pub flipped_below : (flip : Bool) (i : ℕ) → i < 8 → flipped flip i < 8
flipped_below true i h = omega arith
flipped_below false i h = h

pub coloured_16 : (v : Banks) (palette : List ℕ) (display : Display) (o : Object) (table : List ℕ) (start : ℕ) → object_has_256 o ≡ false →
    start ≡ 16 * palette_number o → IsTable false palette table → IsColoured v palette display o table start
coloured_16 v palette display o table start narrow e tabled index below =
    let sixteen : object_colours o ≡ 16 = rw narrow refl in
    let small : index < 16 = omega (arith, below, sixteen) in
    tabled (start + index) (omega (arith, e, small))
    ∙ tabled_16 palette start index (omega (arith, e)) small
    ∙ painted_16 v palette display o start index narrow e

pub coloured_256 : (v : Banks) (palette : List ℕ) (display : Display) (o : Object) (table : List ℕ) → object_has_256 o ≡ true →
    (display.control / 2 ^ 31 % 2 == 1) ≡ false → IsTable true palette table → IsColoured v palette display o table 0
coloured_256 v palette display o table wide off tabled index below =
    let all : object_colours o ≡ 256 = rw wide refl in
    let small : index < 256 = omega (arith, below, all) in
    tabled (0 + index) (omega (arith, small)) ∙ tabled_256 palette index small ∙ painted_256 v palette display o index wide off

pub coloured_extended : (v : Banks) (palette : List ℕ) (display : Display) (o : Object) (bytes table : List ℕ) (at : ℕ) → object_has_256 o ≡ true →
    (display.control / 2 ^ 31 % 2 == 1) ≡ true → at ≡ 512 * palette_number o →
    ((i : ℕ) → i < 512 → get_or bytes i 0 ≡ vram_byte v (object_palette_space display.engine) (at + i)) →
    IsTable true bytes table → IsColoured v palette display o table 0
coloured_extended v palette display o bytes table at wide on e read tabled index below =
    let all : object_colours o ≡ 256 = rw wide refl in
    let small : index < 256 = omega (arith, below, all) in
    let space : Space = object_palette_space display.engine in
    let even : at ≡ at - at % 2 = omega (arith, e) in
    tabled (0 + index) (omega (arith, small))
    ∙ tabled_256 bytes index small
    ∙ read_pixel v space at index bytes small (λ i within. read i within ∙ ap (λ (n : ℕ). vram_byte v space (n + i)) even)
    ∙ painted_extended v palette display o at index wide on e

-- a place of a tile's row is a point of the object
across_tile : (tx j : ℕ) → j < 8 → (8 * tx + j) % 8 ≡ j
across_tile tx j h = omega (arith, h)

tile_across : (tx j : ℕ) → j < 8 → (8 * tx + j) / 8 ≡ tx
tile_across tx j h = omega (arith, h)

pub narrow_point : (v : Banks) (palette : List ℕ) (display : Display) (o : Object) (table : List ℕ) (start at y tx j index : ℕ) → object_has_256 o ≡ false →
    IsColoured v palette display o table start → at ≡ object_tile_row display o y tx → j < 8 → index < 16 →
    index ≡ nibble_at j (vram_byte v (object_space display.engine) (at + j / 2)) →
    get_or table (start + index) 0 ≡ point_pixel v palette display o (8 * tx + j) y
narrow_point v palette display o table start at y tx j index narrow coloured place below small nibble =
    let sixteen : object_colours o ≡ 16 = rw narrow refl in
    let byte : ℕ → ℕ → ℕ → ℕ = λ t i h. nibble_at i (vram_byte v (object_space display.engine) (object_tile_row display o y t + h / 2)) in
    let same : index ≡ object_index v display o (8 * tx + j) y =
    nibble
    ∙ ap (λ (a : ℕ). nibble_at j (vram_byte v (object_space display.engine) (a + j / 2))) place
    ∙ ap (λ (t : ℕ). byte t j j) (sym (tile_across tx j below))
    ∙ ap (λ (i : ℕ). byte ((8 * tx + j) / 8) i i) (sym (across_tile tx j below))
    ∙ sym (index_16 v display o (8 * tx + j) y narrow) in
    coloured index (omega (arith, small, sixteen)) ∙ ap (indexed_pixel (object_colour v palette display o)) same

pub wide_point : (v : Banks) (palette : List ℕ) (display : Display) (o : Object) (table : List ℕ) (at y tx j index : ℕ) → object_has_256 o ≡ true →
    IsColoured v palette display o table 0 → at ≡ object_tile_row display o y tx → j < 8 → index < 256 →
    index ≡ vram_byte v (object_space display.engine) (at + j) →
    get_or table (0 + index) 0 ≡ point_pixel v palette display o (8 * tx + j) y
wide_point v palette display o table at y tx j index wide coloured place below small there =
    let all : object_colours o ≡ 256 = rw wide refl in
    let byte : ℕ → ℕ → ℕ = λ t i. vram_byte v (object_space display.engine) (object_tile_row display o y t + i) in
    let same : index ≡ object_index v display o (8 * tx + j) y =
    there
    ∙ ap (λ (a : ℕ). vram_byte v (object_space display.engine) (a + j)) place
    ∙ ap (λ (t : ℕ). byte t j) (sym (tile_across tx j below))
    ∙ ap (λ (i : ℕ). byte ((8 * tx + j) / 8) i) (sym (across_tile tx j below))
    ∙ sym (index_256 v display o (8 * tx + j) y wide) in
    coloured index (omega (arith, small, all)) ∙ ap (indexed_pixel (object_colour v palette display o)) same

pub on_by : (n : ℕ) → n ≡ 1 → (n == 1) ≡ true
on_by n h = rw h refl

pub off_by : (n : ℕ) → (n ≡ 1 → ⊥) → (n == 1) ≡ false
off_by n h = grind (arith, h)

-- a place in a tile of a row, flipped or not, is a place in the row
mirrored_place : (flip : Bool) (count x : ℕ) → count % 8 ≡ 0 → x < count →
    8 * mirrored_tile flip (count / 8) (x / 8) + flipped flip (x % 8) ≡ mirrored flip count x
mirrored_place true count x whole small = omega arith
mirrored_place false count x whole small = omega arith

pub painted_is_flat : (v : Banks) (palette : List ℕ) (display : Display) (o : Object) (line : ℕ) (pixels : List ℕ) →
    AreObjectPixels v palette display o line pixels (width o / 8) → (x : ℕ) → x < width o →
    get_or pixels x 0 ≡ point_pixel v palette display o (mirrored (flips_across o) (width o) x) line
painted_is_flat v palette display o line pixels painted x small =
    let whole = width_whole o in
    let place : x ≡ 8 * (x / 8) + x % 8 = omega arith in
    let known : x / 8 < width o / 8 = omega (arith, whole, small) in
    ap (λ (j : ℕ). get_or pixels j 0) place
    ∙ painted (x / 8) (x % 8) known (omega arith)
    ∙ ap (λ (j : ℕ). point_pixel v palette display o j line) (mirrored_place (flips_across o) (width o) x whole small)

-- ---- the box

pub box_affine : (v : Banks) (palette oam : List ℕ) (display : Display) (o : Object) (y : ℕ) (pixels : List ℕ) → is_affine o ≡ true →
    ((x : ℕ) → x < box_width o → get_or pixels x 0 ≡ turned_pixel v palette display o (turn_at oam (group o)) x y) → AreBox v palette oam display o y pixels
unfolding box_pixel
box_affine v palette oam display o y pixels h each x small = each x small ∙ (rw h refl)

pub box_flat : (v : Banks) (palette oam : List ℕ) (display : Display) (o : Object) (y : ℕ) (pixels : List ℕ) → is_affine o ≡ false →
    ((x : ℕ) → x < width o → get_or pixels x 0 ≡ flat_pixel v palette display o x y) → AreBox v palette oam display o y pixels
unfolding box_pixel
box_flat v palette oam display o y pixels h each x small =
    let same : box_width o ≡ width o = rw h refl in
    let lt : x < width o = (let P : ℕ → Type 0 = λ n. x < n in subst P same small) in
    each x lt ∙ (rw h refl)

-- ---- laying a strip over a row

across_at : (left k x : ℕ) → left < 512 → k < 512 → x < 256 → (left + k) % 512 ≡ x → (x + 512 - left) % 512 ≡ k
across_at left k x a b c h = omega arith

across_other : (left k x : ℕ) → left < 512 → k < 512 → x < 256 → (left + k) % 512 ≢ x → (x + 512 - left) % 512 ≢ k
across_other left k x a b c h = omega arith

first_low : (left : ℕ) → left < 256 → span_first left ≡ 0
first_low left h = grind (arith, h)

first_high : (left : ℕ) → 256 ≤ left → span_first left ≡ 512 - left
first_high left h = grind (arith, h)

start_low : (left : ℕ) → left < 256 → span_start left ≡ left
start_low left h = grind (arith, h)

start_high : (left : ℕ) → 256 ≤ left → span_start left ≡ 0
start_high left h = grind (arith, h)

-- a count by the lesser of two
lesser_first : (a b : ℕ) → a < b → (if nat_lt a b then a else b) ≡ a
lesser_first a b h = grind (arith, h)

lesser_second : (a b : ℕ) → b ≤ a → (if nat_lt a b then a else b) ≡ b
lesser_second a b h = grind (arith, h)

same_lt : (a n m : ℕ) → (a < n → a < m) → (a < m → a < n) → nat_lt a n ≡ nat_lt a m
same_lt a n m there back = elim (cases_lt a n) [
  | inl lt ↦ lt-ltb a n lt ∙ sym (lt-ltb a m (there lt))
  | inr ge ↦
      elim (cases_lt a m) [
        | inl less ↦ absurd (let k = back less in omega (arith, ge, k))
        | inr le ↦ le-ltb a n (omega (arith, ge)) ∙ sym (le-ltb a m (omega (arith, le)))
      ]
]

after_low : (left n x first count : ℕ) → left < 256 → n ≤ 128 → x < 256 → first ≡ 0 → count ≡ (if nat_lt (n - first) (256 - left) then n - first else 256 - left) →
    nat_lt ((x + 512 - left) % 512) n ≡ nat_lt ((x + 512 - left) % 512) (first + count)
after_low left n x first count low small b e c = elim (cases_lt (n - first) (256 - left)) [
  | inl all ↦
      (let d = lesser_first (n - first) (256 - left) all in
      same_lt ((x + 512 - left) % 512) n (first + count) (λ k. omega (arith, k, e, c, d)) (λ k. omega (arith, k, e, c, d)))
  | inr cut ↦
      (let d = lesser_second (n - first) (256 - left) (omega (arith, cut)) in
      same_lt ((x + 512 - left) % 512) n (first + count) (λ k. omega (arith, k, e, c, d, b, low, small)) (λ k. omega (arith, k, e, c, d, b, low, small, cut)))
]

after_high : (left n x first count : ℕ) → 256 ≤ left → left < 512 → n ≤ 128 → x < 256 → first ≡ 512 - left → count ≡ (if nat_lt (n - first) 256 then n - first else 256) →
    nat_lt ((x + 512 - left) % 512) n ≡ nat_lt ((x + 512 - left) % 512) (first + count)
after_high left n x first count high a small b e c =
    let d = lesser_first (n - first) 256 (omega (arith, small)) in
    same_lt ((x + 512 - left) % 512) n (first + count) (λ k. omega (arith, k, e, c, d, a, high, b)) (λ k. omega (arith, k, e, c, d, a, high, b))

after_span : (left n x : ℕ) → left < 512 → n ≤ 128 → x < 256 → nat_lt ((x + 512 - left) % 512) n ≡ nat_lt ((x + 512 - left) % 512) (span_first left + span_count left n)
after_span left n x a small b = elim (cases_lt left 256) [
  | inl low ↦
      after_low left n x (span_first left) (span_count left n) low small b (first_low left low)
      (ap (λ (k : ℕ). if nat_lt (n - span_first left) (256 - k) then n - span_first left else 256 - k) (start_low left low))
  | inr high ↦
      after_high left n x (span_first left) (span_count left n) (omega (arith, high)) a small b (first_high left (omega (arith, high)))
      (ap (λ (k : ℕ). if nat_lt (n - span_first left) (256 - k) then n - span_first left else 256 - k) (start_high left (omega (arith, high))))
]

-- a place that the box has on the screen is one of the span
covered_low : (left x first start count : ℕ) → left < 256 → x < 256 → first ≡ 0 → start ≡ left → count ≤ 256 - left →
    (x + 512 - left) % 512 < first + count → (start ≤ x) × (x < start + count)
covered_low left x first start count low small e f c h = (omega (arith, low, small, e, f, c, h), omega (arith, low, small, e, f, c, h))

covered_high : (left x first start count : ℕ) → 256 ≤ left → left < 512 → x < 256 → first ≡ 512 - left → start ≡ 0 →
    (x + 512 - left) % 512 < first + count → (start ≤ x) × (x < start + count)
covered_high left x first start count high a small e f h = (omega (arith, f), omega (arith, high, a, small, e, f, h))

span_count_below : (left n : ℕ) → span_count left n ≤ 256 - span_start left
span_count_below left n = elim (cases_lt (n - span_first left) (256 - span_start left)) [
  | inl less ↦ (let d = lesser_first (n - span_first left) (256 - span_start left) less in omega (arith, d, less))
  | inr more ↦ (let d = lesser_second (n - span_first left) (256 - span_start left) (omega (arith, more)) in omega (arith, d))
]

pub covered : (left n x : ℕ) → left < 512 → n ≤ 128 → x < 256 → (x + 512 - left) % 512 < n →
    (span_start left ≤ x) × (x < span_start left + span_count left n)
covered left n x a small b h =
    let at : ℕ = (x + 512 - left) % 512 in
    let e = after_span left n x a small b in
    let within : at < span_first left + span_count left n = (let f = e in grind (arith, f, h)) in
    elim (cases_lt left 256) [
      | inl low ↦
          (let s = start_low left low in
          let c = span_count_below left n in
          covered_low left x (span_first left) (span_start left) (span_count left n) low b (first_low left low) s (omega (arith, s, c)) within)
      | inr high ↦
          (let le : 256 ≤ left = omega (arith, high) in
          covered_high left x (span_first left) (span_start left) (span_count left n) le a b (first_high left le) (start_high left le) within)
    ]

-- a place of the span
pub span_place : (left n i : ℕ) → left < 512 → i < span_count left n → span_start left + i ≡ (left + (span_first left + i)) % 512
span_place left n i a h = elim (cases_lt left 256) [
  | inl low ↦
      (let e = first_low left low in
      let f = start_low left low in
      let c = span_count_below left n in
      omega (arith, e, f, c, h, low))
  | inr high ↦
      (let e = first_high left (omega (arith, high)) in
      let f = start_high left (omega (arith, high)) in
      let c = span_count_below left n in
      omega (arith, e, f, c, h, high, a))
]

pub placed_span : (o : Object) (left n first start count i : ℕ) → left ≡ left_edge o → first ≡ span_first left → start ≡ span_start left → count ≡ span_count left n →
    i < count → start + i ≡ (left_edge o + (first + i)) % 512
placed_span o left n first start count i a b c d h =
    let small : left < 512 = omega (arith, a) in
    let k = span_place left n i small (omega (arith, h, d)) in
    omega (arith, a, b, c, k)

-- before its pixel is laid, and after
pub seen_before : (o : Object) (pixels : List ℕ) (k x : ℕ) (p : ObjectPixel) → across o x ≡ k → with_object (strip_seen o pixels k x) p ≡ p
seen_before o pixels k x p h =
    let off : nat_lt (across o x) k ≡ false = le-ltb (across o x) k (omega (arith, h)) in
    unseen (strip_seen o pixels k x) p (rw off refl)

pub seen_after : (o : Object) (pixels : List ℕ) (k x : ℕ) → across o x ≡ k →
    strip_seen o pixels (k + 1) x ≡ record { colour = get_or pixels k 0; priority = priority o; mode = mode o }
seen_after o pixels k x h =
    let on : nat_lt (across o x) (k + 1) ≡ true = lt-ltb (across o x) (k + 1) (omega (arith, h)) in
    ap (λ (n : ℕ). record { colour = n; priority = priority o; mode = mode o }) ((rw on refl) ∙ ap (λ (j : ℕ). get_or pixels j 0) h)

pub seen_elsewhere : (o : Object) (pixels : List ℕ) (k x : ℕ) → across o x ≢ k → strip_seen o pixels (k + 1) x ≡ strip_seen o pixels k x
seen_elsewhere o pixels k x h =
    let same : nat_lt (across o x) (k + 1) ≡ nat_lt (across o x) k = grind (arith, h) in
    rw same refl

-- one pixel more
pub laid_more : (o : Object) (pixels : List ℕ) (k place p m : ℕ) (before between after : ℕ → ObjectPixel) → k < 512 → place ≡ (left_edge o + k) % 512 →
    p ≡ priority o → m ≡ mode o → IsLaid o pixels k before between →
    (place < 256 → after place ≡ with_object (record { colour = get_or pixels k 0; priority = p; mode = m }) (between place)) →
    ((i : ℕ) → i ≢ place → after i ≡ between i) → IsLaid o pixels (k + 1) before after
laid_more o pixels k place p m before between after small there is_p is_m laid here others x on_screen =
    let left : left_edge o < 512 = omega arith in
    elim (cases_eq x place) [
      | inl same ↦
          (let found : across o x ≡ k = across_at (left_edge o) k x left small on_screen (sym there ∙ sym same) in
          let P : ℕ → Type 0 = λ (i : ℕ). i < 256 →
          after i ≡ with_object (record { colour = get_or pixels k 0; priority = p; mode = m }) (between i) in
          let laid_here : P x = subst P (sym same) here in
          laid_here on_screen
          ∙ ap (λ (n : ℕ). with_object (record { colour = get_or pixels k 0; priority = n; mode = m }) (between x)) is_p
          ∙ ap (λ (n : ℕ). with_object (record { colour = get_or pixels k 0; priority = priority o; mode = n }) (between x)) is_m
          ∙ ap (λ (s : SeenObject). with_object s (between x)) (sym (seen_after o pixels k x found))
          ∙ ap (with_object (strip_seen o pixels (k + 1) x)) (laid x on_screen ∙ seen_before o pixels k x (before x) found))
      | inr other ↦
          (let elsewhere : across o x ≢ k = across_other (left_edge o) k x left small on_screen (λ e. other (sym e ∙ sym there)) in
          others x other ∙ laid x on_screen ∙ ap (λ (s : SeenObject). with_object s (before x)) (sym (seen_elsewhere o pixels k x elsewhere)))
    ]

-- ---- the part of a box that is on the screen

-- nor after it
pub laid_all : (o : Object) (pixels : List ℕ) (n : ℕ) (before after : ℕ → ObjectPixel) → n ≤ 128 →
    IsLaid o pixels (span_first (left_edge o) + span_count (left_edge o) n) before after → IsLaid o pixels n before after
laid_all o pixels n before after small laid x on_screen =
    let left : left_edge o < 512 = omega arith in
    let same : nat_lt (across o x) n ≡ nat_lt (across o x) (span_first (left_edge o) + span_count (left_edge o) n) = after_span (left_edge o) n x left small on_screen in
    laid x on_screen ∙ ap (λ (b : Bool). with_object (record { colour = if b then get_or pixels (across o x) 0 else 0; priority = priority o; mode = mode o }) (before x)) (sym same)

-- ---- what one object has at a place

pub strip_is_seen : (v : Banks) (palette oam : List ℕ) (display : Display) (line number x : ℕ) (pixels : List ℕ) → is_drawn display.control (object_at oam number) line ≡ true →
    AreBox v palette oam display (object_at oam number) (down (object_at oam number) line) pixels →
    strip_seen (object_at oam number) pixels (box_width (object_at oam number)) x ≡ seen_at v palette oam display line x number
unfolding seen_at pixel_of
strip_is_seen v palette oam display line number x pixels on are =
    let o : Object = object_at oam number in
    ap (λ (n : ℕ). record { colour = n; priority = priority o; mode = mode o })
    (elim (cases_Bool (nat_lt (across o x) (box_width o))) [
      | inl inside ↦ rw (on, inside) (are (across o x) (ltb-true (across o x) (box_width o) inside))
      | inr outside ↦ rw (on, outside) refl
    ])

pub nothing_seen : (v : Banks) (palette oam : List ℕ) (display : Display) (line number x : ℕ) (p : ObjectPixel) → is_drawn display.control (object_at oam number) line ≡ false →
    with_object (seen_at v palette oam display line x number) p ≡ p
unfolding seen_at pixel_of
nothing_seen v palette oam display line number x p off = unseen (seen_at v palette oam display line x number) p (rw off refl)

pub rank_of : (v : Banks) (palette oam : List ℕ) (display : Display) (line x number rank : ℕ) → rank ≡ priority (object_at oam number) →
    (seen_at v palette oam display line x number).priority ≡ rank
unfolding seen_at
rank_of v palette oam display line x number rank e = sym e

-- an object whose strip is laid over a row
pub drawn : (v : Banks) (palette oam : List ℕ) (display : Display) (line number : ℕ) (o : Object) (y : ℕ) (pixels : List ℕ) (before after : ℕ → ObjectPixel) →
    o ≡ object_at oam number → is_drawn display.control o line ≡ true → y ≡ down o line → AreBox v palette oam display o y pixels → IsLaid o pixels (box_width o) before after →
    (x : ℕ) → x < 256 → after x ≡ with_object (seen_at v palette oam display line x number) (before x)
drawn v palette oam display line number o y pixels before after e on there are laid x small =
    let P : Object → Type 0 = λ (q : Object). is_drawn display.control q line ≡ true → AreBox v palette oam display q (down q line) pixels →
    strip_seen q pixels (box_width q) x ≡ seen_at v palette oam display line x number in
    let Q : ℕ → Type 0 = λ (n : ℕ). AreBox v palette oam display o n pixels in
    let seen : P o = subst P (sym e) (strip_is_seen v palette oam display line number x pixels) in
    laid x small ∙ ap (λ (s : SeenObject). with_object s (before x)) (seen on (subst Q there are))

seen_across : (drawn inside : Bool) (pixel : ℕ) → (if drawn && inside then pixel else 0) ≢ 0 → inside ≡ true
seen_across true true pixel full = refl
seen_across true false pixel full = absurd (full refl)
seen_across false inside pixel full = absurd (full refl)

-- where an object is seen, the place is one of its span
pub seen_covered : (v : Banks) (palette oam : List ℕ) (display : Display) (line number x left n start count : ℕ) → x < 256 →
    left ≡ left_edge (object_at oam number) → n ≡ box_width (object_at oam number) → n ≤ 128 → start ≡ span_start left → count ≡ span_count left n →
    (seen_at v palette oam display line x number).colour ≢ 0 → (start ≤ x) × (x < start + count)
unfolding seen_at pixel_of
seen_covered v palette oam display line number x left n start count small is_left is_n few is_start is_count full =
    let o = object_at oam number in
    let there : nat_lt (across o x) (box_width o) ≡ true = seen_across _ (nat_lt (across o x) (box_width o)) _ full in
    let h : across o x < n = grind (arith, there, is_n) in
    let a : left < 512 = omega (arith, is_left) in
    let P : ℕ → Type 0 = λ k. (x + 512 - k) % 512 < n in
    let c = covered left n x a few small (subst P (sym is_left) h) in
    let from = c.0 in
    let to = c.1 in
    (omega (arith, is_start, from), omega (arith, is_start, is_count, to))
