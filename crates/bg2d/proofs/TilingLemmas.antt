use Rattle.bg2d.proofs.Words.{AreEntries, ArePainted, Banks, Bool, IsKept, List, TextLayer, ap, arith, background_palette_space, background_space}
use Rattle.bg2d.proofs.Words.{bit, bits, flipped, get_or, if◌then◌else◌, indexed_pixel, map_base, nibble_at, palette_colour, refl, subst, sym}
use Rattle.bg2d.proofs.Words.{text_base, tile_offset, tiled_pixel, true, vram_byte, ℕ, ◌%◌, ◌&&◌, ◌*◌, ◌+◌, ◌/◌, ◌<◌, ◌^◌, ◌∙◌, ◌≡◌}
use Rattle.std.proofs.Common.{false, ◌-◌, ◌==◌, ◌⊎◌, inl, inr, drop}
use Rattle.std.specs.List.{slice_range}
use Rattle.std.proofs.lemmas.List.{get_or-take, get_or-drop}
use Rattle.ds_base.specs.Numbers.{number_at}
use Rattle.ds_base.specs.declared.memories.Width.TheVariants.{Half}
use Rattle.ds_base.proofs.Choices.{both}
use Rattle.bg2d.specs.declared.texts.KeptPalette.{KeptPalette}
use Rattle.vram_banks.specs.Colours.{extended_colour, table_pixel}
use Rattle.vram_banks.proofs.PaletteLemmas.{read_pixel, tabled_16, tabled_256}
use Rattle.bg2d.specs.TextPixels.{text_width, text_height, has_256, text_entry, text_index, text_colour, text_entry_pixel, text_pixel, palette_slot}
use Rattle.bg2d.specs.rows.Tiling.{block_line, is_extended, AreBlockLines, IsBlockLine, AreIndices, AreTiles}

-- ---- entries from bytes

even_base : (b : Bool) (field : ℕ) → (if b then 0x10000 * field else 0) % 2 ≡ 0
even_base true field = omega arith
even_base false field = refl

even_line : (layer : TextLayer) (x y : ℕ) → block_line layer x y % 2 ≡ 0
even_line layer x y = (let h = even_base (layer.engine == 0) (bits 27 3 layer.display) in omega (arith, h))

-- an entry has two of its block's bytes
pub entry_of_block : (v : Banks) (layer : TextLayer) (left x y : ℕ) (bytes : List ℕ) → left / 256 ≡ x / 256 → IsBlockLine v layer left y bytes →
    number_at Half bytes (2 * (x % 256 / 8)) ≡ text_entry v layer x y
unfolding text_entry
entry_of_block v layer left x y bytes same read =
    let f : ℕ → ℕ = vram_byte v (background_space layer.engine) in
    let at : ℕ = block_line layer left y in
    let c : ℕ = x % 256 / 8 in
    let here : ℕ = block_line layer x y + 2 * c in
    let start : at ≡ block_line layer x y = ap (λ (n : ℕ). map_base layer.engine layer.display layer.control + 0x800 * (n + text_width layer / 256 * (y / 256)) + 64 * (y % 256 / 8)) same in
    let even : block_line layer x y % 2 ≡ 0 = even_line layer x y in
    let down : here - here % 2 ≡ here = omega (arith, even) in
    let first : at + 2 * c ≡ here = ap (λ (n : ℕ). n + 2 * c) start in
    let second : at + (2 * c + 1) ≡ here + 1 = omega (arith, start) in
    let low : get_or bytes (2 * c) 0 ≡ f here = read (2 * c) (omega arith) ∙ ap f first in
    let high : get_or bytes (2 * c + 1) 0 ≡ f (here + 1) = read (2 * c + 1) (omega arith) ∙ ap f second in
    ap (λ (n : ℕ). n + 256 * get_or bytes (2 * c + 1) 0) low
    ∙ ap (λ (n : ℕ). f here + 256 * n) high
    ∙ sym (ap (λ (n : ℕ). f n + 256 * f (n + 1)) down)

wide_or_not : (layer : TextLayer) → (text_width layer ≡ 256) ⊎ (text_width layer ≡ 512)
wide_or_not layer = grind arith

record InBlocks (width first k : ℕ) : Type 0 where
  block : 256 * ((first / 8 + k) % 64 / 32) % width / 256 ≡ (first + 8 * k) % width / 256
  column : (first / 8 + k) % 64 % 32 ≡ (first + 8 * k) % width % 256 / 8

in_blocks_256 : (first k : ℕ) → first % 8 ≡ 0 → first < 256 → k < 33 → InBlocks 256 first k
in_blocks_256 first k whole within known = record { block = omega (arith, whole, within, known); column = omega (arith, whole, within, known) }

in_blocks_512 : (first k : ℕ) → first % 8 ≡ 0 → first < 512 → k < 33 → InBlocks 512 first k
in_blocks_512 first k whole within known = record { block = omega (arith, whole, within, known); column = omega (arith, whole, within, known) }

in_blocks : (width first k : ℕ) → (width ≡ 256) ⊎ (width ≡ 512) → first % 8 ≡ 0 → first < width → k < 33 → InBlocks width first k
in_blocks width first k h whole within known = (let P : ℕ → Type 0 = λ w. first < w → InBlocks w first k in elim h [
  | inl e ↦ subst P (sym e) (λ less. in_blocks_256 first k whole less known) within
  | inr e ↦ subst P (sym e) (λ less. in_blocks_512 first k whole less known) within
])

-- the entries of a row are among those of both blocks
pub entry_of_blocks : (v : Banks) (layer : TextLayer) (first k y : ℕ) (bytes : List ℕ) → first % 8 ≡ 0 → first < text_width layer → k < 33 →
    AreBlockLines v layer y bytes 2 →
    number_at Half bytes (2 * ((first / 8 + k) % 64)) ≡ text_entry v layer ((first + 8 * k) % text_width layer) y
entry_of_blocks v layer first k y bytes whole within known read =
    let c : ℕ = (first / 8 + k) % 64 in
    let h : ℕ = c / 32 in
    let x : ℕ = (first + 8 * k) % text_width layer in
    let t = in_blocks (text_width layer) first k (wide_or_not layer) whole within known in
    let part : List ℕ = drop (64 * h) bytes in
    let place : (i : ℕ) → get_or part i 0 ≡ get_or bytes (64 * h + i) 0 = λ i. get_or-drop (64 * h) bytes i 0 in
    let column : c % 32 ≡ x % 256 / 8 = t.column in
    let low : get_or bytes (2 * c) 0 ≡ get_or part (2 * (x % 256 / 8)) 0 =
    ap (λ (n : ℕ). get_or bytes n 0) (omega (arith, column)) ∙ sym (place (2 * (x % 256 / 8))) in
    let high : get_or bytes (2 * c + 1) 0 ≡ get_or part (2 * (x % 256 / 8) + 1) 0 =
    ap (λ (n : ℕ). get_or bytes n 0) (omega (arith, column)) ∙ sym (place (2 * (x % 256 / 8) + 1)) in
    ap (λ (n : ℕ). n + 256 * get_or bytes (2 * c + 1) 0) low
    ∙ ap (λ (n : ℕ). get_or part (2 * (x % 256 / 8)) 0 + 256 * n) high
    ∙ entry_of_block v layer (256 * h % text_width layer) x y part t.block (λ i lt. place i ∙ read h i (omega arith) lt)

-- ---- indices from bytes

pub index_16 : (v : Banks) (layer : TextLayer) (entry i y : ℕ) → has_256 layer ≡ false →
    text_index v layer entry i (flipped (bit 11 entry) (y % 8))
    ≡ nibble_at i (vram_byte v (background_space layer.engine) (text_base layer + tile_offset layer entry y + i / 2))
unfolding text_index
index_16 v layer entry i y h =
    let line : ℕ = flipped (bit 11 entry) (y % 8) in
    let place : text_base layer + 32 * (entry % 2 ^ 10) + 4 * line + i / 2 ≡ text_base layer + (32 * (entry % 2 ^ 10) + 4 * line) + i / 2 = omega arith in
    rw h (ap (λ (at : ℕ). nibble_at i (vram_byte v (background_space layer.engine) at)) place)

pub index_256 : (v : Banks) (layer : TextLayer) (entry i y : ℕ) → has_256 layer ≡ true →
    text_index v layer entry i (flipped (bit 11 entry) (y % 8)) ≡ vram_byte v (background_space layer.engine) (text_base layer + tile_offset layer entry y + i)
unfolding text_index
index_256 v layer entry i y h =
    let line : ℕ = flipped (bit 11 entry) (y % 8) in
    let place : text_base layer + 64 * (entry % 2 ^ 10) + 8 * line + i ≡ text_base layer + (64 * (entry % 2 ^ 10) + 8 * line) + i = omega arith in
    rw h (ap (vram_byte v (background_space layer.engine)) place)

pub indices_of_256 : (v : Banks) (layer : TextLayer) (y : ℕ) (entries indices : List ℕ) → has_256 layer ≡ true →
    ((k i : ℕ) → k < 33 → i < 8 → get_or indices (8 * k + i) 0 ≡ vram_byte v (background_space layer.engine) (text_base layer + tile_offset layer (get_or entries k 0) y + i)) →
    AreIndices v layer y entries indices
indices_of_256 v layer y entries indices wide packed k i known small =
    packed k i known small ∙ sym (index_256 v layer (get_or entries k 0) i y wide)

-- ---- a place of the row is a place in a tile

pub flipped_below : (flip : Bool) (place : ℕ) → place < 8 → flipped flip place < 8
flipped_below true place h = omega arith
flipped_below false place h = h

record InTile (width across x : ℕ) : Type 0 where
  point : (x + across) % width ≡ (across % width / 8 * 8 + 8 * ((across % 8 + x) / 8)) % width + (across % 8 + x) % 8
  edge : (across % width / 8 * 8 + 8 * ((across % 8 + x) / 8)) % width % 8 ≡ 0

in_tile_256 : (across x : ℕ) → InTile 256 across x
in_tile_256 across x = record { point = omega arith; edge = omega arith }

in_tile_512 : (across x : ℕ) → InTile 512 across x
in_tile_512 across x = record { point = omega arith; edge = omega arith }

in_tile : (width across x : ℕ) → (width ≡ 256) ⊎ (width ≡ 512) → InTile width across x
in_tile width across x h = (let P : ℕ → Type 0 = λ w. InTile w across x in elim h [
  | inl e ↦ subst P (sym e) (in_tile_256 across x)
  | inr e ↦ subst P (sym e) (in_tile_512 across x)
])

-- the pixels of a tile's row have one entry
entry_of_tile : (v : Banks) (layer : TextLayer) (edge i y : ℕ) → edge % 8 ≡ 0 → i < 8 → text_entry v layer (edge + i) y ≡ text_entry v layer edge y
unfolding text_entry
entry_of_tile v layer edge i y whole small =
    let block : (edge + i) / 256 ≡ edge / 256 = omega arith in
    let column : (edge + i) % 256 / 8 ≡ edge % 256 / 8 = omega arith in
    rw (block, column) refl

pub tiled_is_text : (v : Banks) (palette : List ℕ) (layer : TextLayer) (line x : ℕ) (entries : List ℕ) → x < 256 →
    AreEntries v layer (layer.across % text_width layer / 8 * 8) ((line + layer.down) % text_height layer) entries 33 →
    tiled_pixel v palette layer ((line + layer.down) % text_height layer) entries (layer.across % 8) x ≡ text_pixel v palette layer line x
unfolding text_pixel
tiled_is_text v palette layer line x entries small are =
    let y : ℕ = (line + layer.down) % text_height layer in
    let point : ℕ = (x + layer.across) % text_width layer in
    let at : ℕ = layer.across % 8 + x in
    let edge : ℕ = (layer.across % text_width layer / 8 * 8 + 8 * (at / 8)) % text_width layer in
    let t = in_tile (text_width layer) layer.across x (wide_or_not layer) in
    let here : point ≡ edge + at % 8 = t.point in
    let whole : edge % 8 ≡ 0 = t.edge in
    let column : at % 8 ≡ point % 8 = omega (arith, here, whole) in
    let entry : get_or entries (at / 8) 0 ≡ text_entry v layer point y =
    are (at / 8) (omega arith) ∙ sym (entry_of_tile v layer edge (at % 8) y whole (omega arith)) ∙ ap (λ (p : ℕ). text_entry v layer p y) (sym here) in
    ap (λ (e : ℕ). text_entry_pixel v palette layer e at y) entry
    ∙ ap (λ (c : ℕ). indexed_pixel (text_colour v palette layer (text_entry v layer point y))
    (text_index v layer (text_entry v layer point y) (flipped (bit 10 (text_entry v layer point y)) c) (flipped (bit 11 (text_entry v layer point y)) (y % 8)))) column

-- ---- painting

same_pixel : (f g : ℕ → ℕ) (index : ℕ) → f index ≡ g index → indexed_pixel f index ≡ indexed_pixel g index
same_pixel f g index e = rw e refl

pub painted_16 : (v : Banks) (palette : List ℕ) (layer : TextLayer) (entry start index : ℕ) → has_256 layer ≡ false → start ≡ 16 * bits 12 4 entry →
    indexed_pixel (λ c. palette_colour palette (start + c)) index ≡ indexed_pixel (text_colour v palette layer entry) index
unfolding text_colour
painted_16 v palette layer entry start index h e =
    same_pixel (λ c. palette_colour palette (start + c)) (text_colour v palette layer entry) index
    (ap (λ (s : ℕ). palette_colour palette (s + index)) e ∙ (rw h refl))

pub painted_256 : (v : Banks) (palette : List ℕ) (layer : TextLayer) (entry index : ℕ) → has_256 layer ≡ true → bit 30 layer.display ≡ false →
    indexed_pixel (λ c. palette_colour palette (0 + c)) index ≡ indexed_pixel (text_colour v palette layer entry) index
unfolding text_colour
painted_256 v palette layer entry index h off =
    let none : 0 + index ≡ index = omega arith in
    same_pixel (λ c. palette_colour palette (0 + c)) (text_colour v palette layer entry) index
    (ap (palette_colour palette) none ∙ (rw (h, off) refl))

pub painted_extended : (v : Banks) (palette : List ℕ) (layer : TextLayer) (entry at index : ℕ) → has_256 layer ≡ true → bit 30 layer.display ≡ true →
    at ≡ 0x2000 * palette_slot layer + 512 * bits 12 4 entry →
    indexed_pixel (extended_colour v (background_palette_space layer.engine) at) index ≡ indexed_pixel (text_colour v palette layer entry) index
unfolding text_colour
painted_extended v palette layer entry at index h on e =
    same_pixel (extended_colour v (background_palette_space layer.engine) at) (text_colour v palette layer entry) index
    (ap (λ (a : ℕ). extended_colour v (background_palette_space layer.engine) a index) e ∙ (rw (h, on) refl))

-- by a table
pub table_16 : (v : Banks) (palette : List ℕ) (layer : TextLayer) (entry index : ℕ) → has_256 layer ≡ false → index < 16 →
    table_pixel false palette (16 * bits 12 4 entry + index) ≡ indexed_pixel (text_colour v palette layer entry) index
table_16 v palette layer entry index narrow small =
    tabled_16 palette (16 * bits 12 4 entry) index (omega arith) small
    ∙ painted_16 v palette layer entry (16 * bits 12 4 entry) index narrow refl

pub table_256 : (v : Banks) (palette : List ℕ) (layer : TextLayer) (entry index : ℕ) → has_256 layer ≡ true → is_extended layer ≡ false → index < 256 →
    table_pixel true palette (0 + index) ≡ indexed_pixel (text_colour v palette layer entry) index
table_256 v palette layer entry index wide standard small =
    let off : bit 30 layer.display ≡ false = sym (ap (λ (w : Bool). w && bit 30 layer.display) wide) ∙ standard in
    tabled_256 palette index small ∙ painted_256 v palette layer entry index wide off

-- by an extended palette that was read
pub kept_pixel : (v : Banks) (palette : List ℕ) (layer : TextLayer) (entry index : ℕ) (kept : KeptPalette) → is_extended layer ≡ true → index < 256 →
    IsKept v layer kept → kept.at ≡ 0x2000 * palette_slot layer + 512 * bits 12 4 entry →
    indexed_pixel (λ c. palette_colour kept.bytes (0 + c)) index ≡ indexed_pixel (text_colour v palette layer entry) index
kept_pixel v palette layer entry index kept extended small read e =
    let both = both (has_256 layer) (bit 30 layer.display) extended in
    let even : kept.at ≡ kept.at - kept.at % 2 = omega (arith, e) in
    let f : ℕ → ℕ = vram_byte v (background_palette_space layer.engine) in
    read_pixel v (background_palette_space layer.engine) kept.at index kept.bytes small (λ i within. read i within ∙ ap (λ (n : ℕ). f (n + i)) even)
    ∙ painted_extended v palette layer entry kept.at index both.0 both.1 e

-- pixels that were painted from indices are those of the tiles
pub painted_tiles : (v : Banks) (palette : List ℕ) (layer : TextLayer) (y : ℕ) (entries indices pixels : List ℕ) →
    AreIndices v layer y entries indices → ArePainted v palette layer entries indices pixels 33 → AreTiles v palette layer y entries pixels 33
painted_tiles v palette layer y entries indices pixels are painted k i known small =
    let entry : ℕ = get_or entries k 0 in
    let place : i ≡ i % 8 = omega (arith, small) in
    painted k i known small
    ∙ ap (indexed_pixel (text_colour v palette layer entry)) (are k (flipped (bit 10 entry) i) known (flipped_below (bit 10 entry) i small))
    ∙ ap (λ (n : ℕ). indexed_pixel (text_colour v palette layer entry) (text_index v layer entry (flipped (bit 10 entry) n) (flipped (bit 11 entry) (y % 8)))) place

-- the pixels of tiles, from the first tile's left edge on, are those of the background
pub tiles_are_tiled : (v : Banks) (palette : List ℕ) (layer : TextLayer) (y fine x : ℕ) (entries pixels : List ℕ) → fine + x < 264 →
    AreTiles v palette layer y entries pixels 33 → get_or pixels (fine + x) 0 ≡ tiled_pixel v palette layer y entries fine x
tiles_are_tiled v palette layer y fine x entries pixels small are =
    let at : ℕ = fine + x in
    let entry : ℕ = get_or entries (at / 8) 0 in
    let place : at ≡ 8 * (at / 8) + at % 8 = omega arith in
    let twice : at % 8 % 8 ≡ at % 8 = omega arith in
    ap (λ (j : ℕ). get_or pixels j 0) place
    ∙ are (at / 8) (at % 8) (omega arith) (omega arith)
    ∙ ap (λ (n : ℕ). indexed_pixel (text_colour v palette layer entry) (text_index v layer entry (flipped (bit 10 entry) n) (flipped (bit 11 entry) (y % 8)))) twice

pub index_of_range : (row : List ℕ) (from n i : ℕ) → i < n → get_or (slice_range row from (from + n)) i 0 ≡ get_or row (from + i) 0
index_of_range row from n i lt = get_or-take (from + n - from) (drop from row) i 0 (omega arith) ∙ get_or-drop from row i 0
