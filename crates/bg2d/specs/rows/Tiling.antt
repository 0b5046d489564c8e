use Rattle.std.specs.Prelude.{ℕ, Bool, ◌⊎◌, ◌&&◌, ◌≡◌, ◌<◌, ◌+◌, ◌-◌, ◌*◌, ◌/◌, ◌%◌, ◌^◌, if◌then◌else◌, List, slice_index}
use Rattle.ds_base.specs.Bits.{bit}
use Rattle.vram_banks.specs.Cells.{Banks, vram_byte, IsRunOf}
use Rattle.bg2d.specs.declared.layers.AffineLayer.{AffineLayer}
use Rattle.bg2d.specs.declared.layers.TextLayer.{TextLayer}
use Rattle.bg2d.specs.declared.texts.KeptPalette.{KeptPalette}
use Rattle.vram_banks.specs.Bases.{background_space, background_palette_space, map_base, tile_base}
use Rattle.vram_banks.specs.Colours.{indexed_pixel}
use Rattle.bg2d.specs.TextPixels.{has_256, text_block, text_width, text_entry, text_index, text_colour, text_entry_pixel}
use Rattle.vram_banks.specs.Tiles.{flipped}

-- How the code draws a row: by tiles. No public call speaks of it.

-- where the entries begin that show line y of the background in the block of column x
abbrev pub block_line : TextLayer → ℕ → ℕ → ℕ
block_line layer x y = map_base layer.engine layer.display layer.control + 0x800 * text_block layer x y + 64 * (y % 256 / 8)

-- the bytes of those entries
abbrev pub IsBlockLine : Banks → TextLayer → ℕ → ℕ → List ℕ → Type 0
IsBlockLine v layer x y bytes = (i : ℕ) → i < 64 → slice_index bytes i ≡ vram_byte v (background_space layer.engine) (block_line layer x y + i)

-- those of the first n blocks across: of the left one and of the right one, or of the left one again where there is no other
abbrev pub AreBlockLines : Banks → TextLayer → ℕ → List ℕ → ℕ → Type 0
AreBlockLines v layer y bytes n =
    (h i : ℕ) → h < n → i < 64 →
    slice_index bytes (64 * h + i) ≡ vram_byte v (background_space layer.engine) (block_line layer (256 * h % text_width layer) y + i)

-- how far past the tiles' base the row of an entry's tile begins that shows line y of the background
abbrev pub tile_offset : TextLayer → ℕ → ℕ → ℕ
tile_offset layer entry y =
    let line = flipped (bit 11 entry) (y % 8) in
    if has_256 layer then 64 * (entry % 2 ^ 10) + 8 * line else 32 * (entry % 2 ^ 10) + 4 * line

abbrev pub text_base : TextLayer → ℕ
text_base layer = tile_base layer.engine layer.display layer.control

-- bytes are those from the tiles' base on, as many as they are
abbrev pub IsTileRun : Banks → TextLayer → List ℕ → Type 0
IsTileRun v layer bytes = IsRunOf v (background_space layer.engine) (text_base layer) bytes

-- the entries of 33 tiles, from the tile on whose left edge is `first`
abbrev pub AreEntries : Banks → TextLayer → ℕ → ℕ → List ℕ → ℕ → Type 0
AreEntries v layer first y entries n = (k : ℕ) → k < n → slice_index entries k ≡ text_entry v layer ((first + 8 * k) % text_width layer) y

-- the indices of 33 tiles' rows, eight each
abbrev pub AreIndices : Banks → TextLayer → ℕ → List ℕ → List ℕ → Type 0
AreIndices v layer y entries indices =
    (k i : ℕ) → k < 33 → i < 8 →
    slice_index indices (8 * k + i) ≡ text_index v layer (slice_index entries k) i (flipped (bit 11 (slice_index entries k)) (y % 8))

-- the pixel at place x of a row whose first tile's left edge is `fine` pixels left of the screen
abbrev pub tiled_pixel : Banks → List ℕ → TextLayer → ℕ → List ℕ → ℕ → ℕ → ℕ
tiled_pixel v palette layer y entries fine x = text_entry_pixel v palette layer (slice_index entries ((fine + x) / 8)) (fine + x) y

-- the pixels of the first n tiles, eight each
abbrev pub AreTiles : Banks → List ℕ → TextLayer → ℕ → List ℕ → List ℕ → ℕ → Type 0
AreTiles v palette layer y entries pixels n =
    (k i : ℕ) → k < n → i < 8 → slice_index pixels (8 * k + i) ≡ text_entry_pixel v palette layer (slice_index entries k) i y

-- the same, from their indices
abbrev pub ArePainted : Banks → List ℕ → TextLayer → List ℕ → List ℕ → List ℕ → ℕ → Type 0
ArePainted v palette layer entries indices pixels n =
    (k i : ℕ) → k < n → i < 8 →
    slice_index pixels (8 * k + i)
    ≡ indexed_pixel (text_colour v palette layer (slice_index entries k)) (slice_index indices (8 * k + flipped (bit 10 (slice_index entries k)) i))

-- the background has extended palettes
abbrev pub is_extended : TextLayer → Bool
is_extended layer = has_256 layer && bit 30 layer.display

-- an extended palette was read where it says
abbrev pub IsKept : Banks → TextLayer → KeptPalette → Type 0
IsKept v layer kept = (i : ℕ) → i < 512 → slice_index kept.bytes i ≡ vram_byte v (background_palette_space layer.engine) (kept.at + i)

-- ---- affine backgrounds

abbrev pub affine_map : AffineLayer → ℕ
affine_map layer = map_base layer.engine layer.display layer.control

abbrev pub affine_base : AffineLayer → ℕ
affine_base layer = tile_base layer.engine layer.display layer.control

-- bytes are those from the first address of the map's first page of 8K on, as many as they are
abbrev pub IsMapRun : Banks → AffineLayer → List ℕ → Type 0
IsMapRun v layer bytes = IsRunOf v (background_space layer.engine) (affine_map layer - affine_map layer % 8192) bytes

-- bytes are those from the tiles' base on, likewise
abbrev pub IsAffineRun : Banks → AffineLayer → List ℕ → Type 0
IsAffineRun v layer bytes = IsRunOf v (background_space layer.engine) (affine_base layer) bytes

-- a size is one of those that affine backgrounds have, which divide 2^32
abbrev pub IsAffineSize : ℕ → Type 0
IsAffineSize size = (size ≡ 128) ⊎ ((size ≡ 256) ⊎ ((size ≡ 512) ⊎ (size ≡ 1024)))
