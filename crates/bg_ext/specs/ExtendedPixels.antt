use Rattle.std.specs.Prelude.{ℕ, Bool, ◌+◌, ◌*◌, ◌/◌, ◌%◌, ◌^◌, if◌then◌else◌, List, [], ◌∷◌, Option, Some, None, slice_index}
use Rattle.ds_base.specs.Bits.{bits, bit}
use Rattle.ds_base.specs.declared.memories.Width.TheVariants.{Half}
use Rattle.vram_banks.specs.Cells.{Banks, vram_byte, vram_value}
use Rattle.vram_banks.specs.Bases.{background_space, background_palette_space, map_base, tile_base}
use Rattle.vram_banks.specs.Colours.{opaque_pixel, indexed_pixel, palette_colour, extended_colour}
use Rattle.vram_banks.specs.Points.{affine_coordinate, place_within}
use Rattle.vram_banks.specs.Tiles.{index_of_256, flipped}
use Rattle.bg_ext.specs.declared.layers.ExtLayer.{ExtLayer}

-- The pixel of an extended background (GBATEK, "DS Video BG Modes / Control", BGxCNT of extended backgrounds; "DS Video Extended Palettes"). It is
-- turned and scaled as an affine background is (GBATEK, "LCD I/O BG Rotation/Scaling").

-- bit 7 of BGxCNT makes it a bitmap, whose pixels are halves where bit 2 is set and bytes where it is not. Without bit 7 it is a map
abbrev pub is_bitmap : ExtLayer → Bool
is_bitmap layer = bit 7 layer.control

abbrev pub has_halves : ExtLayer → Bool
has_halves layer = bit 2 layer.control

-- sizes in pixels, by bits 14 and 15 of BGxCNT: maps are as high as they are wide
abbrev pub map_sides : List ℕ
map_sides = 128 ∷ 256 ∷ 512 ∷ 1024 ∷ []

abbrev pub bitmap_widths : List ℕ
bitmap_widths = 128 ∷ 256 ∷ 512 ∷ 512 ∷ []

abbrev pub bitmap_heights : List ℕ
bitmap_heights = 128 ∷ 256 ∷ 256 ∷ 512 ∷ []

abbrev pub ext_width : ExtLayer → ℕ
ext_width layer = if is_bitmap layer then slice_index bitmap_widths (bits 14 2 layer.control) else slice_index map_sides (bits 14 2 layer.control)

abbrev pub ext_height : ExtLayer → ℕ
ext_height layer = if is_bitmap layer then slice_index bitmap_heights (bits 14 2 layer.control) else slice_index map_sides (bits 14 2 layer.control)

-- ---- maps: halves in the form of text backgrounds' entries, row by row, and tiles of 256 colours, both where an affine background has them

unfoldable pub ext_entry : Banks → ExtLayer → ℕ → ℕ → ℕ
ext_entry v layer x y =
    vram_value v (background_space layer.engine)
    (map_base layer.engine layer.display layer.control + 2 * (slice_index map_sides (bits 14 2 layer.control) / 8 * (y / 8)) + 2 * (x / 8)) Half

-- the index at a point, by the entry: the tile in bits 0 to 9, flips across and down in bits 10 and 11
abbrev pub entry_index : Banks → ExtLayer → ℕ → ℕ → ℕ → ℕ
entry_index v layer entry x y =
    index_of_256 v (background_space layer.engine) (tile_base layer.engine layer.display layer.control + 64 * (entry % 2 ^ 10))
    (flipped (bit 10 entry) (x % 8)) (flipped (bit 11 entry) (y % 8))

-- the colour of an index: with bit 30 of DISPCNT of the entry's palette, in bits 12 to 15, in the slot of the background's number; a slot has 8K,
-- which are sixteen palettes. Without it the entry's palette counts for nothing
abbrev pub entry_colour : Banks → List ℕ → ExtLayer → ℕ → ℕ → ℕ
entry_colour v palette layer entry index =
    if bit 30 layer.display
    then extended_colour v (background_palette_space layer.engine) (0x2000 * layer.number + 512 * bits 12 4 entry) index
    else palette_colour palette index

unfoldable pub entry_pixel : Banks → List ℕ → ExtLayer → ℕ → ℕ → ℕ → ℕ
entry_pixel v palette layer entry x y = indexed_pixel (entry_colour v palette layer entry) (entry_index v layer entry x y)

-- ---- bitmaps: line by line, from a base of 16K steps in bits 8 to 12 of BGxCNT on; DISPCNT adds nothing to it (our choice)

abbrev pub bitmap_base : ExtLayer → ℕ
bitmap_base layer = 0x4000 * bits 8 5 layer.control

-- a byte is a colour's index in the standard palette
unfoldable pub byte_pixel : Banks → List ℕ → ExtLayer → ℕ → ℕ → ℕ
byte_pixel v palette layer x y =
    indexed_pixel (palette_colour palette)
    (vram_byte v (background_space layer.engine) (bitmap_base layer + slice_index bitmap_widths (bits 14 2 layer.control) * y + x))

-- a half is opaque where its bit 15 is set, and then its other bits are the colour
abbrev pub direct_pixel : ℕ → ℕ
direct_pixel half = if bit 15 half then opaque_pixel half else 0

unfoldable pub half_pixel : Banks → ExtLayer → ℕ → ℕ → ℕ
half_pixel v layer x y =
    direct_pixel (vram_value v (background_space layer.engine)
    (bitmap_base layer + 2 * (slice_index bitmap_widths (bits 14 2 layer.control) * y) + 2 * x) Half)

-- ---- points

-- the pixel at a place on the background
unfoldable pub ext_point_pixel : Banks → List ℕ → ExtLayer → ℕ → ℕ → ℕ
ext_point_pixel v palette layer x y =
    if is_bitmap layer
    then (if has_halves layer then half_pixel v layer x y else byte_pixel v palette layer x y)
    else entry_pixel v palette layer (ext_entry v layer x y) x y

-- or a transparent one where either coordinate lies outside
abbrev pub ext_place_pixel : Banks → List ℕ → ExtLayer → Option ℕ → Option ℕ → ℕ
ext_place_pixel v palette layer None y = 0
ext_place_pixel v palette layer (Some x) None = 0
ext_place_pixel v palette layer (Some x) (Some y) = ext_point_pixel v palette layer x y

-- the place that is shown at place x of the line: outside, where bit 13 of BGxCNT is set, the background begins again, each way by its own size
abbrev pub ext_across : ExtLayer → ℕ → Option ℕ
ext_across layer x = place_within (bit 13 layer.control) (ext_width layer) (affine_coordinate layer.x layer.pa x)

abbrev pub ext_down : ExtLayer → ℕ → Option ℕ
ext_down layer x = place_within (bit 13 layer.control) (ext_height layer) (affine_coordinate layer.y layer.pc x)

-- the pixel that the background has at place x of the line
unfoldable pub ext_pixel : Banks → List ℕ → ExtLayer → ℕ → ℕ
ext_pixel v palette layer x = ext_place_pixel v palette layer (ext_across layer x) (ext_down layer x)
