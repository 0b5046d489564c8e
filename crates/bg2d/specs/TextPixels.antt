use Rattle.std.specs.Prelude.{ℕ, Bool, ◌+◌, ◌*◌, ◌/◌, ◌%◌, ◌^◌, ◌&&◌, nat_lt, if◌then◌else◌, List}
use Rattle.ds_base.specs.Bits.{bits, bit}
use Rattle.ds_base.specs.declared.memories.Width.TheVariants.{Half}
use Rattle.vram_banks.specs.Cells.{Banks, vram_value}
use Rattle.bg2d.specs.declared.layers.TextLayer.{TextLayer}
use Rattle.vram_banks.specs.Bases.{background_space, background_palette_space, map_base, tile_base}
use Rattle.vram_banks.specs.Colours.{indexed_pixel, palette_colour, extended_colour}
use Rattle.vram_banks.specs.Tiles.{index_of_16, index_of_256, flipped}

-- The pixel of a text background at a place of the screen (GBATEK, "LCD VRAM BG Screen Data Format (BG Map)", "LCD I/O BG Control",
-- "DS Video Extended Palettes").

-- a text background's size in pixels: bit 14 of BGxCNT doubles its width, bit 15 its height
abbrev pub text_width : TextLayer → ℕ
text_width layer = if bit 14 layer.control then 512 else 256

abbrev pub text_height : TextLayer → ℕ
text_height layer = if bit 15 layer.control then 512 else 256

-- the map is made of blocks of 2K, each of 32 by 32 entries of two bytes; blocks stand left to right, then down
abbrev pub text_block : TextLayer → ℕ → ℕ → ℕ
text_block layer x y = x / 256 + text_width layer / 256 * (y / 256)

-- the map's entry for a point of the background: the tile in bits 0 to 9, flips across and down in bits 10 and 11, the palette in bits
-- 12 to 15. It doesn't unfold by itself
unfoldable pub text_entry : Banks → TextLayer → ℕ → ℕ → ℕ
text_entry v layer x y =
    vram_value v (background_space layer.engine)
    (map_base layer.engine layer.display layer.control + 0x800 * text_block layer x y + 64 * (y % 256 / 8) + 2 * (x % 256 / 8)) Half

-- bit 7 of BGxCNT: tiles of 256 colours, which have 64 bytes; others have 16 colours and 32 bytes
abbrev pub has_256 : TextLayer → Bool
has_256 layer = bit 7 layer.control

-- the index at (x, y) of an entry's tile, before it is flipped
unfoldable pub text_index : Banks → TextLayer → ℕ → ℕ → ℕ → ℕ
text_index v layer entry x y =
    let space = background_space layer.engine in
    let base = tile_base layer.engine layer.display layer.control in
    if has_256 layer then index_of_256 v space (base + 64 * (entry % 2 ^ 10)) x y else index_of_16 v space (base + 32 * (entry % 2 ^ 10)) x y

-- extended palettes are those of 256 colours where bit 30 of DISPCNT is set: background n uses slot n, and backgrounds 0 and 1 slot n + 2
-- where bit 13 of BGxCNT is set. A slot has 8K, which are sixteen palettes
abbrev pub palette_slot : TextLayer → ℕ
palette_slot layer = if nat_lt layer.number 2 && bit 13 layer.control then layer.number + 2 else layer.number

-- the colour of an index, by the entry's palette
unfoldable pub text_colour : Banks → List ℕ → TextLayer → ℕ → ℕ → ℕ
text_colour v palette layer entry index =
    if has_256 layer
    then (if bit 30 layer.display
    then extended_colour v (background_palette_space layer.engine) (0x2000 * palette_slot layer + 512 * bits 12 4 entry) index
    else palette_colour palette index)
    else palette_colour palette (16 * bits 12 4 entry + index)

-- the pixel of a point of the background, by its map entry
abbrev pub text_entry_pixel : Banks → List ℕ → TextLayer → ℕ → ℕ → ℕ → ℕ
text_entry_pixel v palette layer entry x y =
    indexed_pixel (text_colour v palette layer entry) (text_index v layer entry (flipped (bit 10 entry) (x % 8)) (flipped (bit 11 entry) (y % 8)))

abbrev pub text_point_pixel : Banks → List ℕ → TextLayer → ℕ → ℕ → ℕ
text_point_pixel v palette layer x y = text_entry_pixel v palette layer (text_entry v layer x y) x y

-- the pixel that the background has at place x of a line of the screen: that of the point which its scrolls bring there
unfoldable pub text_pixel : Banks → List ℕ → TextLayer → ℕ → ℕ → ℕ
text_pixel v palette layer line x = text_point_pixel v palette layer ((x + layer.across) % text_width layer) ((line + layer.down) % text_height layer)
