use Rattle.std.specs.Prelude.{ℕ, ◌+◌, ◌*◌, ◌/◌, ◌%◌, ◌^◌, List, Option, Some, None}
use Rattle.ds_base.specs.Bits.{bits, bit}
use Rattle.vram_banks.specs.Cells.{Banks, vram_byte}
use Rattle.bg2d.specs.declared.layers.AffineLayer.{AffineLayer}
use Rattle.vram_banks.specs.Bases.{background_space, map_base, tile_base}
use Rattle.vram_banks.specs.Colours.{indexed_pixel, palette_colour}
use Rattle.vram_banks.specs.Points.{affine_coordinate, place_within}
use Rattle.vram_banks.specs.Tiles.{index_of_256}

-- The pixel of an affine background (GBATEK, "LCD I/O BG Rotation/Scaling", "LCD VRAM BG Screen Data Format (BG Map)").

-- the size in pixels, the same both ways: 128, 256, 512 or 1,024
abbrev pub affine_size : AffineLayer → ℕ
affine_size layer = 128 * 2 ^ bits 14 2 layer.control

-- the pixel of a point: the map has one byte an entry, which is the tile; tiles have 256 colours of the standard palette
unfoldable pub affine_point_pixel : Banks → List ℕ → AffineLayer → ℕ → ℕ → ℕ
affine_point_pixel v palette layer x y =
    let space = background_space layer.engine in
    let tile = vram_byte v space (map_base layer.engine layer.display layer.control + affine_size layer / 8 * (y / 8) + x / 8) in
    indexed_pixel (palette_colour palette) (index_of_256 v space (tile_base layer.engine layer.display layer.control + 64 * tile) (x % 8) (y % 8))

-- the pixel at a place on the background, or a transparent one where either coordinate lies outside
abbrev pub affine_place_pixel : Banks → List ℕ → AffineLayer → Option ℕ → Option ℕ → ℕ
affine_place_pixel v palette layer None y = 0
affine_place_pixel v palette layer (Some x) None = 0
affine_place_pixel v palette layer (Some x) (Some y) = affine_point_pixel v palette layer x y

-- the pixel that the background has at place x of the line
unfoldable pub affine_pixel : Banks → List ℕ → AffineLayer → ℕ → ℕ
affine_pixel v palette layer x =
    let place = place_within (bit 13 layer.control) (affine_size layer) in
    affine_place_pixel v palette layer (place (affine_coordinate layer.x layer.pa x)) (place (affine_coordinate layer.y layer.pc x))
