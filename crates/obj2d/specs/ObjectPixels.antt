use Rattle.std.specs.Prelude.{ℕ, ◌+◌, ◌*◌, ◌/◌, ◌%◌, ◌^◌, ◌==◌, ◌&&◌, nat_lt, if◌then◌else◌, List, Option, Some, None}
use Rattle.ds_base.specs.Bits.{bits, bit}
use Rattle.ds_base.specs.declared.memories.Space.{Space}
use Rattle.ds_base.specs.declared.memories.Space.TheVariants.{AObj, BObj, AObjPalette, BObjPalette}
use Rattle.vram_banks.specs.Cells.{Banks}
use Rattle.vram_banks.specs.Colours.{indexed_pixel, palette_colour, extended_colour}
use Rattle.vram_banks.specs.Tiles.{index_of_16, index_of_256}
use Rattle.obj2d.specs.declared.objects.Display.{Display}
use Rattle.obj2d.specs.declared.objects.Object.{Object}
use Rattle.obj2d.specs.declared.objects.Turn.{Turn}
use Rattle.obj2d.specs.Attributes.{turn_at, group, is_affine, object_has_256, tile, palette_number, width, height, box_width, flips_across, flips_down}
use Rattle.obj2d.specs.Places.{across, down, is_drawn, mirrored, affine_across, affine_down}

-- The pixel that one object has at a place of a line (GBATEK, "LCD OBJ - VRAM Character (Tile) Mapping", "DS Video OBJs", "DS Video Extended
-- Palettes").

-- engine 0 is A, any other is B
abbrev pub object_space : ℕ → Space
object_space engine = if engine == 0 then AObj else BObj

abbrev pub object_palette_space : ℕ → Space
object_palette_space engine = if engine == 0 then AObjPalette else BObjPalette

-- how many units of 32 bytes a tile has: tiles of 256 colours have 64 bytes
abbrev pub tile_units : Object → ℕ
tile_units o = if object_has_256 o then 2 else 1

-- where the tile lies that is tx tiles right and ty tiles down in the object. In one dimension (DISPCNT bit 4) the object's tiles stand one after
-- another, row by row, and the tile's number counts in steps of 32, 64, 128 or 256 bytes (DISPCNT bits 20 and 21). In two dimensions all tiles
-- are a sheet of 32 units a row; a 256-colour object's tile number counts in units too, with its lowest bit (our choice)
abbrev pub tile_address : Display → Object → ℕ → ℕ → ℕ
tile_address display o tx ty =
    if bit 4 display.control
    then tile o * (32 * 2 ^ bits 20 2 display.control) + 32 * tile_units o * (ty * (width o / 8) + tx)
    else 32 * (tile o + 32 * ty + tx * tile_units o)

-- the index at a point of the object
unfoldable pub object_index : Banks → Display → Object → ℕ → ℕ → ℕ
object_index v display o x y =
    let space = object_space display.engine in
    let at = tile_address display o (x / 8) (y / 8) in
    if object_has_256 o then index_of_256 v space at (x % 8) (y % 8) else index_of_16 v space at (x % 8) (y % 8)

-- the colour of an index. An object of 16 colours has the palette of its number. One of 256 colours has the whole palette, whatever its number
-- is; or, where DISPCNT bit 31 is set, the extended palette of its number
unfoldable pub object_colour : Banks → List ℕ → Display → Object → ℕ → ℕ
object_colour v palette display o index =
    if object_has_256 o
    then (if bit 31 display.control
    then extended_colour v (object_palette_space display.engine) (512 * palette_number o) index
    else palette_colour palette index)
    else palette_colour palette (16 * palette_number o + index)

-- the pixel of a point of the object
abbrev pub point_pixel : Banks → List ℕ → Display → Object → ℕ → ℕ → ℕ
point_pixel v palette display o x y = indexed_pixel (object_colour v palette display o) (object_index v display o x y)

-- or a transparent one where either coordinate lies outside
abbrev pub place_pixel : Banks → List ℕ → Display → Object → Option ℕ → Option ℕ → ℕ
place_pixel v palette display o None y = 0
place_pixel v palette display o (Some x) None = 0
place_pixel v palette display o (Some x) (Some y) = point_pixel v palette display o x y

-- the pixel at a place of an affine object's box
unfoldable pub turned_pixel : Banks → List ℕ → Display → Object → Turn → ℕ → ℕ → ℕ
turned_pixel v palette display o turn x y = place_pixel v palette display o (affine_across o turn x y) (affine_down o turn x y)

-- the pixel at a place of any other object's box
abbrev pub flat_pixel : Banks → List ℕ → Display → Object → ℕ → ℕ → ℕ
flat_pixel v palette display o x y =
    point_pixel v palette display o (mirrored (flips_across o) (width o) x) (mirrored (flips_down o) (height o) y)

-- the pixel at a place of an object's box
unfoldable pub box_pixel : Banks → List ℕ → List ℕ → Display → Object → ℕ → ℕ → ℕ
box_pixel v palette oam display o x y =
    if is_affine o then turned_pixel v palette display o (turn_at oam (group o)) x y else flat_pixel v palette display o x y

-- the pixel that an object has at place x of a line: transparent where its box isn't, or isn't drawn
unfoldable pub pixel_of : Banks → List ℕ → List ℕ → Display → ℕ → Object → ℕ → ℕ
pixel_of v palette oam display line o x =
    if is_drawn display.control o line && nat_lt (across o x) (box_width o) then box_pixel v palette oam display o (across o x) (down o line) else 0
