use Rattle.std.specs.Prelude.{ℕ, ◌≡◌, ◌<◌, ◌+◌, ◌-◌, ◌*◌, ◌/◌, ◌%◌, nat_lt, Bool, false, if◌then◌else◌, List, slice_index}
use Rattle.vram_banks.specs.Cells.{Banks}
use Rattle.vram_banks.specs.Colours.{indexed_pixel}
use Rattle.vram_banks.specs.Tiles.{flipped}
use Rattle.obj2d.specs.declared.layers.ObjectPixel.{ObjectPixel}
use Rattle.obj2d.specs.declared.objects.Display.{Display}
use Rattle.obj2d.specs.declared.objects.Object.{Object}
use Rattle.obj2d.specs.Attributes.{object_at, object_has_256, width, box_width, priority, mode, flips_across}
use Rattle.obj2d.specs.Places.{across, is_drawn}
use Rattle.obj2d.specs.ObjectLayer.{SeenObject, with_object}
use Rattle.obj2d.specs.ObjectPixels.{object_colour, point_pixel, tile_address, box_pixel}

-- How the code draws a row: an object's box has a strip of pixels, and strips are laid over one another. No public call speaks of it.

-- where the row of the object's tile begins that is tx tiles right, and shows line y of the object
abbrev pub object_tile_row : Display → Object → ℕ → ℕ → ℕ
object_tile_row display o y tx = tile_address display o tx (y / 8) + (if object_has_256 o then 8 else 4) * (y % 8)

-- how many colours an object's palette has
abbrev pub object_colours : Object → ℕ
object_colours o = if object_has_256 o then 256 else 16

-- a table has the pixels of an object's colours from one place on
abbrev pub IsColoured : Banks → List ℕ → Display → Object → List ℕ → ℕ → Type 0
IsColoured v palette display o table start =
    (index : ℕ) → index < object_colours o → slice_index table (start + index) ≡ indexed_pixel (object_colour v palette display o) index

-- which tile of so many stands at place k of a row, flipped or not
abbrev pub mirrored_tile : Bool → ℕ → ℕ → ℕ
mirrored_tile flip count k = if flip then count - 1 - k else k

-- the pixels of the first n tiles of line y of an object that isn't affine, eight each
abbrev pub AreObjectPixels : Banks → List ℕ → Display → Object → ℕ → List ℕ → ℕ → Type 0
AreObjectPixels v palette display o y pixels n =
    (k i : ℕ) → k < n → i < 8 →
    slice_index pixels (8 * k + i)
    ≡ point_pixel v palette display o (8 * mirrored_tile (flips_across o) (width o / 8) k + flipped (flips_across o) i) y

-- the pixels of line y of the box
abbrev pub AreBox : Banks → List ℕ → List ℕ → Display → Object → ℕ → List ℕ → Type 0
AreBox v palette oam display o y pixels = (x : ℕ) → x < box_width o → slice_index pixels x ≡ box_pixel v palette oam display o x y

-- what an object has at place x of the line, of whose strip the first n pixels count
abbrev pub strip_seen : Object → List ℕ → ℕ → ℕ → SeenObject
strip_seen o pixels n x =
    record { colour = if nat_lt (across o x) n then slice_index pixels (across o x) else 0; priority = priority o; mode = mode o }

-- a row with the first n pixels of a strip laid over it
abbrev pub IsLaid : Object → List ℕ → ℕ → (ℕ → ObjectPixel) → (ℕ → ObjectPixel) → Type 0
IsLaid o pixels n before after = (x : ℕ) → x < 256 → after x ≡ with_object (strip_seen o pixels n x) (before x)

-- none of the first n objects is drawn on a line
abbrev pub AreNotDrawn : List ℕ → ℕ → ℕ → ℕ → Type 0
AreNotDrawn oam control line n = (m : ℕ) → m < n → is_drawn control (object_at oam m) line ≡ false
