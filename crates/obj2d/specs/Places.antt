use Rattle.std.specs.Prelude.{ℕ, Bool, ◌+◌, ◌-◌, ◌/◌, ◌%◌, ◌==◌, ◌&&◌, ◌≡◌, ◌<◌, true, not, nat_lt, if◌then◌else◌, List, ℤ, pos, negsuc, ◌+ℤ◌, ◌-ℤ◌, ◌*ℤ◌, Option, Some, None}
use Rattle.std.specs.Int.{int_shr}
use Rattle.ds_base.specs.Bits.{bit}
use Rattle.obj2d.specs.declared.objects.Object.{Object}
use Rattle.obj2d.specs.declared.objects.Turn.{Turn}
use Rattle.obj2d.specs.Attributes.{object_at, top_edge, left_edge, is_off, mode, width, height, box_width, box_height}

-- Which places of the screen an object's box covers, and which point of the object is shown at a place of its box (GBATEK, "LCD OBJ - OAM
-- Attributes", "LCD OBJ - OAM Rotation/Scaling Parameters").

-- how far a place of a line is from the left edge of the box. X is signed, of nine bits, so places are counted modulo 512
abbrev pub across : Object → ℕ → ℕ
across o x = (x + 512 - left_edge o) % 512

-- how far a line is from the top of the box. Lines are counted modulo 256
abbrev pub down : Object → ℕ → ℕ
down o line = (line + 256 - top_edge o) % 256

-- A box covers the lines from its top edge on, as many as it is high, whatever the object's mode is; that of an object which is off covers
-- none, and without bit 12 of the engine's DISPCNT none does
abbrev pub covers : ℕ → Object → ℕ → Bool
covers control o line = bit 12 control && (not (is_off o) && nat_lt (down o line) (box_height o))

-- an object of mode 3, a bitmap, isn't drawn on the lines that it covers (our choice)
abbrev pub is_drawn : ℕ → Object → ℕ → Bool
is_drawn control o line = not (mode o == 3) && covers control o line

-- some object of the 128 is drawn on a line
abbrev pub IsSomeDrawn : List ℕ → ℕ → ℕ → Type 0
IsSomeDrawn oam control line = (n : ℕ) × (n < 128) × (is_drawn control (object_at oam n) line ≡ true)

-- a place in a row or column of so many pixels, flipped or not
abbrev pub mirrored : Bool → ℕ → ℕ → ℕ
mirrored flip count place = if flip then count - 1 - place else place

-- the distance of a place of the box from its middle
abbrev pub from_middle : ℕ → ℕ → ℤ
from_middle box place = pos place -ℤ pos (box / 2)

-- a coordinate of an affine object's point: (a dx + b dy) with 8 fractional bits, which are cut off downwards, from the object's middle. The sum
-- is exact
abbrev pub box_coordinate : ℤ → ℤ → ℤ → ℤ → ℕ → ℤ
box_coordinate a b dx dy count = int_shr ((a *ℤ dx) +ℤ (b *ℤ dy)) 8 +ℤ pos (count / 2)

-- a place in the object, or none where a coordinate lies outside
abbrev pub inside : ℕ → ℤ → Option ℕ
inside count (pos n) = if nat_lt n count then Some n else None
inside count (negsuc n) = None

-- the point of an affine object at a place of its box
abbrev pub affine_across : Object → Turn → ℕ → ℕ → Option ℕ
affine_across o turn x y =
    inside (width o) (box_coordinate turn.pa turn.pb (from_middle (box_width o) x) (from_middle (box_height o) y) (width o))

abbrev pub affine_down : Object → Turn → ℕ → ℕ → Option ℕ
affine_down o turn x y =
    inside (height o) (box_coordinate turn.pc turn.pd (from_middle (box_width o) x) (from_middle (box_height o) y) (height o))
