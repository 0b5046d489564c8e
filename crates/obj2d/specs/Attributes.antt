use Rattle.std.specs.Prelude.{ℕ, Bool, ◌+◌, ◌*◌, ◌&&◌, not, if◌then◌else◌, ℤ, List, [], ◌∷◌, slice_index}
use Rattle.std.specs.Int.{cast_signed, w16}
use Rattle.ds_base.specs.Bits.{bits, bit}
use Rattle.ds_base.specs.Numbers.{number_at}
use Rattle.ds_base.specs.declared.memories.Width.TheVariants.{Half}
use Rattle.obj2d.specs.declared.objects.Object.{Object}
use Rattle.obj2d.specs.declared.objects.Turn.{Turn}

-- An object's attributes (GBATEK, "LCD OBJ - OAM Attributes").

-- an object has eight bytes, of which the first three halves are its attributes
abbrev pub object_at : List ℕ → ℕ → Object
object_at oam n = record {
  attribute0 = number_at Half oam (8 * n);
  attribute1 = number_at Half oam (8 * n + 2);
  attribute2 = number_at Half oam (8 * n + 4);
}

-- attribute 0: Y in bits 0 to 7, affine in bit 8; bit 9 means double size for an affine object and off for any other; the mode in bits 10
-- and 11, mosaic in bit 12, 256 colours in bit 13, the shape in bits 14 and 15
abbrev pub top_edge : Object → ℕ
top_edge o = bits 0 8 o.attribute0

abbrev pub is_affine : Object → Bool
is_affine o = bit 8 o.attribute0

abbrev pub is_double : Object → Bool
is_double o = is_affine o && bit 9 o.attribute0

abbrev pub is_off : Object → Bool
is_off o = not (is_affine o) && bit 9 o.attribute0

-- 0 normal, 1 semi-transparent, 2 object window, 3 bitmap
abbrev pub mode : Object → ℕ
mode o = bits 10 2 o.attribute0

abbrev pub object_has_mosaic : Object → Bool
object_has_mosaic o = bit 12 o.attribute0

abbrev pub object_has_256 : Object → Bool
object_has_256 o = bit 13 o.attribute0

abbrev pub shape : Object → ℕ
shape o = bits 14 2 o.attribute0

-- attribute 1: X in bits 0 to 8, the group of an affine object in bits 9 to 13, the flips of any other in bits 12 (across) and 13 (down),
-- the size in bits 14 and 15
abbrev pub left_edge : Object → ℕ
left_edge o = bits 0 9 o.attribute1

abbrev pub group : Object → ℕ
group o = bits 9 5 o.attribute1

abbrev pub flips_across : Object → Bool
flips_across o = bit 12 o.attribute1

abbrev pub flips_down : Object → Bool
flips_down o = bit 13 o.attribute1

abbrev pub object_size : Object → ℕ
object_size o = bits 14 2 o.attribute1

-- attribute 2: the tile in bits 0 to 9, the priority in bits 10 and 11, the palette in bits 12 to 15
abbrev pub tile : Object → ℕ
tile o = bits 0 10 o.attribute2

abbrev pub priority : Object → ℕ
priority o = bits 10 2 o.attribute2

abbrev pub palette_number : Object → ℕ
palette_number o = bits 12 4 o.attribute2

-- widths and heights in pixels, four sizes for each shape: square, wide, tall. Shape 3 is prohibited, and 8 by 8 for each size (our choice)
abbrev pub widths : List ℕ
widths = 8 ∷ 16 ∷ 32 ∷ 64 ∷ 16 ∷ 32 ∷ 32 ∷ 64 ∷ 8 ∷ 8 ∷ 16 ∷ 32 ∷ 8 ∷ 8 ∷ 8 ∷ 8 ∷ []

abbrev pub heights : List ℕ
heights = 8 ∷ 16 ∷ 32 ∷ 64 ∷ 8 ∷ 8 ∷ 16 ∷ 32 ∷ 16 ∷ 32 ∷ 32 ∷ 64 ∷ 8 ∷ 8 ∷ 8 ∷ 8 ∷ []

abbrev pub width : Object → ℕ
width o = slice_index widths (4 * shape o + object_size o)

abbrev pub height : Object → ℕ
height o = slice_index heights (4 * shape o + object_size o)

-- the shown box is the object's size, and twice that both ways for an affine object of double size
abbrev pub box_width : Object → ℕ
box_width o = if is_double o then 2 * width o else width o

abbrev pub box_height : Object → ℕ
box_height o = if is_double o then 2 * height o else height o

-- the four numbers of a group, PA, PB, PC and PD, stand in the last halves of four objects; they are signed and have 8 fractional bits
-- (GBATEK, "LCD OBJ - OAM Rotation/Scaling Parameters")
abbrev pub group_number : List ℕ → ℕ → ℕ → ℤ
group_number oam g k = cast_signed w16 (number_at Half oam (32 * g + 8 * k + 6))

abbrev pub turn_at : List ℕ → ℕ → Turn
turn_at oam g = record { pa = group_number oam g 0; pb = group_number oam g 1; pc = group_number oam g 2; pd = group_number oam g 3 }
