use Rattle.std.specs.Prelude.{ℕ, zero, suc, true, false, ◌==◌, ◌||◌, nat_lt, if◌then◌else◌, List}
use Rattle.vram_banks.specs.Cells.{Banks}
use Rattle.obj2d.specs.declared.objects.Display.{Display}
use Rattle.obj2d.specs.declared.layers.ObjectPixel.{ObjectPixel}
use Rattle.obj2d.specs.Attributes.{object_at, mode, priority}
use Rattle.obj2d.specs.ObjectPixels.{pixel_of}

-- The pixel of all objects together (GBATEK, "LCD OBJ - OAM Attributes", "LCD I/O Window Feature").

-- what an object has at a place: its pixel, which is 0 where it is transparent, its priority and its mode
pub record SeenObject : Type 0 where
  pub colour : ℕ
  pub priority : ℕ
  pub mode : ℕ

abbrev pub blank_pixel : ObjectPixel
blank_pixel = record { colour = 0; priority = 0; blended = false; window = false }

-- the pixel with one more object, of a number above those of all before: it is shown where none was, or one of a higher number of priority
abbrev pub with_object : SeenObject → ObjectPixel → ObjectPixel
with_object s p =
    if s.colour == 0 then p
    else (if s.mode == 2 then record p { window = true }
    else (if p.colour == 0 || nat_lt s.priority p.priority
    then record p { colour = s.colour; priority = s.priority; blended = s.mode == 1 } else p))

unfoldable pub pixel_below : (ℕ → SeenObject) → ℕ → ObjectPixel
pixel_below seen zero = blank_pixel
pixel_below seen (suc n) = with_object (seen n) (pixel_below seen n)

-- what the object of a number has at place x of a line
unfoldable pub seen_at : Banks → List ℕ → List ℕ → Display → ℕ → ℕ → ℕ → SeenObject
seen_at v palette oam display line x n =
    let o = object_at oam n in record { colour = pixel_of v palette oam display line o x; priority = priority o; mode = mode o }

-- the pixel of all 128 objects at place x of a line
abbrev pub object_pixel : Banks → List ℕ → List ℕ → Display → ℕ → ℕ → ObjectPixel
object_pixel v palette oam display line x = pixel_below (seen_at v palette oam display line x) 128
