use Rattle.bg_ext.proofs.Words.{Banks, ExtLayer, HasForm, List, None, Option, Some, bit, byte_pixel, direct_pixel, ext_across, ext_pixel}
use Rattle.bg_ext.proofs.Words.{ext_place_pixel, ext_point_pixel, half_pixel, has_halves, is_bitmap, opaque_pixel, palette_colour, ℕ}
use Rattle.vram_banks.proofs.FormLemmas.{choice_form, zero_form, opaque_form, indexed_form}
use Rattle.bg_ext.specs.ExtendedPixels.{ext_entry, entry_colour, entry_pixel, ext_down}

-- A pixel has bit 15 set, or is 0.

direct_form : (half : ℕ) → HasForm (direct_pixel half)
direct_form half = choice_form (bit 15 half) (opaque_pixel half) 0 (opaque_form half) zero_form

half_form : (v : Banks) (layer : ExtLayer) (x y : ℕ) → HasForm (half_pixel v layer x y)
unfolding half_pixel
half_form v layer x y = direct_form _

byte_form : (v : Banks) (palette : List ℕ) (layer : ExtLayer) (x y : ℕ) → HasForm (byte_pixel v palette layer x y)
unfolding byte_pixel
byte_form v palette layer x y = indexed_form (palette_colour palette) _

entry_form : (v : Banks) (palette : List ℕ) (layer : ExtLayer) (entry x y : ℕ) → HasForm (entry_pixel v palette layer entry x y)
unfolding entry_pixel
entry_form v palette layer entry x y = indexed_form (entry_colour v palette layer entry) _

point_form : (v : Banks) (palette : List ℕ) (layer : ExtLayer) (x y : ℕ) → HasForm (ext_point_pixel v palette layer x y)
unfolding ext_point_pixel
point_form v palette layer x y =
    choice_form (is_bitmap layer) _ _
    (choice_form (has_halves layer) _ _ (half_form v layer x y) (byte_form v palette layer x y))
    (entry_form v palette layer (ext_entry v layer x y) x y)

place_form : (v : Banks) (palette : List ℕ) (layer : ExtLayer) (x y : Option ℕ) → HasForm (ext_place_pixel v palette layer x y)
place_form v palette layer None y = zero_form
place_form v palette layer (Some x) None = zero_form
place_form v palette layer (Some x) (Some y) = point_form v palette layer x y

pub ext_form : (v : Banks) (palette : List ℕ) (layer : ExtLayer) (x : ℕ) → HasForm (ext_pixel v palette layer x)
unfolding ext_pixel
ext_form v palette layer x = place_form v palette layer (ext_across layer x) (ext_down layer x)
