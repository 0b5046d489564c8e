use Rattle.bg2d.proofs.Words.{AffineLayer, Banks, HasForm, List, None, Option, Some, TextLayer, affine_pixel, affine_place_pixel, affine_point_pixel}
use Rattle.bg2d.proofs.Words.{palette_colour, ℕ, ◌%◌, ◌+◌}
use Rattle.vram_banks.proofs.FormLemmas.{zero_form, indexed_form}
use Rattle.bg2d.specs.TextPixels.{text_width, text_height, text_entry, text_colour, text_pixel}

-- A pixel has bit 15 set, or is 0.

pub text_form : (v : Banks) (palette : List ℕ) (layer : TextLayer) (line x : ℕ) → HasForm (text_pixel v palette layer line x)
unfolding text_pixel
text_form v palette layer line x =
    indexed_form (text_colour v palette layer (text_entry v layer ((x + layer.across) % text_width layer) ((line + layer.down) % text_height layer))) _

point_form : (v : Banks) (palette : List ℕ) (layer : AffineLayer) (x y : ℕ) → HasForm (affine_point_pixel v palette layer x y)
unfolding affine_point_pixel
point_form v palette layer x y = indexed_form (palette_colour palette) _

place_form : (v : Banks) (palette : List ℕ) (layer : AffineLayer) (x y : Option ℕ) → HasForm (affine_place_pixel v palette layer x y)
place_form v palette layer None y = zero_form
place_form v palette layer (Some x) None = zero_form
place_form v palette layer (Some x) (Some y) = point_form v palette layer x y

pub affine_form : (v : Banks) (palette : List ℕ) (layer : AffineLayer) (x : ℕ) → HasForm (affine_pixel v palette layer x)
unfolding affine_pixel
affine_form v palette layer x = place_form v palette layer _ _
