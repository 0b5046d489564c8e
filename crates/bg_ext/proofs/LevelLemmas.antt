use Rattle.bg_ext.proofs.Words.{Banks, ExtLayer, List, None, Option, Some, ap, bit, ext_across, ext_pixel, ext_place_pixel, refl, sym, ℕ, ◌∙◌, ◌≡◌}
use Rattle.std.specs.Prelude.{ℤ, pos, ◌+ℤ◌, ◌*ℤ◌}
use Rattle.std.specs.Int.{int_shr}
use Rattle.std.proofs.Math.IntN.{zero-*ℤ}
use Rattle.vram_banks.specs.Points.{affine_coordinate, place_within}
use Rattle.bg_ext.specs.ExtendedPixels.{ext_height, ext_down}

-- a coordinate that no step changes is one along the whole line
pub level_coordinate : (first step : ℤ) (x : ℕ) → step ≡ pos 0 → affine_coordinate first step x ≡ affine_coordinate first step 0
level_coordinate first step x e =
    let none : (i : ℕ) → step *ℤ pos i ≡ pos 0 = λ i. ap (λ (s : ℤ). s *ℤ pos i) e ∙ zero-*ℤ (pos i) in
    ap (λ (s : ℤ). int_shr (first +ℤ s) 8) (none x ∙ sym (none 0))

pub level_down : (layer : ExtLayer) (x : ℕ) → layer.pc ≡ pos 0 → ext_down layer x ≡ ext_down layer 0
level_down layer x e = ap (λ (c : ℤ). place_within (bit 13 layer.control) (ext_height layer) c) (level_coordinate layer.y layer.pc x e)

-- the line that is shown at the first place is shown at all
pub level_pixel : (v : Banks) (palette : List ℕ) (layer : ExtLayer) (x : ℕ) (down : Option ℕ) → layer.pc ≡ pos 0 → down ≡ ext_down layer 0 →
    ext_place_pixel v palette layer (ext_across layer x) down ≡ ext_pixel v palette layer x
unfolding ext_pixel
level_pixel v palette layer x down e first = ap (ext_place_pixel v palette layer (ext_across layer x)) (first ∙ sym (level_down layer x e))

-- or none is
pub level_clear : (v : Banks) (palette : List ℕ) (layer : ExtLayer) (across : Option ℕ) → 0 ≡ ext_place_pixel v palette layer across None
level_clear v palette layer None = refl
level_clear v palette layer (Some x) = refl
