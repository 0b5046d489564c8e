use Rattle.bg2d.proofs.Words.{AffineLayer, Banks, List, Some, affine_pixel, affine_point_pixel, affine_size, bit, refl, true, ℕ, ◌≡◌}
use Rattle.vram_banks.specs.Points.{affine_coordinate, place_within}

-- A background that wraps.

-- its pixel is that of the point
pub wrapped_is_pixel : (v : Banks) (palette : List ℕ) (layer : AffineLayer) (x across down : ℕ) → bit 13 layer.control ≡ true →
    place_within true (affine_size layer) (affine_coordinate layer.x layer.pa x) ≡ Some across →
    place_within true (affine_size layer) (affine_coordinate layer.y layer.pc x) ≡ Some down →
    affine_point_pixel v palette layer across down ≡ affine_pixel v palette layer x
unfolding affine_pixel
wrapped_is_pixel v palette layer x across down on a d = rw (on, a, d) refl
