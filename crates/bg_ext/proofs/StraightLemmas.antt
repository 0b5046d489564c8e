use Rattle.bg_ext.proofs.Words.{Banks, ExtLayer, Half, List, Option, Some, ap, arith, byte_pixel, direct_pixel, ext_across, ext_place_pixel}
use Rattle.bg_ext.proofs.Words.{ext_point_pixel, false, half_pixel, has_halves, indexed_pixel, is_bitmap, palette_colour, refl, sym, true, vram_byte}
use Rattle.bg_ext.proofs.Words.{vram_value, ℕ, ◌*◌, ◌+◌, ◌∙◌, ◌≡◌}
use Rattle.vram_banks.specs.Bases.{background_space}
use Rattle.bg_ext.specs.rows.Lines.{bytes_start, halves_start}

-- A part of a line that is shown as it lies.

half_point : (v : Banks) (palette : List ℕ) (layer : ExtLayer) (x y : ℕ) → is_bitmap layer ≡ true → has_halves layer ≡ true →
    direct_pixel (vram_value v (background_space layer.engine) (halves_start layer y + 2 * x) Half) ≡ ext_point_pixel v palette layer x y
unfolding ext_point_pixel half_pixel
half_point v palette layer x y bitmap halves = rw (bitmap, halves) refl

pub straight_half : (v : Banks) (palette : List ℕ) (layer : ExtLayer) (y first x at : ℕ) → is_bitmap layer ≡ true → has_halves layer ≡ true →
    ext_across layer x ≡ Some (first + x) → at ≡ halves_start layer y + 2 * first →
    direct_pixel (vram_value v (background_space layer.engine) (at + 2 * x) Half) ≡ ext_place_pixel v palette layer (ext_across layer x) (Some y)
straight_half v palette layer y first x at bitmap halves across e =
    let here : at + 2 * x ≡ halves_start layer y + 2 * (first + x) = omega (arith, e) in
    ap (λ (a : ℕ). direct_pixel (vram_value v (background_space layer.engine) a Half)) here
    ∙ half_point v palette layer (first + x) y bitmap halves
    ∙ sym (ap (λ (o : Option ℕ). ext_place_pixel v palette layer o (Some y)) across)

byte_point : (v : Banks) (palette : List ℕ) (layer : ExtLayer) (x y : ℕ) → is_bitmap layer ≡ true → has_halves layer ≡ false →
    indexed_pixel (palette_colour palette) (vram_byte v (background_space layer.engine) (bytes_start layer y + x)) ≡ ext_point_pixel v palette layer x y
unfolding ext_point_pixel byte_pixel
byte_point v palette layer x y bitmap bytes = rw (bitmap, bytes) refl

pub straight_byte : (v : Banks) (palette : List ℕ) (layer : ExtLayer) (y first x at : ℕ) → is_bitmap layer ≡ true → has_halves layer ≡ false →
    ext_across layer x ≡ Some (first + x) → at ≡ bytes_start layer y + first →
    indexed_pixel (palette_colour palette) (vram_byte v (background_space layer.engine) (at + x)) ≡ ext_place_pixel v palette layer (ext_across layer x) (Some y)
straight_byte v palette layer y first x at bitmap bytes across e =
    let here : at + x ≡ bytes_start layer y + (first + x) = omega (arith, e) in
    ap (λ (a : ℕ). indexed_pixel (palette_colour palette) (vram_byte v (background_space layer.engine) a)) here
    ∙ byte_point v palette layer (first + x) y bitmap bytes
    ∙ sym (ap (λ (o : Option ℕ). ext_place_pixel v palette layer o (Some y)) across)
