use Rattle.obj2d.proofs.Words.{Banks, Display, IsLayerPixel, IsPixel, List, None, Object, ObjectPixel, Option, SeenObject, Some, across}
use Rattle.obj2d.proofs.Words.{affine_across, affine_down, arith, box_width, down, flips_across, flips_down, group, height, inl, inr, is_affine}
use Rattle.obj2d.proofs.Words.{is_drawn, mirrored, nat_lt, object_at, seen_at, sym, turn_at, width, ℕ, ◌&&◌, ◌<◌, ◌^◌, ◌∙◌, ◌≡◌, ◌≢◌, ◌≤◌}
use Rattle.vram_banks.specs.Colours.{HasForm}
use Rattle.vram_banks.proofs.FormLemmas.{choice_form, zero_form, indexed_form}
use Rattle.obj2d.specs.ObjectPixels.{object_index, object_colour, place_pixel, turned_pixel, flat_pixel, box_pixel, pixel_of}

-- A pixel has bit 15 set, or is 0.

place_form : (v : Banks) (palette : List ℕ) (display : Display) (o : Object) (x y : Option ℕ) → HasForm (place_pixel v palette display o x y)
place_form v palette display o None y = zero_form
place_form v palette display o (Some x) None = zero_form
place_form v palette display o (Some x) (Some y) = indexed_form (object_colour v palette display o) (object_index v display o x y)

box_form : (v : Banks) (palette oam : List ℕ) (display : Display) (o : Object) (x y : ℕ) → HasForm (box_pixel v palette oam display o x y)
unfolding box_pixel turned_pixel
box_form v palette oam display o x y =
    choice_form (is_affine o) (turned_pixel v palette display o (turn_at oam (group o)) x y) (flat_pixel v palette display o x y)
    (place_form v palette display o (affine_across o (turn_at oam (group o)) x y) (affine_down o (turn_at oam (group o)) x y))
    (indexed_form (object_colour v palette display o) (object_index v display o (mirrored (flips_across o) (width o) x) (mirrored (flips_down o) (height o) y)))

pub seen_form : (v : Banks) (palette oam : List ℕ) (display : Display) (line x n : ℕ) → (seen_at v palette oam display line x n).colour ≢ 0 →
    2 ^ 15 ≤ (seen_at v palette oam display line x n).colour
unfolding seen_at pixel_of
seen_form v palette oam display line x n =
    let o : Object = object_at oam n in
    choice_form (is_drawn display.control o line && nat_lt (across o x) (box_width o)) (box_pixel v palette oam display o (across o x) (down o line)) 0
    (box_form v palette oam display o (across o x) (down o line)) zero_form

pub seen_small : (v : Banks) (palette oam : List ℕ) (display : Display) (line x n : ℕ) → (seen_at v palette oam display line x n).priority < 4
unfolding seen_at
seen_small v palette oam display line x n = omega arith

pub layer_form : (seen : ℕ → SeenObject) (count : ℕ) (p : ObjectPixel) → ((n : ℕ) → (seen n).colour ≢ 0 → 2 ^ 15 ≤ (seen n).colour) →
    ((n : ℕ) → (seen n).priority < 4) → IsLayerPixel seen count p → IsPixel p
layer_form seen count p forms smalls h = elim h.top [
  | inl t ↦
      (let same : p.colour ≡ (seen t.0).colour = t.2.colour in
      let there : 2 ^ 15 ≤ (seen t.0).colour = forms t.0 t.1.opaque in
      let rank : p.priority ≡ (seen t.0).priority = t.2.priority in
      let below : (seen t.0).priority < 4 = smalls t.0 in
      record {
        opaque = λ full. omega (arith, same, there);
        transparent = λ empty. absurd (t.1.opaque (sym same ∙ empty));
        small = omega (arith, rank, below);
      })
  | inr e ↦
      (let rank : p.priority ≡ 0 = e.1.priority in
      record {
        opaque = λ full. absurd (full e.1.colour);
        transparent = λ empty. (e.1.priority, e.1.blended);
        small = omega (arith, rank);
      })
]
