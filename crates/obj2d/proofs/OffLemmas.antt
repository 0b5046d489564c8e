use Rattle.obj2d.proofs.Words.{AreNotDrawn, Banks, Bool, Display, List, Object, ObjectPixel, SeenObject, ap, arith, blank_pixel, box_height, down}
use Rattle.obj2d.proofs.Words.{false, inl, inr, is_drawn, is_off, mode, nat_lt, not, object_at, object_pixel, pixel_below, refl, seen_at, subst, suc}
use Rattle.obj2d.proofs.Words.{sym, true, with_object, zero, ℕ, ◌&&◌, ◌+◌, ◌<◌, ◌==◌, ◌∙◌, ◌≡◌, ◌≤◌}
use Rattle.std.proofs.lemmas.Bool.{cases_eq}
use Rattle.ds_base.specs.Bits.{bit}
use Rattle.ds_base.proofs.Choices.{and_false}
use Rattle.obj2d.proofs.FormLemmas.{seen_small}
use Rattle.obj2d.proofs.StripLemmas.{nothing_seen}

-- Where the engine shows no objects, no pixel has any.

pub none_drawn : (control : ℕ) (o : Object) (line : ℕ) → bit 12 control ≡ false → is_drawn control o line ≡ false
none_drawn control o line h =
    ap (λ (b : Bool). not (mode o == 3) && (b && (not (is_off o) && nat_lt (down o line) (box_height o)))) h
    ∙ and_false (not (mode o == 3))

none_below : (seen : ℕ → SeenObject) (n : ℕ) → ((k : ℕ) → k < n → (p : ObjectPixel) → with_object (seen k) p ≡ p) → pixel_below seen n ≡ blank_pixel
unfolding pixel_below
none_below seen zero h = refl
none_below seen (suc n) h = h n (omega arith) (pixel_below seen n) ∙ none_below seen n (λ k lt. h k (omega (arith, lt)))

-- nor below a number where none before it is drawn
pub none_before : (v : Banks) (palette oam : List ℕ) (display : Display) (line x n : ℕ) → AreNotDrawn oam display.control line n →
    pixel_below (seen_at v palette oam display line x) n ≡ blank_pixel
none_before v palette oam display line x n h =
    none_below (seen_at v palette oam display line x) n (λ k lt p. nothing_seen v palette oam display line k x p (h k lt))

pub no_object : (v : Banks) (palette oam : List ℕ) (display : Display) (line x : ℕ) → x < 256 → bit 12 display.control ≡ false →
    object_pixel v palette oam display line x ≡ blank_pixel
no_object v palette oam display line x small h =
    none_before v palette oam display line x 128 (λ n _. none_drawn display.control (object_at oam n) line h)

-- a pixel's priority is that of an object, or 0

one_small : (s : SeenObject) (p : ObjectPixel) → s.priority < 4 → p.priority < 4 → (with_object s p).priority < 4
one_small s p a b = grind (arith, a, b)

all_small : (seen : ℕ → SeenObject) (n : ℕ) → ((k : ℕ) → (seen k).priority < 4) → (pixel_below seen n).priority < 4
unfolding pixel_below
all_small seen zero h = omega arith
all_small seen (suc n) h = one_small (seen n) (pixel_below seen n) (h n) (all_small seen n h)

pub object_small : (v : Banks) (palette oam : List ℕ) (display : Display) (line x : ℕ) → (object_pixel v palette oam display line x).priority < 4
object_small v palette oam display line x = all_small (seen_at v palette oam display line x) 128 (seen_small v palette oam display line x)

pub off_not_drawn : (control : ℕ) (o : Object) (line : ℕ) → is_off o ≡ true → is_drawn control o line ≡ false
off_not_drawn control o line off =
    ap (λ (b : Bool). not (mode o == 3) && (bit 12 control && (not b && nat_lt (down o line) (box_height o)))) off
    ∙ ap (λ (b : Bool). not (mode o == 3) && b) (and_false (bit 12 control))
    ∙ and_false (not (mode o == 3))

-- where four objects are off, none of them is drawn
pub four_off : (oam : List ℕ) (control line n : ℕ) → is_off (object_at oam n) ≡ true → is_off (object_at oam (n + 1)) ≡ true →
    is_off (object_at oam (n + 2)) ≡ true → is_off (object_at oam (n + 3)) ≡ true →
    (m : ℕ) → n ≤ m → m < n + 4 → is_drawn control (object_at oam m) line ≡ false
four_off oam control line n h0 h1 h2 h3 m from to =
    let P : ℕ → Type 0 = λ k. is_drawn control (object_at oam k) line ≡ false in
    elim (cases_eq m n) [
      | inl e ↦ subst P (sym e) (off_not_drawn control (object_at oam n) line h0)
      | inr a ↦
          elim (cases_eq m (n + 1)) [
            | inl e ↦ subst P (sym e) (off_not_drawn control (object_at oam (n + 1)) line h1)
            | inr b ↦
                elim (cases_eq m (n + 2)) [
                  | inl e ↦ subst P (sym e) (off_not_drawn control (object_at oam (n + 2)) line h2)
                  | inr c ↦
                      (let e : m ≡ n + 3 = omega (arith, from, to) in
                      subst P (sym e) (off_not_drawn control (object_at oam (n + 3)) line h3))
                ]
          ]
    ]
