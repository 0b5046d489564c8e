use Rattle.video2d.proofs.Words.{Engine, EngineState, List, None, Option, Some, Stop, ap, arith, bit, bit_or, bits, cases_eq, dispcnt, false, inl}
use Rattle.video2d.proofs.Words.{inr, map, range_with_len, refl, subst, suc, sym, zero, ℕ, ◌*◌, ◌+◌, ◌-◌, ◌<◌, ◌==◌, ◌||◌, ◌∙◌, ◌∷◌, ◌≡◌, ◌≢◌, ◌≤◌}
use Rattle.video2d.specs.Stops.{first_need, needs_of_object, needs_of_objects}
use Rattle.video2d.specs.rows.Needs.{AreAmong, IsAmong, NeedNothing}
use Rattle.std.proofs.lemmas.Nat.Bits.{bit_at_or}
use Rattle.std.specs.Int.{bit_at}
use Rattle.obj2d.specs.Attributes.{mode, object_at, object_has_mosaic}

-- The first need of numbers, one after another.

one_more : (f : ℕ → Option Stop) (n more : ℕ) → map f (range_with_len n (suc more)) ≡ f n ∷ map f (range_with_len (n + 1) more)
one_more f n more = (let e : n + 1 ≡ suc n = omega arith in rw e refl)

first_of : (o : Option Stop) (needs : List (Option Stop)) → o ≡ None → first_need (o ∷ needs) ≡ first_need needs
first_of o needs h = rw h refl

first_is : (o : Option Stop) (needs : List (Option Stop)) (stop : Stop) → o ≡ Some stop → first_need (o ∷ needs) ≡ Some stop
first_is o needs stop h = rw h refl

left : (n count : ℕ) → n < count → count - n ≡ suc (count - (n + 1))
left n count h = omega (arith, h)

-- where a number needs nothing, those after it decide
pub needs_later : (f : ℕ → Option Stop) (n count : ℕ) → n < count → f n ≡ None →
    first_need (map f (range_with_len (n + 1) (count - (n + 1)))) ≡ first_need (map f (range_with_len n (count - n)))
needs_later f n count lt h =
    sym (ap (λ (k : ℕ). first_need (map f (range_with_len n k))) (left n count lt)
    ∙ ap (λ (l : List (Option Stop)). first_need l) (one_more f n (count - (n + 1)))
    ∙ first_of (f n) (map f (range_with_len (n + 1) (count - (n + 1)))) h)

-- where it needs something, that counts
pub needs_here : (f : ℕ → Option Stop) (n count : ℕ) (stop : Stop) → n < count → f n ≡ Some stop →
    first_need (map f (range_with_len n (count - n))) ≡ Some stop
needs_here f n count stop lt h =
    ap (λ (k : ℕ). first_need (map f (range_with_len n k))) (left n count lt)
    ∙ ap (λ (l : List (Option Stop)). first_need l) (one_more f n (count - (n + 1)))
    ∙ first_is (f n) (map f (range_with_len (n + 1) (count - (n + 1)))) stop h

-- where no number is left, nothing is needed
pub needs_none : (f : ℕ → Option Stop) (n count : ℕ) → count ≤ n → first_need (map f (range_with_len n (count - n))) ≡ None
needs_none f n count le = (let e : count - n ≡ 0 = omega (arith, le) in rw e refl)

-- ---- by the bits of all objects together

in_front : (a r : ℕ) → IsAmong a (a + 65536 * r)
in_front a r = record { low = omega arith; high = omega arith; mosaic = omega arith }

-- attribute 0 is the lowest half of an object's bytes
pub entry_bits : (b0 b1 b2 b3 b4 b5 b6 b7 word : ℕ) →
    word ≡ b0 + b1 * 256 + b2 * 65536 + b3 * 16777216 + b4 * 4294967296 + b5 * 1099511627776 + b6 * 281474976710656 + b7 * 72057594037927936 →
    IsAmong (b0 + 256 * b1) word
entry_bits b0 b1 b2 b3 b4 b5 b6 b7 word h =
    let r : ℕ = b2 + 256 * b3 + 65536 * b4 + 16777216 * b5 + 4294967296 * b6 + 1099511627776 * b7 in
    let e : (b0 + 256 * b1) + 65536 * r ≡ word = omega (arith, h) in
    subst (IsAmong (b0 + 256 * b1)) e (in_front (b0 + 256 * b1) r)

old_bit : (all word b k : ℕ) → bit_at b k ≤ bit_at all k → bit_at b k ≤ bit_at (bit_or all word) k
old_bit all word b k h = omega (arith, h, bit_at_or all word k)

new_bit : (all word b k : ℕ) → bit_at b k ≤ bit_at word k → bit_at b k ≤ bit_at (bit_or all word) k
new_bit all word b k h = omega (arith, h, bit_at_or all word k)

among_old : (all word b : ℕ) → IsAmong b all → IsAmong b (bit_or all word)
among_old all word b h = record { low = old_bit all word b 10 h.low; high = old_bit all word b 11 h.high; mosaic = old_bit all word b 12 h.mosaic }

among_new : (all word b : ℕ) → IsAmong b word → IsAmong b (bit_or all word)
among_new all word b h = record { low = new_bit all word b 10 h.low; high = new_bit all word b 11 h.high; mosaic = new_bit all word b 12 h.mosaic }

pub bits_more : (oam : List ℕ) (count all word : ℕ) → AreAmong oam count all → IsAmong (object_at oam count).attribute0 word →
    AreAmong oam (count + 1) (bit_or all word)
bits_more oam count all word h fresh n lt = elim (cases_eq n count) [
  | inl same ↦
      (let P : ℕ → Type 0 = λ m. IsAmong (object_at oam m).attribute0 (bit_or all word) in
      subst P (sym same) (among_new all word (object_at oam count).attribute0 fresh))
  | inr other ↦ among_old all word (object_at oam n).attribute0 (h n (omega (arith, lt, other)))
]

no_bitmap : (a all : ℕ) → IsAmong a all → bits 10 2 all ≢ 3 → bits 10 2 a ≢ 3
no_bitmap a all h none e =
    let low = h.low in
    let high = h.high in
    none (omega (arith, low, high, e))

no_mosaic : (a all : ℕ) → bit_at a 12 ≤ bit_at all 12 → bit_at all 12 ≢ 1 → (bit_at a 12 == 1) ≡ false
no_mosaic a all h none = grind (arith, h, none)

neither : (p q : ℕ) → ((p == 3) || (q == 1)) ≡ false → (p ≢ 3) × (q ≢ 1)
neither p q h = (λ e. grind (arith, h, e), λ e. grind (arith, h, e))

-- where neither mode 3 nor mosaic is among them, no object needs anything
pub none_needs : (oam : List ℕ) (all : ℕ) → AreAmong oam 128 all → ((bits 10 2 all == 3) || (bit_at all 12 == 1)) ≡ false → NeedNothing oam
none_needs oam all h e n lt =
    let a = (object_at oam n).attribute0 in
    let none = neither (bits 10 2 all) (bit_at all 12) e in
    (no_bitmap a all (h n lt) none.0, no_mosaic a all (h n lt).mosaic none.1)

no_need : (which : Engine) (e : EngineState) (oam : List ℕ) (line n : ℕ) → mode (object_at oam n) ≢ 3 → object_has_mosaic (object_at oam n) ≡ false →
    needs_of_object which e oam line n ≡ None
no_need which e oam line n h k = grind (arith, h, k)

-- nor where objects are off
off_needs : (which : Engine) (e : EngineState) (oam : List ℕ) (line n : ℕ) → bit 12 (dispcnt e) ≡ false → needs_of_object which e oam line n ≡ None
off_needs which e oam line n h = rw h refl

none_of : (f : ℕ → Option Stop) (n count : ℕ) → ((k : ℕ) → k < n + count → f k ≡ None) → first_need (map f (range_with_len n count)) ≡ None
none_of f n zero h = refl
none_of f n (suc count) h =
    ap (λ (l : List (Option Stop)). first_need l) (one_more f n count)
    ∙ first_of (f n) (map f (range_with_len (n + 1) count)) (h n (omega arith))
    ∙ none_of f (n + 1) count (λ k lt. h k (omega (arith, lt)))

pub nothing_needed : (which : Engine) (e : EngineState) (oam : List ℕ) (line : ℕ) → NeedNothing oam → needs_of_objects which e oam line ≡ None
unfolding needs_of_objects
nothing_needed which e oam line h =
    none_of (needs_of_object which e oam line) 0 128 (λ n lt. no_need which e oam line n (h n lt).0 (h n lt).1)

pub nothing_needed_off : (which : Engine) (e : EngineState) (oam : List ℕ) (line : ℕ) → bit 12 (dispcnt e) ≡ false → needs_of_objects which e oam line ≡ None
unfolding needs_of_objects
nothing_needed_off which e oam line h =
    none_of (needs_of_object which e oam line) 0 128 (λ n lt. off_needs which e oam line n h)
