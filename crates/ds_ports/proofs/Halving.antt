use Rattle.ds_ports.proofs.Words.{Byte, GoesByHalves, Half, IfSome, IoState, IsWidth, None, Option, Proc, Slot, Some, StandsWhole, Stop, Tick, Width}
use Rattle.ds_ports.proofs.Words.{Word, ap, arith, ascending, begun_refusal, begun_value, begun_written, first_refusal, half_refusal, half_written}
use Rattle.ds_ports.proofs.Words.{halved_refusal, halved_value, halved_written, inl, inr, nat_le, none-some, option_or, port_half, port_refusal}
use Rattle.ds_ports.proofs.Words.{port_value, port_word, port_written, read_or, refl, refusal_or, same_Some, slot_of, subst, sym, true, values_from}
use Rattle.ds_ports.proofs.Words.{whole_in, width_bytes, word_refusal, word_written, written_or, ℕ, ◌%◌, ◌*◌, ◌+◌, ◌-◌, ◌/◌, ◌<◌, ◌^◌, ◌∙◌, ◌≡◌, ◌≤◌}
use Rattle.ds_ports.proofs.Words.{◌⊎◌}
use Rattle.std.proofs.Math.Nat.{div-div-eq-div-mul}
use Rattle.ds_ports.proofs.Together.{stands_whole}

-- An access at a multiple of its width goes by halves where it lies in no one register.

-- the register of which a byte stands at an offset, if one does, is narrower than a word
abbrev IsNarrow : Option Slot → Type 0
IsNarrow slot = IfSome slot (λ s. s.bytes < 4)

-- which of its bytes stands at an even offset
at_even : (proc : Proc) (at : ℕ) (s : Slot) → at % 2 ≡ 0 → StandsWhole proc at s → s.bytes < 4 → (s.byte ≡ 0) × ((s.bytes ≡ 1) ⊎ (s.bytes ≡ 2))
at_even proc at s even w narrow = by_width w.bytes where
  by_width : IsWidth s.bytes → (s.byte ≡ 0) × ((s.bytes ≡ 1) ⊎ (s.bytes ≡ 2))
  by_width (inl e) = ((let l = w.byte in omega (arith, l, e)), inl e)
  by_width (inr (inl e)) =
      let m : (at - s.byte) % 2 ≡ 0 = subst (λ (n : ℕ). (at - s.byte) % n ≡ 0) e w.multiple in
      let l = w.byte in
      let f = w.first in
      (omega (arith, m, l, f, e, even), inr e)
  by_width (inr (inr e)) = absurd (omega (arith, e, narrow))

-- and at the odd one after it
after_even : (proc : Proc) (at : ℕ) (t : Slot) → at % 2 ≡ 0 → StandsWhole proc (at + 1) t → t.bytes < 4
    → ((t.byte ≡ 0) × (t.bytes ≡ 1)) ⊎ ((t.byte ≡ 1) × (t.bytes ≡ 2))
after_even proc at t even w narrow = by_width w.bytes where
  by_width : IsWidth t.bytes → ((t.byte ≡ 0) × (t.bytes ≡ 1)) ⊎ ((t.byte ≡ 1) × (t.bytes ≡ 2))
  by_width (inl e) = inl ((let l = w.byte in omega (arith, l, e)), e)
  by_width (inr (inl e)) =
      let m : (at + 1 - t.byte) % 2 ≡ 0 = subst (λ (n : ℕ). (at + 1 - t.byte) % n ≡ 0) e w.multiple in
      let l = w.byte in
      let f = w.first in
      inr (omega (arith, m, l, f, e, even), e)
  by_width (inr (inr e)) = absurd (omega (arith, e, narrow))

-- the first byte of a register whose second stands after an even offset, and the second of one whose first stands there
first_there : (proc : Proc) (at : ℕ) (t : Slot) → StandsWhole proc (at + 1) t → t.byte ≡ 1 → slot_of proc at ≡ Some (record t { byte = 0 })
first_there proc at t w e =
    let some : 0 < t.bytes = (let l = w.byte in omega (arith, l)) in
    let i : at ≡ at + 1 - t.byte + 0 = omega (arith, e) in
    ap (λ (k : ℕ). slot_of proc k) i ∙ w.together 0 some

second_there : (proc : Proc) (at : ℕ) (s : Slot) → StandsWhole proc at s → s.byte ≡ 0 → s.bytes ≡ 2 → slot_of proc (at + 1) ≡ Some (record s { byte = 1 })
second_there proc at s w e f =
    let more : 1 < s.bytes = omega (arith, f) in
    let i : at + 1 ≡ at - s.byte + 1 = omega (arith, e) in
    ap (λ (k : ℕ). slot_of proc k) i ∙ w.together 1 more

one_or_two : (n : ℕ) → n ≡ 1 → n ≡ 2 → ⊥
one_or_two n e f = omega (arith, e, f)

-- what stands at an even offset and after it: registers of a byte or none, or the two bytes of one register
abbrev IsSmall : Option Slot → Type 0
IsSmall slot = IfSome slot (λ s. (s.byte ≡ 0) × (s.bytes ≡ 1))

abbrev IsPair : Option Slot → Option Slot → Type 0
IsPair None b = ⊥
IsPair (Some s) b = (s.byte ≡ 0) × (s.bytes ≡ 2) × (b ≡ Some (record s { byte = 1 }))

abbrev IsHalf : Option Slot → Option Slot → Type 0
IsHalf a b = (IsSmall a × IsSmall b) ⊎ IsPair a b

half_of : (proc : Proc) (at : ℕ) → at % 2 ≡ 0 → (a b : Option Slot) → slot_of proc at ≡ a → slot_of proc (at + 1) ≡ b
    → IfSome a (StandsWhole proc at) → IfSome b (StandsWhole proc (at + 1)) → IsNarrow a → IsNarrow b → IsHalf a b
half_of proc at even None None ha hb wa wb na nb = inl (tt, tt)
half_of proc at even None (Some t) ha hb wa wb na nb =
    elim (after_even proc at t even wb nb) [
      | inl one ↦ inl (tt, one)
      | inr two ↦ absurd (none-some (record t { byte = 0 }) (sym ha ∙ first_there proc at t wb two.0))
    ]
half_of proc at even (Some s) None ha hb wa wb na nb =
    let e = at_even proc at s even wa na in
    elim e.1 [
      | inl one ↦ inl ((e.0, one), tt)
      | inr two ↦ absurd (none-some (record s { byte = 1 }) (sym hb ∙ second_there proc at s wa e.0 two))
    ]
half_of proc at even (Some s) (Some t) ha hb wa wb na nb =
    let e = at_even proc at s even wa na in
    elim e.1 [
      | inl one ↦
          elim (after_even proc at t even wb nb) [
            | inl small ↦ inl ((e.0, one), small)
            | inr two ↦
                absurd (one_or_two s.bytes one
                (ap (λ (x : Slot). x.bytes) (same_Some s (record t { byte = 0 }) (sym ha ∙ first_there proc at t wb two.0)) ∙ two.1))
          ]
      | inr two ↦ inr (e.0, two, sym hb ∙ second_there proc at s wa e.0 two)
    ]

half_at : (proc : Proc) (at : ℕ) → at % 2 ≡ 0 → IsNarrow (slot_of proc at) → IsNarrow (slot_of proc (at + 1)) → IsHalf (slot_of proc at) (slot_of proc (at + 1))
half_at proc at even na nb = half_of proc at even (slot_of proc at) (slot_of proc (at + 1)) refl refl (stands_whole proc at) (stands_whole proc (at + 1)) na nb

-- what is read of a half, left by it and refused in it, by what stands at its two bytes
module _ (proc : Proc) (now : Tick) where
  abbrev value_by : IoState → Option Slot → Option Slot → ℕ
  value_by u a b = read_or proc now u Half (whole_in Half a) (read_or proc now u Byte a 0 + 2 ^ 8 * read_or proc now u Byte b 0)

  abbrev begun_value_by : IoState → Option Slot → Option Slot → ℕ
  begun_value_by u a b = begun_value proc now u a + 2 ^ 8 * (begun_value proc now u b + 2 ^ 8 * 0)

  last_value : (x y : ℕ) → x + 2 ^ 8 * y ≡ x + 2 ^ 8 * (y + 2 ^ 8 * 0)
  last_value x y = omega arith

  one_value : (x : ℕ) → x ≡ x + 2 ^ 8 * (0 + 2 ^ 8 * 0)
  one_value x = omega arith

  small_value : (u : IoState) (a b : Option Slot) → IsSmall a → IsSmall b → value_by u a b ≡ begun_value_by u a b
  small_value u None None sa sb = last_value 0 0
  small_value u None (Some t) sa sb = rw (sb.0, sb.1) (last_value 0 _)
  small_value u (Some s) None sa sb = rw (sa.0, sa.1) (last_value _ 0)
  small_value u (Some s) (Some t) sa sb = rw (sa.0, sa.1, sb.0, sb.1) (last_value _ _)

  pair_value : (u : IoState) (s : Slot) → s.byte ≡ 0 → s.bytes ≡ 2 → value_by u (Some s) (Some (record s { byte = 1 })) ≡ begun_value_by u (Some s) (Some (record s { byte = 1 }))
  pair_value u s e f = rw (e, f) (one_value _)

  half_value : (u : IoState) (a b : Option Slot) → IsHalf a b → value_by u a b ≡ begun_value_by u a b
  half_value u a b (inl small) = small_value u a b small.0 small.1
  half_value u None b (inr two) = absurd two
  half_value u (Some s) b (inr two) = subst (λ (x : Option Slot). value_by u (Some s) x ≡ begun_value_by u (Some s) x) (sym two.2) (pair_value u s two.0 two.1)

  abbrev half_by : IoState → Option Slot → Option Slot → ℕ → IoState
  half_by u a b value =
      let first = written_or proc now u Byte a value u in
      written_or proc now u Half (whole_in Half a) value (written_or proc now first Byte b (value / 2 ^ 8) first)

  abbrev begun_by : IoState → Option Slot → Option Slot → ℕ → IoState
  begun_by u a b value = begun_written proc now (begun_written proc now u a value) b (value / 2 ^ 8)

  small_written : (u : IoState) (a b : Option Slot) (value : ℕ) → IsSmall a → IsSmall b → half_by u a b value ≡ begun_by u a b value
  small_written u None None value sa sb = refl
  small_written u None (Some t) value sa sb = rw (sb.0, sb.1) refl
  small_written u (Some s) None value sa sb = rw (sa.0, sa.1) refl
  small_written u (Some s) (Some t) value sa sb = rw (sa.0, sa.1, sb.0, sb.1) refl

  pair_written : (u : IoState) (s : Slot) (value : ℕ) → s.byte ≡ 0 → s.bytes ≡ 2
      → half_by u (Some s) (Some (record s { byte = 1 })) value ≡ begun_by u (Some s) (Some (record s { byte = 1 })) value
  pair_written u s value e f = rw (e, f) refl

  written_half : (u : IoState) (a b : Option Slot) (value : ℕ) → IsHalf a b → half_by u a b value ≡ begun_by u a b value
  written_half u a b value (inl small) = small_written u a b value small.0 small.1
  written_half u None b value (inr two) = absurd two
  written_half u (Some s) b value (inr two) =
      subst (λ (x : Option Slot). half_by u (Some s) x value ≡ begun_by u (Some s) x value) (sym two.2) (pair_written u s value two.0 two.1)

  half_ascends : (u : IoState) (at value : ℕ) → at % 2 ≡ 0 → IsNarrow (slot_of proc at) → IsNarrow (slot_of proc (at + 1))
      → half_written proc now u at value ≡ ascending proc now u at value 2
  half_ascends u at value even na nb = written_half u (slot_of proc at) (slot_of proc (at + 1)) value (half_at proc at even na nb)

  half_values : (u : IoState) (at : ℕ) → at % 2 ≡ 0 → IsNarrow (slot_of proc at) → IsNarrow (slot_of proc (at + 1))
      → port_half proc now u at ≡ values_from proc now u at 2
  half_values u at even na nb = half_value u (slot_of proc at) (slot_of proc (at + 1)) (half_at proc at even na nb)

first_none : (x : Option Stop) → option_or x None ≡ x
first_none None = refl
first_none (Some stop) = refl

module _ (proc : Proc) where
  abbrev refusal_by : IoState → Option Slot → Option Slot → ℕ → Option Stop
  refusal_by u a b value = refusal_or proc u Half (whole_in Half a) value (option_or (refusal_or proc u Byte a value None) (refusal_or proc u Byte b (value / 2 ^ 8) None))

  abbrev begun_refusal_by : IoState → Option Slot → Option Slot → ℕ → Option Stop
  begun_refusal_by u a b value = option_or (begun_refusal proc u a value) (option_or (begun_refusal proc u b (value / 2 ^ 8)) None)

  last_refusal : (x y : Option Stop) → option_or x y ≡ option_or x (option_or y None)
  last_refusal x y = ap (λ (z : Option Stop). option_or x z) (sym (first_none y))

  small_refusal : (u : IoState) (a b : Option Slot) (value : ℕ) → IsSmall a → IsSmall b → refusal_by u a b value ≡ begun_refusal_by u a b value
  small_refusal u None None value sa sb = refl
  small_refusal u None (Some t) value sa sb = rw (sb.0, sb.1) (last_refusal None _)
  small_refusal u (Some s) None value sa sb = rw (sa.0, sa.1) (last_refusal _ None)
  small_refusal u (Some s) (Some t) value sa sb = rw (sa.0, sa.1, sb.0, sb.1) (last_refusal _ _)

  pair_refusal : (u : IoState) (s : Slot) (value : ℕ) → s.byte ≡ 0 → s.bytes ≡ 2
      → refusal_by u (Some s) (Some (record s { byte = 1 })) value ≡ begun_refusal_by u (Some s) (Some (record s { byte = 1 })) value
  pair_refusal u s value e f = rw (e, f) (sym (first_none _))

  refused_half : (u : IoState) (a b : Option Slot) (value : ℕ) → IsHalf a b → refusal_by u a b value ≡ begun_refusal_by u a b value
  refused_half u a b value (inl small) = small_refusal u a b value small.0 small.1
  refused_half u None b value (inr two) = absurd two
  refused_half u (Some s) b value (inr two) =
      subst (λ (x : Option Slot). refusal_by u (Some s) x value ≡ begun_refusal_by u (Some s) x value) (sym two.2) (pair_refusal u s value two.0 two.1)

  half_refuses : (u : IoState) (at value : ℕ) → at % 2 ≡ 0 → IsNarrow (slot_of proc at) → IsNarrow (slot_of proc (at + 1))
      → half_refusal proc u at value ≡ first_refusal proc u at value 2
  half_refuses u at value even na nb = refused_half u (slot_of proc at) (slot_of proc (at + 1)) value (half_at proc at even na nb)

-- none of the registers that are touched is as wide as the access, where it lies in no one register
word_elsewhere : (slot : Slot) → slot.byte ≡ 0 → slot.bytes ≡ 4 → whole_in Word (Some slot) ≡ Some slot
word_elsewhere slot e f = rw (e, f) refl

narrow_below_word : (proc : Proc) (at i : ℕ) → at % 4 ≡ 0 → i < 4 → whole_in Word (slot_of proc at) ≡ None → IsNarrow (slot_of proc (at + i))
narrow_below_word proc at i even l none = go (slot_of proc (at + i)) (stands_whole proc (at + i)) where
  go : (slot : Option Slot) → IfSome slot (StandsWhole proc (at + i)) → IsNarrow slot
  go None w = tt
  go (Some t) w = by_width w.bytes where
    by_width : IsWidth t.bytes → t.bytes < 4
    by_width (inl e) = omega (arith, e)
    by_width (inr (inl e)) = omega (arith, e)
    by_width (inr (inr e)) =
        let m : (at + i - t.byte) % 4 ≡ 0 = subst (λ (n : ℕ). (at + i - t.byte) % n ≡ 0) e w.multiple in
        let b = w.byte in
        let f = w.first in
        let k : at ≡ at + i - t.byte + 0 = omega (arith, m, b, f, e, even, l) in
        let there : slot_of proc at ≡ Some (record t { byte = 0 }) = ap (λ (n : ℕ). slot_of proc n) k ∙ w.together 0 (omega (arith, e)) in
        absurd (none-some (record t { byte = 0 }) (sym none ∙ ap (whole_in Word) there ∙ word_elsewhere (record t { byte = 0 }) refl e))

half_elsewhere : (slot : Slot) → slot.byte + 2 ≤ slot.bytes → whole_in Half (Some slot) ≡ Some slot
half_elsewhere slot l = (let e : nat_le (slot.byte + 2) slot.bytes ≡ true = grind (arith, l) in rw e refl)

narrow_below_half : (proc : Proc) (at i : ℕ) → at % 2 ≡ 0 → i < 2 → whole_in Half (slot_of proc at) ≡ None → IsNarrow (slot_of proc (at + i))
narrow_below_half proc at i even l none = go (slot_of proc (at + i)) (stands_whole proc (at + i)) where
  go : (slot : Option Slot) → IfSome slot (StandsWhole proc (at + i)) → IsNarrow slot
  go None w = tt
  go (Some t) w = by_width w.bytes where
    by_width : IsWidth t.bytes → t.bytes < 4
    by_width (inl e) = omega (arith, e)
    by_width (inr (inl e)) = omega (arith, e)
    by_width (inr (inr e)) =
        let m : (at + i - t.byte) % 4 ≡ 0 = subst (λ (n : ℕ). (at + i - t.byte) % n ≡ 0) e w.multiple in
        let b = w.byte in
        let f = w.first in
        let first : i ≤ t.byte = omega (arith, m, b, f, e, even, l) in
        let k : at ≡ at + i - t.byte + (t.byte - i) = omega (arith, first, f) in
        let low : t.byte - i + 2 ≤ 4 = omega (arith, m, b, f, e, even, l) in
        let there : slot_of proc at ≡ Some (record t { byte = t.byte - i }) = ap (λ (n : ℕ). slot_of proc n) k ∙ w.together (t.byte - i) (omega (arith, e, low)) in
        absurd (none-some (record t { byte = t.byte - i })
        (sym none ∙ ap (whole_in Half) there ∙ half_elsewhere (record t { byte = t.byte - i }) (omega (arith, e, low))))

-- each of the four is narrower than a word
record AreNarrow (proc : Proc) (at : ℕ) : Type 0 where
  n0 : IsNarrow (slot_of proc at)
  n1 : IsNarrow (slot_of proc (at + 1))
  n2 : IsNarrow (slot_of proc (at + 2))
  n3 : IsNarrow (slot_of proc (at + 2 + 1))

are_narrow : (proc : Proc) (at : ℕ) → at % 4 ≡ 0 → whole_in Word (slot_of proc at) ≡ None → AreNarrow proc at
are_narrow proc at even none =
    let e : at + 0 ≡ at = omega arith in
    let f : at + 3 ≡ at + 2 + 1 = omega arith in
    record {
      n0 = subst (λ (k : ℕ). IsNarrow (slot_of proc k)) e (narrow_below_word proc at 0 even (omega arith) none);
      n1 = narrow_below_word proc at 1 even (omega arith) none;
      n2 = narrow_below_word proc at 2 even (omega arith) none;
      n3 = subst (λ (k : ℕ). IsNarrow (slot_of proc k)) f (narrow_below_word proc at 3 even (omega arith) none);
    }

two_on : (at : ℕ) → at + 2 ≡ at + 1 + 1
two_on at = omega arith

upper_half : (value : ℕ) → value / 2 ^ 16 ≡ value / 2 ^ 8 / 2 ^ 8
upper_half value = sym (div-div-eq-div-mul value 256 256)

four_values : (a b c d : ℕ) → a + 2 ^ 8 * (b + 2 ^ 8 * 0) + 2 ^ 16 * (c + 2 ^ 8 * (d + 2 ^ 8 * 0)) ≡ a + 2 ^ 8 * (b + 2 ^ 8 * (c + 2 ^ 8 * (d + 2 ^ 8 * 0)))
four_values a b c d = omega arith

four_stops : (a b rest : Option Stop) → option_or (option_or a (option_or b None)) rest ≡ option_or a (option_or b rest)
four_stops (Some stop) b rest = refl
four_stops None (Some stop) rest = refl
four_stops None None rest = refl

module _ (proc : Proc) (now : Tick) where
  word_ascends : (u : IoState) (at value : ℕ) → at % 4 ≡ 0 → whole_in Word (slot_of proc at) ≡ None
      → word_written proc now u at value ≡ ascending proc now u at value 4
  word_ascends u at value even none =
      let n = are_narrow proc at even none in
      let first = half_written proc now u at value in
      let second = half_ascends proc now first (at + 2) (value / 2 ^ 16) (omega (arith, even)) n.n2 n.n3 in
      let lower = half_ascends proc now u at value (omega (arith, even)) n.n0 n.n1 in
      ap (λ (slot : Option Slot). written_or proc now u Word slot value (half_written proc now first (at + 2) (value / 2 ^ 16))) none
      ∙ second
      ∙ ap (λ (x : IoState). ascending proc now x (at + 2) (value / 2 ^ 16) 2) lower
      ∙ ap (λ (k : ℕ). ascending proc now (ascending proc now u at value 2) k (value / 2 ^ 16) 2) (two_on at)
      ∙ ap (λ (v : ℕ). ascending proc now (ascending proc now u at value 2) (at + 1 + 1) v 2) (upper_half value)

  word_values : (u : IoState) (at : ℕ) → at % 4 ≡ 0 → whole_in Word (slot_of proc at) ≡ None → port_word proc now u at ≡ values_from proc now u at 4
  word_values u at even none =
      let n = are_narrow proc at even none in
      let lower = half_values proc now u at (omega (arith, even)) n.n0 n.n1 in
      let upper = half_values proc now u (at + 2) (omega (arith, even)) n.n2 n.n3 in
      ap (λ (slot : Option Slot). read_or proc now u Word slot (port_half proc now u at + 2 ^ 16 * port_half proc now u (at + 2))) none
      ∙ ap (λ (x : ℕ). x + 2 ^ 16 * port_half proc now u (at + 2)) lower
      ∙ ap (λ (x : ℕ). values_from proc now u at 2 + 2 ^ 16 * x) (upper ∙ ap (λ (k : ℕ). values_from proc now u k 2) (two_on at))
      ∙ four_values (begun_value proc now u (slot_of proc at)) (begun_value proc now u (slot_of proc (at + 1)))
      (begun_value proc now u (slot_of proc (at + 1 + 1))) (begun_value proc now u (slot_of proc (at + 1 + 1 + 1)))

  word_refuses : (u : IoState) (at value : ℕ) → at % 4 ≡ 0 → whole_in Word (slot_of proc at) ≡ None
      → word_refusal proc u at value ≡ first_refusal proc u at value 4
  word_refuses u at value even none =
      let n = are_narrow proc at even none in
      let lower = half_refuses proc u at value (omega (arith, even)) n.n0 n.n1 in
      let upper = half_refuses proc u (at + 2) (value / 2 ^ 16) (omega (arith, even)) n.n2 n.n3 in
      ap (λ (slot : Option Slot). refusal_or proc u Word slot value (option_or (half_refusal proc u at value) (half_refusal proc u (at + 2) (value / 2 ^ 16)))) none
      ∙ ap (λ (x : Option Stop). option_or x (half_refusal proc u (at + 2) (value / 2 ^ 16))) lower
      ∙ ap (λ (x : Option Stop). option_or (first_refusal proc u at value 2) x)
      (upper ∙ ap (λ (k : ℕ). first_refusal proc u k (value / 2 ^ 16) 2) (two_on at) ∙ ap (λ (v : ℕ). first_refusal proc u (at + 1 + 1) v 2) (upper_half value))
      ∙ four_stops (begun_refusal proc u (slot_of proc at) value) (begun_refusal proc u (slot_of proc (at + 1)) (value / 2 ^ 8))
      (first_refusal proc u (at + 1 + 1) (value / 2 ^ 8 / 2 ^ 8) 2)

  -- ---- what stands in an access's stead where it lies in no one register

  read_turns : (u : IoState) (width : Width) (whole : Option Slot) (halves all : ℕ) → (whole ≡ None → read_or proc now u width whole halves ≡ all)
      → read_or proc now u width whole all ≡ read_or proc now u width whole halves
  read_turns u width None halves all h = sym (h refl)
  read_turns u width (Some slot) halves all h = refl

  written_turns : (u : IoState) (width : Width) (whole : Option Slot) (value : ℕ) (halves all : IoState)
      → (whole ≡ None → written_or proc now u width whole value halves ≡ all) → written_or proc now u width whole value all ≡ written_or proc now u width whole value halves
  written_turns u width None value halves all h = sym (h refl)
  written_turns u width (Some slot) value halves all h = refl

  refusal_turns : (u : IoState) (width : Width) (whole : Option Slot) (value : ℕ) (halves all : Option Stop)
      → (whole ≡ None → refusal_or proc u width whole value halves ≡ all) → refusal_or proc u width whole value all ≡ refusal_or proc u width whole value halves
  refusal_turns u width None value halves all h = sym (h refl)
  refusal_turns u width (Some slot) value halves all h = refl

  -- a byte always lies in one where it is a register's
  byte_there : (t : Slot) → t.byte < t.bytes → whole_in Byte (Some t) ≡ Some t
  byte_there t l = (let e : nat_le (t.byte + 1) t.bytes ≡ true = grind (arith, l) in rw e refl)

  abbrev ByteGoes : IoState → ℕ → Option Slot → Type 0
  ByteGoes u value slot =
      (read_or proc now u Byte (whole_in Byte slot) (begun_value proc now u slot + 2 ^ 8 * 0) ≡ read_or proc now u Byte slot 0)
      × (written_or proc now u Byte (whole_in Byte slot) value (begun_written proc now u slot value) ≡ written_or proc now u Byte slot value u)
      × (refusal_or proc u Byte (whole_in Byte slot) value (option_or (begun_refusal proc u slot value) None) ≡ refusal_or proc u Byte slot value None)

  byte_goes : (u : IoState) (at value : ℕ) (slot : Option Slot) → IfSome slot (StandsWhole proc at) → ByteGoes u value slot
  byte_goes u at value None w = (refl, refl, refl)
  byte_goes u at value (Some t) w = rw (byte_there t w.byte) (refl, refl, refl)

  first_narrow : (at : ℕ) → at % 2 ≡ 0 → whole_in Half (slot_of proc at) ≡ None → IsNarrow (slot_of proc at)
  first_narrow at even none =
      let e : at + 0 ≡ at = omega arith in
      subst (λ (k : ℕ). IsNarrow (slot_of proc k)) e (narrow_below_half proc at 0 even (omega arith) none)

  second_narrow : (at : ℕ) → at % 2 ≡ 0 → whole_in Half (slot_of proc at) ≡ None → IsNarrow (slot_of proc (at + 1))
  second_narrow at even none = narrow_below_half proc at 1 even (omega arith) none

pub goes_by_halves : (proc : Proc) (now : Tick) (u : IoState) (at : ℕ) (width : Width) (value : ℕ) → at % width_bytes width ≡ 0
    → GoesByHalves proc now u at width value
unfolding port_value port_written port_refusal
goes_by_halves proc now u at Byte value even =
    let b = byte_goes proc now u at value (slot_of proc at) (stands_whole proc at) in
    record { reads = b.0; writes = b.1; refuses = b.2 }
goes_by_halves proc now u at Half value even =
    let whole = whole_in Half (slot_of proc at) in
    let a = first_narrow proc now at even in
    let b = second_narrow proc now at even in
    record {
      reads = read_turns proc now u Half whole _ _ (λ none. half_values proc now u at even (a none) (b none));
      writes = written_turns proc now u Half whole value _ _ (λ none. half_ascends proc now u at value even (a none) (b none));
      refuses = refusal_turns proc now u Half whole value _ _ (λ none. half_refuses proc u at value even (a none) (b none));
    }
goes_by_halves proc now u at Word value even =
    let whole = whole_in Word (slot_of proc at) in
    record {
      reads = read_turns proc now u Word whole _ _ (λ none. word_values proc now u at even none);
      writes = written_turns proc now u Word whole value _ _ (λ none. word_ascends proc now u at value even none);
      refuses = refusal_turns proc now u Word whole value _ _ (λ none. word_refuses proc now u at value even none);
    }

-- each alone
pub reads_halved : (proc : Proc) (now : Tick) (u : IoState) (at : ℕ) (width : Width) → at % width_bytes width ≡ 0
    → port_value proc now u at width ≡ halved_value proc now u at width
reads_halved proc now u at width even = (goes_by_halves proc now u at width 0 even).reads

pub writes_halved : (proc : Proc) (now : Tick) (u : IoState) (at : ℕ) (width : Width) (value : ℕ) → at % width_bytes width ≡ 0
    → port_written proc now u at width value ≡ halved_written proc now u at width value
writes_halved proc now u at width value even = (goes_by_halves proc now u at width value even).writes

pub refuses_halved : (proc : Proc) (u : IoState) (at : ℕ) (width : Width) (value : ℕ) → at % width_bytes width ≡ 0
    → port_refusal proc u at width value ≡ halved_refusal proc u at width value
refuses_halved proc u at width value even = (goes_by_halves proc (record { 0 = 0 }) u at width value even).refuses
