use Rattle.ds_ports.proofs.Words.{Bool, IfSome, IsWidth, List, Nine, None, Option, PortRow, Proc, Seven, Slot, Some, StandsWhole, [], ap, arith, both}
use Rattle.ds_ports.proofs.Words.{false, if◌then◌else◌, inl, inr, le_of, nat_le, nat_lt, none-some, refl, register_map, row_bytes, same_Some, slot_by}
use Rattle.ds_ports.proofs.Words.{slot_in, slot_of, subst, sym, true, ℕ, ◌%◌, ◌&&◌, ◌*◌, ◌+◌, ◌-◌, ◌/◌, ◌<◌, ◌==◌, ◌||◌, ◌∙◌, ◌∷◌, ◌≡◌, ◌≤◌}
use Rattle.std.proofs.Math.Nat.{div-lt_iff_lt-mul, mod-lt, add-mul-mod_self_right, mul-le-mul_right}
use Rattle.std.proofs.lemmas.Nat.{div-add-mod', div-mul-add, mod-mul-add}
use Rattle.ds_ports.proofs.Spans.{lies, none_before, rise}

-- A register stands whole at a multiple of its width.

-- each row stands at a multiple of its registers' width
abbrev is_width : ℕ → Bool
is_width n = (n == 1) || (n == 2) || (n == 4)

abbrev aligned : List PortRow → Bool
aligned [] = true
aligned (r ∷ rows) = (is_width r.bytes && (r.offset % r.bytes == 0)) && aligned rows

width_is : (n : ℕ) → is_width n ≡ true → IsWidth n
width_is n h = grind (arith, h)

zero_of : (n : ℕ) → (n == 0) ≡ true → n ≡ 0
zero_of n h = grind (arith, h)

some_bytes : (n : ℕ) → IsWidth n → 0 < n
some_bytes n (inl e) = omega (arith, e)
some_bytes n (inr (inl e)) = omega (arith, e)
some_bytes n (inr (inr e)) = omega (arith, e)

-- where byte i of the register stands, one of whose bytes stands at an offset of a row
module _ (offset bytes count at i : ℕ) (low : offset ≤ at) (inside : at - offset < count * bytes) (small : i < bytes) where
  whole : (at - offset) / bytes * bytes + (at - offset) % bytes ≡ at - offset
  whole = div-add-mod' (at - offset) bytes

  byte_inside : at - (at - offset) % bytes + i - offset ≡ (at - offset) / bytes * bytes + i
  byte_inside = (let d = whole in omega (arith, d, low))

  byte_past : offset ≤ at - (at - offset) % bytes + i
  byte_past = (let d = whole in omega (arith, d, low))

  byte_before : at - (at - offset) % bytes + i < offset + count * bytes
  byte_before =
      let n : (at - offset) / bytes < count = (div-lt_iff_lt-mul (omega (arith, small))).1 inside in
      let m : ((at - offset) / bytes + 1) * bytes ≤ count * bytes = mul-le-mul_right bytes (omega (arith, n)) in
      let e : ((at - offset) / bytes + 1) * bytes ≡ (at - offset) / bytes * bytes + bytes = grind arith in
      let d = whole in
      omega (arith, m, e, d, low, small)

  byte_place : (at - (at - offset) % bytes + i - offset) / bytes ≡ (at - offset) / bytes
  byte_place = ap (λ (n : ℕ). n / bytes) byte_inside ∙ div-mul-add ((at - offset) / bytes) bytes i small

  byte_number : (at - (at - offset) % bytes + i - offset) % bytes ≡ i
  byte_number = ap (λ (n : ℕ). n % bytes) byte_inside ∙ mod-mul-add ((at - offset) / bytes) bytes i small

  first_byte : offset + (at - offset) % bytes ≤ at
  first_byte = (let d = whole in omega (arith, d, low))

  first_multiple : offset % bytes ≡ 0 → (at - (at - offset) % bytes) % bytes ≡ 0
  first_multiple h =
      let d = whole in
      let e : at - (at - offset) % bytes ≡ offset + (at - offset) / bytes * bytes = omega (arith, d, low) in
      ap (λ (n : ℕ). n % bytes) e ∙ add-mul-mod_self_right offset ((at - offset) / bytes) bytes ∙ h

-- what holds of the register of which a byte stands at an offset, by rows that begin from one on
record Whole (from : ℕ) (rows : List PortRow) (at : ℕ) (s : Slot) : Type 0 where
  bytes : IsWidth s.bytes
  first : from + s.byte ≤ at
  byte : s.byte < s.bytes
  multiple : (at - s.byte) % s.bytes ≡ 0
  together : (i : ℕ) → i < s.bytes → slot_by rows (at - s.byte + i) ≡ Some (record s { byte = i })

taken : (here : Bool) (slot : Slot) (rest : Option Slot) (slot_wanted : Slot) → here ≡ true → slot ≡ slot_wanted → (if here then Some slot else rest) ≡ Some slot_wanted
taken here slot rest wanted h e = rw h (ap (λ (s : Slot). Some s) e)

abbrev slot_at : PortRow → ℕ → ℕ → Slot
slot_at r place byte = record { register = r.register place; number = r.number place; byte = byte; bytes = r.bytes }

slots : (r : PortRow) (place other byte i : ℕ) → place ≡ other → byte ≡ i → slot_at r place byte ≡ slot_at r other i
slots r place other byte i e f = rw (e, f) refl

whole_on : (from : ℕ) (rows : List PortRow) (at : ℕ) (s : Slot) → rise from rows ≡ true → aligned rows ≡ true → slot_by rows at ≡ Some s → Whole from rows at s
whole_on from [] at s up even h = absurd (none-some s h)
whole_on from (r ∷ rows) at s up even h =
    let two = both (nat_le from r.offset) (rise (r.offset + row_bytes r) rows) up in
    let three = both (is_width r.bytes && (r.offset % r.bytes == 0)) (aligned rows) even in
    let four = both (is_width r.bytes) (r.offset % r.bytes == 0) three.0 in
    let low = le_of from r.offset two.0 in
    elim (lies r.offset (row_bytes r) at) [
      | inl before ↦ absurd (none-some s (sym (none_before (r.offset + row_bytes r) rows at two.1 (further r.offset (row_bytes r) before.0)) ∙ rw before.1 at h))
      | inr rest ↦ elim rest [
        | inl inside ↦ subst (Whole from (r ∷ rows) at) (same_Some (slot_in r (at - r.offset)) s (rw inside.2 at h))
            (here low (width_is r.bytes four.0) (zero_of (r.offset % r.bytes) four.1) inside.0 inside.1)
        | inr past ↦ later low past.0 (whole_on (r.offset + row_bytes r) rows at s two.1 three.1 (rw past.1 at h))
      ]
    ] where
      further : (offset bytes : ℕ) → at < offset → at < offset + bytes
      further offset bytes before = omega (arith, before)

      here : from ≤ r.offset → IsWidth r.bytes → r.offset % r.bytes ≡ 0 → r.offset ≤ at → at - r.offset < row_bytes r → Whole from (r ∷ rows) at (slot_in r (at - r.offset))
      here low width zero_rest start inside =
          let some = some_bytes r.bytes width in
          record {
            bytes = width;
            first = (let f = first_byte r.offset r.bytes r.count at 0 start inside some in omega (arith, f, low));
            byte = mod-lt (at - r.offset) some;
            multiple = first_multiple r.offset r.bytes r.count at 0 start inside some zero_rest;
            together = λ i l. taken (nat_le r.offset (at - (at - r.offset) % r.bytes + i) && nat_lt (at - (at - r.offset) % r.bytes + i) (r.offset + row_bytes r))
                (slot_in r (at - (at - r.offset) % r.bytes + i - r.offset)) (slot_by rows (at - (at - r.offset) % r.bytes + i)) _
                (tested (at - (at - r.offset) % r.bytes + i) r.offset (row_bytes r) (byte_past r.offset r.bytes r.count at i start inside l) (byte_before r.offset r.bytes r.count at i start inside l))
                (slots r _ _ _ _ (byte_place r.offset r.bytes r.count at i start inside l) (byte_number r.offset r.bytes r.count at i start inside l));
          } where
            tested : (k offset bytes : ℕ) → offset ≤ k → k < offset + bytes → (nat_le offset k && nat_lt k (offset + bytes)) ≡ true
            tested k offset bytes low high = grind (arith, low, high)

      later : from ≤ r.offset → r.offset + row_bytes r ≤ at → Whole (r.offset + row_bytes r) rows at s → Whole from (r ∷ rows) at s
      later low past w = record {
        bytes = w.bytes;
        first = (let f = w.first in omega (arith, f, low));
        byte = w.byte;
        multiple = w.multiple;
        together = λ i l. rw (beyond r.offset (row_bytes r) (at - s.byte + i) (let f = w.first in omega (arith, f))) (w.together i l);
      } where
        beyond : (offset bytes k : ℕ) → offset + bytes ≤ k → (nat_le offset k && nat_lt k (offset + bytes)) ≡ false
        beyond offset bytes k past = grind (arith, past)

whole_of : (rows : List PortRow) (at : ℕ) (slot : Option Slot) → rise 0 rows ≡ true → aligned rows ≡ true → slot_by rows at ≡ slot → IfSome slot (λ s. Whole 0 rows at s)
whole_of rows at None up even h = tt
whole_of rows at (Some s) up even h = whole_on 0 rows at s up even h

stands_of : (proc : Proc) (rows : List PortRow) (at : ℕ) (slot : Option Slot) → ((k : ℕ) → slot_of proc k ≡ slot_by rows k) → IfSome slot (λ s. Whole 0 rows at s)
    → IfSome slot (StandsWhole proc at)
stands_of proc rows at None same w = tt
stands_of proc rows at (Some s) same w = record {
  bytes = w.bytes;
  first = (let f = w.first in omega (arith, f));
  byte = w.byte;
  multiple = w.multiple;
  together = λ i l. same (at - s.byte + i) ∙ w.together i l;
}

pub stands_whole : (proc : Proc) (at : ℕ) → IfSome (slot_of proc at) (StandsWhole proc at)
unfolding slot_of
stands_whole Nine at = stands_of Nine (register_map Nine) at (slot_of Nine at) (λ k. refl) (whole_of (register_map Nine) at (slot_of Nine at) refl refl refl)
stands_whole Seven at = stands_of Seven (register_map Seven) at (slot_of Seven at) (λ k. refl) (whole_of (register_map Seven) at (slot_of Seven at) refl refl refl)
