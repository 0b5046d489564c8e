use Rattle.ds_ports.proofs.Words.{Bool, Byte, Half, IfSome, IoState, None, Option, PortRow, Proc, Register, Slot, Some, Stop, Tick, Width, Word}
use Rattle.ds_ports.proofs.Words.{after_write, ap, arith, ascending, begun_refusal, begun_value, begun_written, either, false, first_refusal}
use Rattle.ds_ports.proofs.Words.{if◌then◌else◌, ignores, inl, inr, meaning_of, never, one_of, option_or, part, port_read, port_refusal, port_value}
use Rattle.ds_ports.proofs.Words.{port_written, read_or, refl, refusal_or, register_map, slot_joined, slot_of, slot_read, slot_refusal, slot_value}
use Rattle.ds_ports.proofs.Words.{slot_written, subst, suc, sym, true, true≢false, values_from, whole_if, whole_in, width_bytes, width_of}
use Rattle.ds_ports.proofs.Words.{with_bytes_from, written_or, zero, ℕ, ◌*◌, ◌+◌, ◌-◌, ◌/◌, ◌<◌, ◌==◌, ◌^◌, ◌||◌, ◌∙◌, ◌≡◌}
use Rattle.ds_ports.proofs.RegisterMaps.{all_rows, each_place, lies_in, of_place, slot_by_all}

-- A law of the registers of which an access covers bytes is a law of the access.

-- a choice of what is changed is what is chosen, changed
pub chosen : {A B : Type 0} (f : A → B) (b : Bool) (x y : A) → (if b then f x else f y) ≡ f (if b then x else y)
chosen f true x y = refl
chosen f false x y = refl

-- ---- the registers that rows of a map have

abbrev pub Of : (Register → Bool) → Slot → Type 0
Of kind slot = kind slot.register ≡ true

abbrev pub OfKind : (Register → Bool) → Option Slot → Type 0
OfKind kind slot = IfSome slot (Of kind)

abbrev pub is_of_row : (Register → Bool) → PortRow → ℕ → Bool
is_of_row kind r place = kind (r.register place)

-- a row has registers of a kind, or is skipped
abbrev pub row_is : (PortRow → Bool) → (Register → Bool) → PortRow → Bool
row_is skips kind r = skips r || each_place (is_of_row kind) r

-- none is
abbrev pub no_row : PortRow → Bool
no_row r = false

-- an offset that no skipped row has
pub slot_is : (skips : PortRow → Bool) (kind : Register → Bool) (proc : Proc) (at : ℕ) → all_rows (row_is skips kind) (register_map proc) ≡ true
    → ((r : PortRow) → skips r ≡ true → lies_in r at ≡ false) → OfKind kind (slot_of proc at)
unfolding slot_of
slot_is skips kind proc at h out =
    slot_by_all (Of kind) (row_is skips kind) (register_map proc) at h (λ r test inside le lies. elim (one_of (skips r) (each_place (is_of_row kind) r) test) [
      | inl skipped ↦ never (lies_in r at) lies (out r skipped)
      | inr has ↦ of_place (is_of_row kind) r (at - r.offset) has inside
    ])

-- ---- the registers of which an access covers bytes

abbrev AreFrom : (Slot → Type 0) → Proc → ℕ → ℕ → Type 0
AreFrom Q proc at zero = Unit {0}
AreFrom Q proc at (suc n) = IfSome (slot_of proc at) Q × AreFrom Q proc (at + 1) n

abbrev pub AreAll : (Slot → Type 0) → Proc → ℕ → Width → Type 0
AreAll Q proc at width = AreFrom Q proc at (width_bytes width)

-- they are of a kind
abbrev pub Covers : (Register → Bool) → Proc → ℕ → Width → Type 0
Covers kind proc at width = AreAll (Of kind) proc at width

module _ (Q : Slot → Type 0) (proc : Proc) where
  first_is : (at : ℕ) (width : Width) → AreAll Q proc at width → IfSome (slot_of proc at) Q
  first_is at Byte h = h.0
  first_is at Half h = h.0
  first_is at Word h = h.0

  -- what holds at each offset holds of each of its bytes
  all_from : ((at : ℕ) → IfSome (slot_of proc at) Q) → (at n : ℕ) → AreFrom Q proc at n
  all_from h at zero = tt
  all_from h at (suc n) = (h at, all_from h (at + 1) n)

  pub are_all : ((at : ℕ) → IfSome (slot_of proc at) Q) → (at : ℕ) (width : Width) → AreAll Q proc at width
  are_all h at width = all_from h at (width_bytes width)

  -- so it is where it holds of each of its bytes
  each_from : (n at : ℕ) → ((k : ℕ) → k < n → IfSome (slot_of proc (at + k)) Q) → AreFrom Q proc at n
  each_from zero at h = tt
  each_from (suc n) at h =
      let e : at + 0 ≡ at = omega arith in (
        subst (λ (k : ℕ). IfSome (slot_of proc k) Q) e (h 0 (omega arith)),
        each_from n (at + 1) (λ k l.
            (let f : at + (k + 1) ≡ at + 1 + k = omega arith in
            subst (λ (j : ℕ). IfSome (slot_of proc j) Q) f (h (k + 1) (omega (arith, l))))),
      )

pub covers : (kind : Register → Bool) (proc : Proc) (at : ℕ) (width : Width)
    → ((k : ℕ) → k < width_bytes width → IfSome (slot_of proc (at + k)) (λ s. kind s.register ≡ true)) → Covers kind proc at width
covers kind proc at width h = each_from (Of kind) proc (width_bytes width) at h

-- and where all registers of the map are of one
pub covers_all : (kind : Register → Bool) (proc : Proc) (at : ℕ) (width : Width) → all_rows (row_is no_row kind) (register_map proc) ≡ true → Covers kind proc at width
covers_all kind proc at width h = are_all (Of kind) proc (λ k. slot_is no_row kind proc k h (λ r skipped. absurd (true≢false (sym skipped)))) at width

-- the register in which it lies is one of them
whole_if_is : (Q : Slot → Type 0) (b : Bool) (slot : Slot) → Q slot → IfSome (whole_if b slot) Q
whole_if_is Q true slot h = h
whole_if_is Q false slot h = tt

whole_is : (Q : Slot → Type 0) (width : Width) (slot : Option Slot) → IfSome slot Q → IfSome (whole_in width slot) Q
whole_is Q width None h = tt
whole_is Q width (Some slot) h = whole_if_is Q _ slot h

-- ---- a relation that each register's write keeps, or its read, an access keeps

module _ (Q : Slot → Type 0) (proc : Proc) (now : Tick) (R : IoState → IoState → Type 0) (same : (u : IoState) → R u u) (joined : (u v w : IoState) → R u v → R v w → R u w)
    (each : (u : IoState) (slot : Slot) (word : ℕ) → Q slot → R u (after_write proc now u slot.register slot.number word)) where
  slot_leaves : (u : IoState) (width : Width) (slot : Slot) (value : ℕ) → Q slot → R u (slot_written proc now u width slot value)
  slot_leaves u width slot value h =
      either (R u) (ignores width slot.register) u (after_write proc now u slot.register slot.number (slot_joined proc u width slot value)) (same u)
      (each u slot (slot_joined proc u width slot value) h)

  or_leaves : (u : IoState) (width : Width) (slot : Option Slot) (value : ℕ) (other : IoState) → IfSome slot Q → R u other → R u (written_or proc now u width slot value other)
  or_leaves u width None value other h r = r
  or_leaves u width (Some slot) value other h r = slot_leaves u width slot value h

  begun_leaves : (u : IoState) (slot : Option Slot) (value : ℕ) → IfSome slot Q → R u (begun_written proc now u slot value)
  begun_leaves u None value h = same u
  begun_leaves u (Some slot) value h =
      let width = width_of slot.bytes in
      either (R u) (slot.byte == 0) (slot_written proc now u width slot value) u (slot_leaves u width slot value h) (same u)

  walk_leaves : (n : ℕ) (u : IoState) (at value : ℕ) → AreFrom Q proc at n → R u (ascending proc now u at value n)
  walk_leaves zero u at value h = same u
  walk_leaves (suc n) u at value h =
      let first = begun_written proc now u (slot_of proc at) value in
      joined u first (ascending proc now first (at + 1) (value / 2 ^ 8) n) (begun_leaves u (slot_of proc at) value h.0)
      (walk_leaves n first (at + 1) (value / 2 ^ 8) h.1)

  pub write_leaves : (u : IoState) (at : ℕ) (width : Width) (value : ℕ) → AreAll Q proc at width → R u (port_written proc now u at width value)
  unfolding port_written
  write_leaves u at width value h =
      or_leaves u width (whole_in width (slot_of proc at)) value (ascending proc now u at value (width_bytes width))
      (whole_is Q width (slot_of proc at) (first_is Q proc at width h)) (walk_leaves (width_bytes width) u at value h)

module _ (kind : Register → Bool) (proc : Proc) (now : Tick) (R : IoState → IoState → Type 0) (same : (u : IoState) → R u u)
    (each : (u : IoState) (register : Register) → kind register ≡ true → R u ((meaning_of register).after_read proc now u)) where
  slot_read_leaves : (u : IoState) (slot : Option Slot) → OfKind kind slot → R u (slot_read proc now u slot)
  slot_read_leaves u None h = same u
  slot_read_leaves u (Some slot) h = each u slot.register h

  pub read_leaves : (u : IoState) (at : ℕ) (width : Width) → Covers kind proc at width → R u (port_read proc now u at width)
  unfolding port_read
  read_leaves u at Byte h = same u
  read_leaves u at Half h = same u
  read_leaves u at Word h = slot_read_leaves u (whole_in Word (slot_of proc at)) (whole_is (Of kind) Word (slot_of proc at) h.0)

-- ---- what holds of each register's refusal, and where there is none, holds of an access's

module _ (proc : Proc) (u : IoState) (P : Option Stop → Type 0) (none : P None)
    (each : (register : Register) (number word : ℕ) → P ((meaning_of register).refusal proc u number word)) where
  slot_is_so : (width : Width) (slot : Slot) (value : ℕ) → P (slot_refusal proc u width slot value)
  slot_is_so width slot value =
      either P (ignores width slot.register) None _ none (each slot.register slot.number (slot_joined proc u width slot value))

  begun_is_so : (slot : Option Slot) (value : ℕ) → P (begun_refusal proc u slot value)
  begun_is_so None value = none
  begun_is_so (Some slot) value =
      let width = width_of slot.bytes in
      either P (slot.byte == 0) (slot_refusal proc u width slot value) None (slot_is_so width slot value) none

  first_is_so : (one two : Option Stop) → P one → P two → P (option_or one two)
  first_is_so None two h k = k
  first_is_so (Some stop) two h k = h

  walk_is_so : (n at value : ℕ) → P (first_refusal proc u at value n)
  walk_is_so zero at value = none
  walk_is_so (suc n) at value =
      first_is_so (begun_refusal proc u (slot_of proc at) value) (first_refusal proc u (at + 1) (value / 2 ^ 8) n)
      (begun_is_so (slot_of proc at) value) (walk_is_so n (at + 1) (value / 2 ^ 8))

  or_is_so : (width : Width) (slot : Option Slot) (value : ℕ) (other : Option Stop) → P other → P (refusal_or proc u width slot value other)
  or_is_so width None value other h = h
  or_is_so width (Some slot) value other h = slot_is_so width slot value

  pub refusal_is_so : (at : ℕ) (width : Width) (value : ℕ) → P (port_refusal proc u at width value)
  unfolding port_refusal
  refusal_is_so at width value =
      or_is_so width (whole_in width (slot_of proc at)) value (first_refusal proc u at value (width_bytes width))
      (walk_is_so (width_bytes width) at value)

-- ---- a change of the units that registers of a kind don't see, and leave as it is

pub record Passes (kind : Register → Bool) (proc : Proc) (change : IoState → IoState) : Type 0 where
  pub kept : (u : IoState) (register : Register) (n : ℕ) → kind register ≡ true → (meaning_of register).kept proc (change u) n ≡ (meaning_of register).kept proc u n
  pub refusal : (u : IoState) (register : Register) (n word : ℕ) → kind register ≡ true
      → (meaning_of register).refusal proc (change u) n word ≡ (meaning_of register).refusal proc u n word
  pub after_read : (now : Tick) (u : IoState) (register : Register) → kind register ≡ true
      → (meaning_of register).after_read proc now (change u) ≡ change ((meaning_of register).after_read proc now u)
  pub written : (now : Tick) (u : IoState) (register : Register) (n word : ℕ) → kind register ≡ true
      → after_write proc now (change u) register n word ≡ change (after_write proc now u register n word)

module _ (kind : Register → Bool) (proc : Proc) (change : IoState → IoState) (passes : Passes kind proc change) where
  -- writes
  module _ (now : Tick) where
    slot_passes : (u : IoState) (width : Width) (slot : Slot) (value : ℕ) → kind slot.register ≡ true
        → slot_written proc now (change u) width slot value ≡ change (slot_written proc now u width slot value)
    slot_passes u width slot value h =
        ap (λ (n : ℕ). if ignores width slot.register then change u else after_write proc now (change u) slot.register slot.number (with_bytes_from width slot.byte n value))
        (passes.kept u slot.register slot.number h)
        ∙ ap (λ (v : IoState). if ignores width slot.register then change u else v) (passes.written now u slot.register slot.number (slot_joined proc u width slot value) h)
        ∙ chosen change (ignores width slot.register) u (after_write proc now u slot.register slot.number (slot_joined proc u width slot value))

    or_passes : (u : IoState) (width : Width) (slot : Option Slot) (value : ℕ) (other : IoState) → OfKind kind slot
        → written_or proc now (change u) width slot value (change other) ≡ change (written_or proc now u width slot value other)
    or_passes u width None value other h = refl
    or_passes u width (Some slot) value other h = slot_passes u width slot value h

    begun_passes : (u : IoState) (slot : Option Slot) (value : ℕ) → OfKind kind slot
        → begun_written proc now (change u) slot value ≡ change (begun_written proc now u slot value)
    begun_passes u None value h = refl
    begun_passes u (Some slot) value h =
        let width = width_of slot.bytes in
        ap (λ (v : IoState). if slot.byte == 0 then v else change u) (slot_passes u width slot value h)
        ∙ chosen change (slot.byte == 0) (slot_written proc now u width slot value) u

    walk_passes : (n : ℕ) (u : IoState) (at value : ℕ) → AreFrom (Of kind) proc at n
        → ascending proc now (change u) at value n ≡ change (ascending proc now u at value n)
    walk_passes zero u at value h = refl
    walk_passes (suc n) u at value h =
        ap (λ (v : IoState). ascending proc now v (at + 1) (value / 2 ^ 8) n) (begun_passes u (slot_of proc at) value h.0)
        ∙ walk_passes n (begun_written proc now u (slot_of proc at) value) (at + 1) (value / 2 ^ 8) h.1

    pub write_passes : (u : IoState) (at : ℕ) (width : Width) (value : ℕ) → Covers kind proc at width
        → port_written proc now (change u) at width value ≡ change (port_written proc now u at width value)
    unfolding port_written
    write_passes u at width value h =
        let whole = whole_in width (slot_of proc at) in
        ap (λ (v : IoState). written_or proc now (change u) width whole value v) (walk_passes (width_bytes width) u at value h)
        ∙ or_passes u width whole value (ascending proc now u at value (width_bytes width))
        (whole_is (Of kind) width (slot_of proc at) (first_is (Of kind) proc at width h))

  -- reads
  slot_read_passes : (now : Tick) (u : IoState) (slot : Option Slot) → OfKind kind slot → slot_read proc now (change u) slot ≡ change (slot_read proc now u slot)
  slot_read_passes now u None h = refl
  slot_read_passes now u (Some slot) h = passes.after_read now u slot.register h

  pub read_passes : (now : Tick) (u : IoState) (at : ℕ) (width : Width) → Covers kind proc at width
      → port_read proc now (change u) at width ≡ change (port_read proc now u at width)
  unfolding port_read
  read_passes now u at Byte h = refl
  read_passes now u at Half h = refl
  read_passes now u at Word h = slot_read_passes now u (whole_in Word (slot_of proc at)) (whole_is (Of kind) Word (slot_of proc at) h.0)

  -- refusals
  slot_refuses : (u : IoState) (width : Width) (slot : Slot) (value : ℕ) → kind slot.register ≡ true → slot_refusal proc (change u) width slot value ≡ slot_refusal proc u width slot value
  slot_refuses u width slot value h =
      ap (λ (n : ℕ). if ignores width slot.register then None else (meaning_of slot.register).refusal proc (change u) slot.number (with_bytes_from width slot.byte n value))
      (passes.kept u slot.register slot.number h)
      ∙ ap (λ (stop : Option Stop). if ignores width slot.register then None else stop) (passes.refusal u slot.register slot.number (slot_joined proc u width slot value) h)

  or_refuses : (u : IoState) (width : Width) (slot : Option Slot) (value : ℕ) (other : Option Stop) → OfKind kind slot
      → refusal_or proc (change u) width slot value other ≡ refusal_or proc u width slot value other
  or_refuses u width None value other h = refl
  or_refuses u width (Some slot) value other h = slot_refuses u width slot value h

  begun_refuses : (u : IoState) (slot : Option Slot) (value : ℕ) → OfKind kind slot → begun_refusal proc (change u) slot value ≡ begun_refusal proc u slot value
  begun_refuses u None value h = refl
  begun_refuses u (Some slot) value h = ap (λ (stop : Option Stop). if slot.byte == 0 then stop else None) (slot_refuses u (width_of slot.bytes) slot value h)

  walk_refuses : (n : ℕ) (u : IoState) (at value : ℕ) → AreFrom (Of kind) proc at n → first_refusal proc (change u) at value n ≡ first_refusal proc u at value n
  walk_refuses zero u at value h = refl
  walk_refuses (suc n) u at value h =
      ap (λ (stop : Option Stop). option_or stop (first_refusal proc (change u) (at + 1) (value / 2 ^ 8) n)) (begun_refuses u (slot_of proc at) value h.0)
      ∙ ap (option_or (begun_refusal proc u (slot_of proc at) value)) (walk_refuses n u (at + 1) (value / 2 ^ 8) h.1)

  pub refusal_passes : (u : IoState) (at : ℕ) (width : Width) (value : ℕ) → Covers kind proc at width → port_refusal proc (change u) at width value ≡ port_refusal proc u at width value
  unfolding port_refusal
  refusal_passes u at width value h =
      let whole = whole_in width (slot_of proc at) in
      ap (λ (stop : Option Stop). refusal_or proc (change u) width whole value stop) (walk_refuses (width_bytes width) u at value h)
      ∙ or_refuses u width whole value (first_refusal proc u at value (width_bytes width))
      (whole_is (Of kind) width (slot_of proc at) (first_is (Of kind) proc at width h))

-- ---- two states in which registers of a kind read the same

abbrev pub ReadTheSame : (Register → Bool) → Proc → Tick → IoState → IoState → Type 0
ReadTheSame kind proc now u v = (register : Register) (n : ℕ) → kind register ≡ true → (meaning_of register).value proc now v n ≡ (meaning_of register).value proc now u n

module _ (kind : Register → Bool) (proc : Proc) (now : Tick) (u v : IoState) (same : ReadTheSame kind proc now u v) where
  slot_same : (width : Width) (slot : Slot) → kind slot.register ≡ true → slot_value proc now v width slot ≡ slot_value proc now u width slot
  slot_same width slot h = ap (λ (n : ℕ). if ignores width slot.register then 0 else part width slot.byte n) (same slot.register slot.number h)

  or_same : (width : Width) (slot : Option Slot) (other : ℕ) → OfKind kind slot → read_or proc now v width slot other ≡ read_or proc now u width slot other
  or_same width None other h = refl
  or_same width (Some slot) other h = slot_same width slot h

  begun_same : (slot : Option Slot) → OfKind kind slot → begun_value proc now v slot ≡ begun_value proc now u slot
  begun_same None h = refl
  begun_same (Some slot) h = ap (λ (n : ℕ). if slot.byte == 0 then n else 0) (slot_same (width_of slot.bytes) slot h)

  walk_same : (n at : ℕ) → AreFrom (Of kind) proc at n → values_from proc now v at n ≡ values_from proc now u at n
  walk_same zero at h = refl
  walk_same (suc n) at h =
      ap (λ (x : ℕ). x + 2 ^ 8 * values_from proc now v (at + 1) n) (begun_same (slot_of proc at) h.0)
      ∙ ap (λ (x : ℕ). begun_value proc now u (slot_of proc at) + 2 ^ 8 * x) (walk_same n (at + 1) h.1)

  pub value_same : (at : ℕ) (width : Width) → Covers kind proc at width → port_value proc now v at width ≡ port_value proc now u at width
  unfolding port_value
  value_same at width h =
      let whole = whole_in width (slot_of proc at) in
      ap (λ (x : ℕ). read_or proc now v width whole x) (walk_same (width_bytes width) at h)
      ∙ or_same width whole (values_from proc now u at (width_bytes width)) (whole_is (Of kind) width (slot_of proc at) (first_is (Of kind) proc at width h))
