use Rattle.ds_map.proofs.Words.{Bool, IfSome, Nine, None, Option, Slot, Some, ap, arith, equal, false, inl, inr, is_observed_port}
use Rattle.ds_map.proofs.Words.{is_observed_register, is_observed_slot, nat_le, nat_lt, neither, not, not_true, refl, slot_of, subst, sym, true, ℕ}
use Rattle.ds_map.proofs.Words.{◌%◌, ◌&&◌, ◌+◌, ◌-◌, ◌/◌, ◌<◌, ◌==◌, ◌∙◌, ◌≡◌, ◌≤◌, ◌⊎◌}
use Rattle.std.specs.Prelude.{◌||◌}
use Rattle.gx_fifo.specs.GxPorts.{display_control_row, engine_first, engine_past, is_engine_port}
use Rattle.ds_ports.proofs.Arms.{is_no_control}
use Rattle.ds_ports.proofs.GxApart.{is_geometry}
use Rattle.ds_ports.proofs.Covered.{slot_is}
use Rattle.ds_ports.proofs.RegisterMaps.{each_place, of_place, slot_by_all}
use Rattle.ds_ports.proofs.Together.{stands_whole}
use Rattle.ds_ports.specs.RegisterMap.{PortRow, StandsWhole, fill_row, register_map, row_bytes}
use Rattle.ds_ports.specs.declared.registers.Register.{Register}
use Rattle.ds_ports.specs.declared.registers.Register.TheVariants.{Dmacnt, GxCommand, GxWord}

-- The bytes of a word that is aligned are observed together; a port that isn't observed is neither geometry's nor a control of a DMA channel's.

-- ---- each register that is observed has four bytes

abbrev place_fits : PortRow → ℕ → Bool
place_fits r place = not (is_observed_register (r.register place)) || (r.bytes == 4)

abbrev HasFour : Slot → Type 0
HasFour s = (not (is_observed_register s.register) || (s.bytes == 4)) ≡ true

slot_fits : (at : ℕ) → IfSome (slot_of Nine at) HasFour
unfolding slot_of
slot_fits at = slot_by_all HasFour (each_place place_fits) (register_map Nine) at refl (λ r h inside le lies. of_place place_fits r (at - r.offset) h inside)

four : (s : Slot) → HasFour s → is_observed_register s.register ≡ true → s.bytes ≡ 4
four s h seen = by_test (is_observed_register s.register) h seen where
  by_test : (b : Bool) → (not b || (s.bytes == 4)) ≡ true → b ≡ true → s.bytes ≡ 4
  by_test true h seen = equal s.bytes 4 h
  by_test false h seen = absurd (grind (arith, seen))

-- ---- so where a byte of one stands, all of its word do

there : (a b : ℕ) (s : Slot) → a / 4 ≡ b / 4 → StandsWhole Nine a s → s.bytes ≡ 4 → is_observed_register s.register ≡ true → is_observed_slot (slot_of Nine b) ≡ true
there a b s e w bytes seen =
    let m : (a - s.byte) % 4 ≡ 0 = subst (λ (n : ℕ). (a - s.byte) % n ≡ 0) bytes w.multiple in
    let f = w.first in
    let l = w.byte in
    let few : s.byte < 4 = omega (arith, l, bytes) in
    let past : a - s.byte ≤ b = omega (arith, m, f, few, e) in
    let near : b - (a - s.byte) < s.bytes = omega (arith, m, f, few, e, bytes) in
    let at : b ≡ a - s.byte + (b - (a - s.byte)) = omega (arith, past) in
    ap (λ (k : ℕ). is_observed_slot (slot_of Nine k)) at ∙ ap is_observed_slot (w.together (b - (a - s.byte)) near) ∙ seen

same_byte : (a b : ℕ) → a / 4 ≡ b / 4 → (slot : Option Slot) → slot_of Nine a ≡ slot → IfSome slot (StandsWhole Nine a) → IfSome slot HasFour
    → is_observed_slot slot ≡ true → is_observed_slot (slot_of Nine b) ≡ true
same_byte a b e None is w h seen = absurd (grind (arith, seen))
same_byte a b e (Some s) is w h seen = there a b s e w (four s h seen) seen

onward : (a b : ℕ) → a / 4 ≡ b / 4 → is_observed_slot (slot_of Nine a) ≡ true → is_observed_slot (slot_of Nine b) ≡ true
onward a b e seen = same_byte a b e (slot_of Nine a) refl (stands_whole Nine a) (slot_fits a) seen

alike : (x y : Bool) → (x ≡ true → y ≡ true) → (y ≡ true → x ≡ true) → x ≡ y
alike true true f g = refl
alike true false f g = sym (f refl)
alike false true f g = g refl
alike false false f g = refl

engine_same : (a b : ℕ) → a / 4 ≡ b / 4 → is_engine_port a ≡ is_engine_port b
engine_same a b e = grind (arith, e)

pub observed_same : (a b : ℕ) → a / 4 ≡ b / 4 → is_observed_port a ≡ is_observed_port b
observed_same a b e =
    rw (engine_same a b e, alike (is_observed_slot (slot_of Nine a)) (is_observed_slot (slot_of Nine b)) (onward a b e) (onward b a (sym e))) refl

-- ---- what a register isn't that isn't observed

module _ (register : Register) (h : is_observed_register register ≡ false) where
  pub not_geometry : is_geometry register ≡ false
  not_geometry = by_register register h where
    by_register : (r : Register) → is_observed_register r ≡ false → is_geometry r ≡ false
    by_register GxWord h = h
    by_register GxCommand h = h
    by_register _ h = refl

  pub not_control : is_no_control register ≡ true
  not_control = by_register register h where
    by_register : (r : Register) → is_observed_register r ≡ false → is_no_control r ≡ true
    by_register Dmacnt h = absurd (grind (arith, h))
    by_register _ h = refl

slot_isnt : (P : Register → Type 0) → ((r : Register) → is_observed_register r ≡ false → P r) → (slot : Option Slot) → is_observed_slot slot ≡ false
    → IfSome slot (λ s. P s.register)
slot_isnt P h None unseen = tt
slot_isnt P h (Some s) unseen = h s.register unseen

pub no_geometry : (at : ℕ) → is_observed_port at ≡ false → IfSome (slot_of Nine at) (λ s. is_geometry s.register ≡ false)
no_geometry at h = slot_isnt (λ r. is_geometry r ≡ false) not_geometry (slot_of Nine at) (neither (is_engine_port at) (is_observed_slot (slot_of Nine at)) h).1

pub no_control : (at : ℕ) → is_observed_port at ≡ false → IfSome (slot_of Nine at) (λ s. is_no_control s.register ≡ true)
no_control at h = slot_isnt (λ r. is_no_control r ≡ true) not_control (slot_of Nine at) (neither (is_engine_port at) (is_observed_slot (slot_of Nine at)) h).1

-- ---- no register is observed that stands elsewhere than from DISP3DCNT up to DMA's, or among geometry's

abbrev lies_between : ℕ → ℕ → ℕ → ℕ → Bool
lies_between first past offset bytes = nat_le first offset && nat_le (offset + bytes) past

abbrev is_near : ℕ → ℕ → Bool
is_near offset bytes = lies_between display_control_row.first fill_row.offset offset bytes || lies_between engine_first engine_past offset bytes

abbrev stands_near : PortRow → Bool
stands_near r = is_near r.offset (row_bytes r)

-- an offset at which nothing of the sort stands
abbrev IsFar : ℕ → Type 0
IsFar at = (at < display_control_row.first) ⊎ (((fill_row.offset ≤ at) × (at < engine_first)) ⊎ (engine_past ≤ at))

elsewhere : (offset bytes at : ℕ) → is_near offset bytes ≡ true → IsFar at → (nat_le offset at && nat_lt at (offset + bytes)) ≡ false
elsewhere offset bytes at h far = grind (arith, h, far)

unseen : (slot : Option Slot) → IfSome slot (λ s. not (is_observed_register s.register) ≡ true) → is_observed_slot slot ≡ false
unseen None h = refl
unseen (Some s) h = not_true (is_observed_register s.register) h

engine_elsewhere : (at : ℕ) → IsFar at → is_engine_port at ≡ false
engine_elsewhere at far = grind (arith, far)

unobserved : (at : ℕ) → IsFar at → is_observed_port at ≡ false
unobserved at far =
    let none = slot_is stands_near (λ r. not (is_observed_register r)) Nine at refl (λ r h. elsewhere r.offset (row_bytes r) at h far) in
    rw (engine_elsewhere at far, unseen (slot_of Nine at) none) refl

pub unobserved_below : (at : ℕ) → at < display_control_row.first → is_observed_port at ≡ false
unobserved_below at l = unobserved at (inl l)

-- past DMA's, what is observed is geometry's
pub observed_above : (at : ℕ) → fill_row.offset ≤ at → is_observed_port at ≡ is_engine_port at
observed_above at f = by_engine (is_engine_port at) refl where
  by_engine : (b : Bool) → is_engine_port at ≡ b → is_observed_port at ≡ is_engine_port at
  by_engine true e = rw e refl
  by_engine false e =
      let far : (at < engine_first) ⊎ (engine_past ≤ at) = grind (arith, e) in
      elim far [ inl l ↦ unobserved at (inr (inl (f, l))) | inr past ↦ unobserved at (inr (inr past)) ] ∙ sym e
