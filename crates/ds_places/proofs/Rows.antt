use Rattle.std.proofs.Common.{ℕ, ◌≡◌, ◌<◌, ◌≤◌, ◌+◌, ◌-◌, ◌/◌, ◌%◌, ◌⊎◌, inl, inr, true, false, ◌&&◌, nat_le, refl, sym, ◌∙◌, arith}
use Rattle.ds_base.specs.Memories.{memory_size}
use Rattle.ds_base.specs.declared.memories.Memory.TheVariants.{Main, Own7}
use Rattle.ds_base.specs.declared.processors.Proc.{Proc}
use Rattle.ds_base.specs.declared.processors.Proc.TheVariants.{Nine, Seven}
use Rattle.ds_places.specs.AddressTables.{place_of}
use Rattle.ds_places.specs.declared.kinds.Place.TheVariants.{Cell, Port}

-- An address of main memory is a cell of it, and one of the ports is one of them, for both processors; one of ARM7's own work RAM is a cell of that.

pub in_row : (first last at : ℕ) → first ≤ at → at ≤ last → (nat_le first at && nat_le at last) ≡ true
in_row first last at low high = grind (arith, low, high)

pub past_row : (first last at : ℕ) → last < at → (nat_le first at && nat_le at last) ≡ false
past_row first last at h = grind arith

pub main_place : (proc : Proc) (wramcnt at : ℕ) → 0x02000000 ≤ at → at ≤ 0x02FFFFFF
    → place_of proc wramcnt at ≡ Cell Main (0 + (at - 0x02000000) % memory_size Main)
main_place Nine wramcnt at low high = rw (in_row 0x02000000 0x02FFFFFF at low high) refl
main_place Seven wramcnt at low high = rw (past_row 0x00000000 0x00003FFF at (omega (arith, low)), in_row 0x02000000 0x02FFFFFF at low high) refl

pub own_place : (wramcnt at : ℕ) → 0x03800000 ≤ at → at ≤ 0x03FFFFFF → place_of Seven wramcnt at ≡ Cell Own7 (0 + (at - 0x03800000) % memory_size Own7)
own_place wramcnt at low high = rw (
  past_row 0x00000000 0x00003FFF at (omega (arith, low)),
  past_row 0x02000000 0x02FFFFFF at (omega (arith, low)),
  past_row 0x03000000 0x037FFFFF at (omega (arith, low)),
  in_row 0x03800000 0x03FFFFFF at low high,
) refl

pub port_place : (proc : Proc) (wramcnt at : ℕ) → 0x04000000 ≤ at → at ≤ 0x04FFFFFF → place_of proc wramcnt at ≡ Port (at - 0x04000000)
port_place Nine wramcnt at low high = rw (
  past_row 0x02000000 0x02FFFFFF at (omega (arith, low)),
  past_row 0x03000000 0x03FFFFFF at (omega (arith, low)),
  in_row 0x04000000 0x04FFFFFF at low high,
) refl
port_place Seven wramcnt at low high = rw (
  past_row 0x00000000 0x00003FFF at (omega (arith, low)),
  past_row 0x02000000 0x02FFFFFF at (omega (arith, low)),
  past_row 0x03000000 0x037FFFFF at (omega (arith, low)),
  past_row 0x03800000 0x03FFFFFF at (omega (arith, low)),
  in_row 0x04000000 0x04FFFFFF at low high,
) refl

-- ---- tests against a row whose bounds are those of words: the four bytes of a word that is aligned lie in it together

pub le_cases : (x y : ℕ) → ((x ≤ y) × (nat_le x y ≡ true)) ⊎ ((y < x) × (nat_le x y ≡ false))
le_cases x y = grind arith

pub from_same : (a b first : ℕ) → first % 4 ≡ 0 → a / 4 ≡ b / 4 → nat_le first a ≡ nat_le first b
from_same a b first h e = elim (le_cases first a) [
  | inl x ↦ elim (le_cases first b) [ inl y ↦ x.1 ∙ sym y.1 | inr y ↦ (let p = x.0 in let q = y.0 in absurd (omega (arith, h, e, p, q))) ]
  | inr x ↦ elim (le_cases first b) [ inl y ↦ (let p = x.0 in let q = y.0 in absurd (omega (arith, h, e, p, q))) | inr y ↦ x.1 ∙ sym y.1 ]
]

pub upto_same : (a b last : ℕ) → last % 4 ≡ 3 → a / 4 ≡ b / 4 → nat_le a last ≡ nat_le b last
upto_same a b last h e = elim (le_cases a last) [
  | inl x ↦ elim (le_cases b last) [ inl y ↦ x.1 ∙ sym y.1 | inr y ↦ (let p = x.0 in let q = y.0 in absurd (omega (arith, h, e, p, q))) ]
  | inr x ↦ elim (le_cases b last) [ inl y ↦ (let p = x.0 in let q = y.0 in absurd (omega (arith, h, e, p, q))) | inr y ↦ x.1 ∙ sym y.1 ]
]
