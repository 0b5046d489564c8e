use Rattle.ds_ports.proofs.Words.{Bool, GxCommand, GxPort, GxWord, List, Option, Slot, Some, [], ap, arith, false, gx_port, if◌then◌else◌, nat_le}
use Rattle.ds_ports.proofs.Words.{nat_lt, refl, slot_among, slot_by, slot_in, sym, true, ℕ, ◌%◌, ◌&&◌, ◌*◌, ◌+◌, ◌-◌, ◌/◌, ◌∙◌, ◌∷◌, ◌≡◌, ◌≤◌}
use Rattle.std.proofs.Common.{map}
use Rattle.ds_base.specs.Numbers.{is_within}
use Rattle.ds_ports.specs.Parts.{port_slot, word_slot}
use Rattle.ds_ports.specs.RegisterMap.{geometry_rows, gx_row}
use Rattle.gx_fifo.specs.GxPorts.{GxPortRow, display_control_row, engine_first, engine_rows, port_among}

-- The rows of the map that are geometry's are looked up in geometry's own table.

-- rows of whole words whose ports take commands where the row says so
abbrev AreAlike : List GxPortRow → Type 0
AreAlike [] = Unit {0}
AreAlike (r ∷ rows) =
    (r.first % 4 ≡ 0) × ((place at : ℕ) → port_slot (r.port place) at ≡ Some (word_slot (if r.takes_commands then GxCommand else GxWord) at))
    × AreAlike rows

both_there : (first words at : ℕ) → (nat_le first at && nat_lt at (first + words * 4)) ≡ is_within first (4 * words) at
both_there first words at = grind arith

from_first : (first bytes at : ℕ) → is_within first bytes at ≡ true → first ≤ at
from_first first bytes at h = grind (arith, h)

same_number : (first at : ℕ) → first % 4 ≡ 0 → first ≤ at → first + 4 * ((at - first) / 4) ≡ at / 4 * 4
same_number first at h l = omega (arith, h, l)

same_byte : (first at : ℕ) → first % 4 ≡ 0 → first ≤ at → (at - first) % 4 ≡ at % 4
same_byte first at h l = omega (arith, h, l)

in_row : (r : GxPortRow) (at : ℕ) → r.first % 4 ≡ 0 → r.first ≤ at
    → slot_in (gx_row r) (at - r.first) ≡ word_slot (if r.takes_commands then GxCommand else GxWord) at
in_row r at h l = rw (same_number r.first at h l, same_byte r.first at h l) refl

by_case : (r : GxPortRow) (at : ℕ) (here : Bool) → is_within r.first (4 * r.words) at ≡ here → (rest : Option Slot) (others : GxPort) → r.first % 4 ≡ 0
    → ((place i : ℕ) → port_slot (r.port place) i ≡ Some (word_slot (if r.takes_commands then GxCommand else GxWord) i)) → rest ≡ port_slot others at
    → (if here then Some (slot_in (gx_row r) (at - r.first)) else rest) ≡ port_slot (if here then r.port ((at - r.first) / 4) else others) at
by_case r at true e rest others h alike same =
    ap (λ (s : Slot). (let found : Option Slot = Some s in found)) (in_row r at h (from_first r.first (4 * r.words) at e)) ∙ sym (alike ((at - r.first) / 4) at)
by_case r at false e rest others h alike same = same

by_rows : (rows : List GxPortRow) (at : ℕ) → AreAlike rows → slot_by (map gx_row rows) at ≡ port_slot (port_among rows at) at
by_rows [] at h = refl
by_rows (r ∷ rows) at h =
    ap (λ (here : Bool). if here then Some (slot_in (gx_row r) (at - r.first)) else slot_by (map gx_row rows) at) (both_there r.first r.words at)
    ∙ by_case r at (is_within r.first (4 * r.words) at) refl (slot_by (map gx_row rows) at) (port_among rows at) h.0 h.1 (by_rows rows at h.2)

are_alike : AreAlike engine_rows
are_alike = (
  refl,
  (λ i at. refl),
  (
    refl,
    (λ i at. refl),
    (
      refl,
      (λ i at. refl),
      (
        refl,
        (λ i at. refl),
        (
          refl,
          (λ i at. refl),
          (
            refl,
            (λ i at. refl),
            (refl, (λ i at. refl), (refl, (λ i at. refl), tt)),
          ),
        ),
      ),
    ),
  ),
)

-- past DISP3DCNT
pub among_ports : (at : ℕ) → engine_first ≤ at → slot_among geometry_rows at ≡ port_slot (gx_port at) at
unfolding slot_among gx_port
among_ports at l =
    let past : is_within display_control_row.first (4 * display_control_row.words) at ≡ false = grind (arith, l) in
    by_rows engine_rows at are_alike ∙ rw past refl
