use Rattle.ds_ports.proofs.Words.{Bool, List, Option, Slot, Some, [], ap, arith, display_row, false, has_byte, if◌then◌else◌, nat_le, nat_lt, refl}
use Rattle.ds_ports.proofs.Words.{row_among, row_bytes, slot_among, slot_by, slot_from, slot_in, true, ℕ, ◌&&◌, ◌+◌, ◌-◌, ◌∙◌, ◌∷◌, ◌≡◌, ◌≤◌}
use Rattle.ds_ports.specs.RegisterMap.{display_port, display_ports}
use Rattle.video2d.specs.declared.display_registers.DisplayRegister.{DisplayRegister}
use Rattle.video2d.specs.declared.display_registers.DisplayRow.{DisplayRow}

-- The rows of the map that are the display's are looked up in the display's own table.

same_place : (base first bytes at : ℕ) → base ≤ at →
    (nat_le (base + first) at && nat_lt at (base + first + bytes)) ≡ (nat_le first (at - base) && nat_lt (at - base) (first + bytes))
same_place base first bytes at l = grind (arith, l)

by_case : (here : Bool) (base at : ℕ) (row : DisplayRow) (rest : Option Slot) (others : Option DisplayRow) → rest ≡ slot_from base at others
    → (if here then Some (slot_in (display_port base row) (at - (base + row.first))) else rest) ≡ slot_from base at (if here then Some row else others)
by_case true base at row rest others h = refl
by_case false base at row rest others h = h

by_rows : (base : ℕ) (registers : List DisplayRegister) (at : ℕ) → base ≤ at
    → slot_by (display_ports base registers) at ≡ slot_from base at (row_among registers (at - base))
by_rows base [] at l = refl
by_rows base (register ∷ registers) at l =
    let row : DisplayRow = display_row register in
    ap (λ here. if here then Some (slot_in (display_port base row) (at - (base + row.first))) else slot_by (display_ports base registers) at)
    (same_place base row.first (row_bytes (display_port base row)) at l)
    ∙ by_case (has_byte row (at - base)) base at row (slot_by (display_ports base registers) at) (row_among registers (at - base)) (by_rows base registers at l)

pub among_rows : (base : ℕ) (registers : List DisplayRegister) (at : ℕ) → base ≤ at
    → slot_among (display_ports base registers) at ≡ slot_from base at (row_among registers (at - base))
unfolding slot_among
among_rows base registers at l = by_rows base registers at l
