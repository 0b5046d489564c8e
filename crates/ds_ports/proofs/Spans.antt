use Rattle.ds_ports.proofs.Words.{Bool, List, None, PortRow, [], arith, both, false, le_of, nat_le, nat_lt, refl, row_bytes, slot_by, true, ℕ, ◌&&◌}
use Rattle.ds_ports.proofs.Words.{◌+◌, ◌-◌, ◌<◌, ◌∷◌, ◌≡◌, ◌≤◌, ◌⊎◌}

-- The rows of a map rise, so that an offset lies in one of them at most.

-- the rows of a map rise, from an offset on
abbrev pub rise : ℕ → List PortRow → Bool
rise from [] = true
rise from (r ∷ rows) = nat_le from r.offset && rise (r.offset + row_bytes r) rows

-- an offset lies before a row, in it, or past it, and so the test goes
pub lies : (offset bytes at : ℕ) → ((at < offset) × ((nat_le offset at && nat_lt at (offset + bytes)) ≡ false))
    ⊎ (((offset ≤ at) × (at - offset < bytes) × ((nat_le offset at && nat_lt at (offset + bytes)) ≡ true))
    ⊎ ((offset + bytes ≤ at) × ((nat_le offset at && nat_lt at (offset + bytes)) ≡ false)))
lies offset bytes at = grind arith

-- rows that rise from further on have nothing at an offset
pub none_before : (from : ℕ) (rows : List PortRow) (at : ℕ) → rise from rows ≡ true → at < from → slot_by rows at ≡ None
none_before from [] at h lt = refl
none_before from (r ∷ rows) at h lt =
    let two = both (nat_le from r.offset) (rise (r.offset + row_bytes r) rows) h in
    let first = le_of from r.offset two.0 in
    rw (out r.offset (row_bytes r) first) (none_before (r.offset + row_bytes r) rows at two.1 (still r.offset (row_bytes r) first)) where
      out : (offset bytes : ℕ) → from ≤ offset → (nat_le offset at && nat_lt at (offset + bytes)) ≡ false
      out offset bytes first = grind (arith, first, lt)

      still : (offset bytes : ℕ) → from ≤ offset → at < offset + bytes
      still offset bytes first = omega (arith, first, lt)
