use Rattle.video2d.proofs.Words.{A, B, DisplayRow, Engine, Format, List, None, Option, Some, Width, engine_bytes, engine_row_at, keeps_mask}
use Rattle.video2d.proofs.Words.{number_at, number_code, ports_format, refl, row_width, suc, width_bytes, with_number, zero, zeroes, ℕ, ◌+◌, ◌≡◌}
use Rattle.ds_state.specs.Formats.{then_field, done}

-- The code goes over an engine's offsets, two or four bytes at a time, and past those where no register begins: it meets the rows' registers.

-- one that begins at an offset, and what comes after it
abbrev pub register_field : Width → ℕ → ℕ → List ℕ → (ℕ → List ℕ → Format (List ℕ) (List ℕ)) → Format (List ℕ) (List ℕ)
register_field width kept at made next =
    then_field (number_code (width_bytes width)) (λ ports. number_at width ports at) (keeps_mask kept)
    (λ value. next (at + width_bytes width) (with_number width made at value))

abbrev pub register_if : Option DisplayRow → ℕ → List ℕ → (ℕ → List ℕ → Format (List ℕ) (List ℕ)) → Format (List ℕ) (List ℕ)
register_if None at made next = next (at + 2) made
register_if (Some row) at made next = register_field (row_width row) row.kept at made next

-- those from an offset on; none begins at an odd one
abbrev pub registers_from : Engine → ℕ → ℕ → List ℕ → Format (List ℕ) (List ℕ)
registers_from which zero at made = done made
registers_from which (suc steps) at made = register_if (engine_row_at which at) at made (registers_from which steps)

pub walked : (which : Engine) → ports_format which ≡ registers_from which 56 0 (zeroes engine_bytes)
unfolding ports_format
walked A = refl
walked B = refl
