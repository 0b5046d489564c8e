use Rattle.std.proofs.Common.{ℕ, ◌≡◌, ◌<◌, ◌+◌, ◌-◌, ◌*◌, ◌/◌, ◌%◌, ◌^◌, ℤ, pos, negsuc, ◌+ℤ◌, ◌*ℤ◌, List, sym, ◌∙◌, ap, arith}
use Rattle.std.specs.Int.{cast_signed, cast_unsigned, int_wrap, w32, w64}
use Rattle.std.specs.Int.RustNames.{FitsSigned}
use Rattle.std.proofs.lemmas.Int.{of_z-to_z, wrapping_add_is, wrapping_mul_is, int_wrap-add_left, int_wrap-add_right, SFits-int_wrap}
use Rattle.line_lanes.specs.Lanes.{sum_cell, AreSignedWords}
use Rattle.line_lanes.specs.Matrices.{at, cell_of_sum, dot4}

low_of : (n : ℕ) → n % 2 ^ 64 / 4096 % 2 ^ 32 ≡ n / 4096 % 2 ^ 32
low_of n = omega arith

top_of : (n : ℕ) → (2 ^ 64 - 1 - n % 2 ^ 64) / 4096 % 2 ^ 32 ≡ 2 ^ 32 - 1 - n / 4096 % 2 ^ 32
top_of n = omega arith

below : (n : ℕ) → n % 2 ^ 64 < 2 ^ 64
below n = omega arith

below_top : (n : ℕ) → 2 ^ 64 - 1 - n % 2 ^ 64 < 2 ^ 64
below_top n = omega arith

-- what 64 bits hold of a number
abbrev held : ℤ → ℕ
held z = cast_unsigned w64 (int_wrap w64 z)

-- a sum of 64 bits that wrapped has the cell of the exact sum
cell_of_held : (z : ℤ) → cast_signed w32 (held z / 4096 % 2 ^ 32) ≡ cell_of_sum z
unfolding int_wrap cell_of_sum
cell_of_held (pos n) = ap (λ (m : ℕ). cast_signed w32 (m / 4096 % 2 ^ 32)) (of_z-to_z w64 (n % 2 ^ 64) (below n)) ∙ ap (cast_signed w32) (low_of n)
cell_of_held (negsuc n) = ap (λ (m : ℕ). cast_signed w32 (m / 4096 % 2 ^ 32)) (of_z-to_z w64 (2 ^ 64 - 1 - n % 2 ^ 64) (below_top n)) ∙ ap (cast_signed w32) (top_of n)

-- products and sums that wrap hold what 64 bits hold of the exact ones
held_product : (a b : ℤ) → FitsSigned w64 a → FitsSigned w64 b → cast_unsigned w64 a * cast_unsigned w64 b % 2 ^ 64 ≡ held (a *ℤ b)
held_product a b f g =
    sym (of_z-to_z w64 (cast_unsigned w64 a * cast_unsigned w64 b % 2 ^ 64) (below (cast_unsigned w64 a * cast_unsigned w64 b)))
    ∙ ap (cast_unsigned w64) (wrapping_mul_is w64 a b f g)

held_sum : (x y : ℤ) → (held x + held y) % 2 ^ 64 ≡ held (x +ℤ y)
held_sum x y =
    sym (of_z-to_z w64 ((held x + held y) % 2 ^ 64) (below (held x + held y)))
    ∙ ap (cast_unsigned w64)
    (wrapping_add_is w64 (int_wrap w64 x) (int_wrap w64 y) (SFits-int_wrap w64 x) (SFits-int_wrap w64 y)
    ∙ int_wrap-add_left w64 x (int_wrap w64 y) ∙ int_wrap-add_right w64 x y)

-- words fit 64 bits
fits_wide : (z : ℤ) → FitsSigned w32 z → FitsSigned w64 z
fits_wide z f = record { sfits = omega (arith, f.sfits) }

-- the product of two numbers at a place
abbrev lane : List ℤ → List ℤ → ℕ → ℕ
lane row column i = cast_unsigned w64 (at row i) * cast_unsigned w64 (at column i) % 2 ^ 64

module _ (row column : List ℤ) (rows : AreSignedWords row) (columns : AreSignedWords column) where
  held_lane : (i : ℕ) → FitsSigned w32 (at row i) → FitsSigned w32 (at column i) → lane row column i ≡ held (at row i *ℤ at column i)
  held_lane i f g = held_product (at row i) (at column i) (fits_wide (at row i) f) (fits_wide (at column i) g)

  -- four lanes added up give a row times a column
  pub cell_of_lanes :
      sum_cell ((((lane row column 0 + lane row column 1) % 2 ^ 64 + lane row column 2) % 2 ^ 64 + lane row column 3) % 2 ^ 64) ≡ dot4 row column
  unfolding dot4
  cell_of_lanes =
      let two : ℤ = (at row 0 *ℤ at column 0) +ℤ (at row 1 *ℤ at column 1) in
      let three : ℤ = two +ℤ (at row 2 *ℤ at column 2) in
      rw (
        held_lane 0 rows.0 columns.0,
        held_lane 1 rows.1 columns.1,
        held_lane 2 rows.2 columns.2,
        held_lane 3 rows.3 columns.3,
        held_sum (at row 0 *ℤ at column 0) (at row 1 *ℤ at column 1),
        held_sum two (at row 2 *ℤ at column 2),
        held_sum three (at row 3 *ℤ at column 3),
      )
      (cell_of_held (three +ℤ (at row 3 *ℤ at column 3)))

-- a sum of lanes begins with 0
pub from_zero : (n : ℕ) → (0 + n % 2 ^ 64) % 2 ^ 64 ≡ n % 2 ^ 64
from_zero n = omega arith
