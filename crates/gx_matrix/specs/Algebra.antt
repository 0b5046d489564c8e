use Rattle.std.specs.Prelude.{ℕ, ◌+◌, ◌*◌, ◌==◌, ◌&&◌, nat_lt, if◌then◌else◌, ℤ, pos, List, [], ◌∷◌, ◌++◌, slice_index}
use Rattle.std.specs.Int.{cast_signed, w32}
use Rattle.line_lanes.specs.Matrices.{row_of, column_of, dot4}
use Rattle.line_lanes.specs.declared.matrices.Matrix.{Matrix}

-- Matrix algebra (GBATEK, "DS 3D Matrix Types")

-- the matrix whose cells a rule gives by row and column
abbrev pub row_of_rule : (ℕ → ℕ → ℤ) → ℕ → List ℤ
row_of_rule rule r = rule r 0 ∷ rule r 1 ∷ rule r 2 ∷ rule r 3 ∷ []

abbrev pub matrix_by : (ℕ → ℕ → ℤ) → Matrix
matrix_by rule = record { cells = row_of_rule rule 0 ++ row_of_rule rule 1 ++ row_of_rule rule 2 ++ row_of_rule rule 3 }

-- the product A B: the cell of a row and a column is that row of A times that column of B
unfoldable pub product : Matrix → Matrix → Matrix
product a b = matrix_by (λ r c. dot4 (row_of a r) (column_of b c))

-- the identity
abbrev pub one : ℕ → ℕ → ℤ
one r c = if r == c then pos 4096 else pos 0

unfoldable pub identity : Matrix
identity = matrix_by one

-- a parameter is a signed word
abbrev pub signed_parameter : List ℕ → ℕ → ℤ
signed_parameter params i = cast_signed w32 (slice_index params i)

-- A matrix whose first rows and columns parameters give, row by row; the other cells are those of the identity. So 4 by 4, 4 by 3 and 3 by 3
-- (GBATEK, "DS 3D Matrix Types": the last column of 4 by 3 is 0, 0, 0, 1.0).
unfoldable pub given_cell : ℕ → ℕ → List ℕ → ℕ → ℕ → ℤ
given_cell rows columns params r c = if nat_lt r rows && nat_lt c columns then signed_parameter params (columns * r + c) else one r c

unfoldable pub given : ℕ → ℕ → List ℕ → Matrix
given rows columns params = matrix_by (given_cell rows columns params)

-- the matrix that scales by three numbers, which stand on its diagonal (GBATEK, "DS 3D Matrix Load/Multiply", MTX_SCALE)
unfoldable pub scaling_cell : List ℕ → ℕ → ℕ → ℤ
scaling_cell params r c = if (r == c) && nat_lt r 3 then signed_parameter params r else one r c

unfoldable pub scaling : List ℕ → Matrix
scaling params = matrix_by (scaling_cell params)

-- the matrix that moves by three numbers, which stand in its last row (GBATEK, "DS 3D Matrix Load/Multiply", MTX_TRANS)
unfoldable pub translation_cell : List ℕ → ℕ → ℕ → ℤ
translation_cell params r c = if (r == 3) && nat_lt c 3 then signed_parameter params c else one r c

unfoldable pub translation : List ℕ → Matrix
translation params = matrix_by (translation_cell params)
