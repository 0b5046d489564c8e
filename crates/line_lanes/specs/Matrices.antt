use Rattle.std.specs.Prelude.{ℕ, ◌+◌, ◌*◌, ℤ, pos, ◌+ℤ◌, ◌*ℤ◌, List, [], ◌∷◌, slice_index_or}
use Rattle.std.specs.Int.{int_div_euclid, int_wrap, w32}
use Rattle.line_lanes.specs.declared.matrices.Matrix.{Matrix}

-- Rows, columns and their products (GBATEK, "DS 3D Matrix Types"). Numbers are signed words with 12 fractional bits, sums of products are
-- exact whole numbers, and vectors are rows: a vector v goes through a matrix A and then through B as v A B.

-- the number at a place of a row or a column
abbrev pub at : List ℤ → ℕ → ℤ
at numbers i = slice_index_or numbers i (pos 0)

-- the cell of a row and a column
abbrev pub cell : Matrix → ℕ → ℕ → ℤ
cell m r c = at m.cells (4 * r + c)

abbrev pub row_of : Matrix → ℕ → List ℤ
row_of m r = cell m r 0 ∷ cell m r 1 ∷ cell m r 2 ∷ cell m r 3 ∷ []

abbrev pub column_of : Matrix → ℕ → List ℤ
column_of m c = cell m 0 c ∷ cell m 1 c ∷ cell m 2 c ∷ cell m 3 c ∷ []

-- an exact sum of products, which has 24 fractional bits, as a cell: floor(sum / 4096), wrapped to a signed word (our choice of rounding)
unfoldable pub cell_of_sum : ℤ → ℤ
cell_of_sum sum = int_wrap w32 (int_div_euclid sum (pos 4096))

-- the exact sum of the products of a row and a column
abbrev pub sum_of_products : List ℤ → List ℤ → ℤ
sum_of_products row column =
    (((at row 0 *ℤ at column 0) +ℤ (at row 1 *ℤ at column 1)) +ℤ (at row 2 *ℤ at column 2)) +ℤ (at row 3 *ℤ at column 3)

-- a row times a column
unfoldable pub dot4 : List ℤ → List ℤ → ℤ
dot4 row column = cell_of_sum (sum_of_products row column)

-- a row times a matrix: times each of its columns
unfoldable pub transform4 : List ℤ → Matrix → List ℤ
transform4 row m = dot4 row (column_of m 0) ∷ dot4 row (column_of m 1) ∷ dot4 row (column_of m 2) ∷ dot4 row (column_of m 3) ∷ []
