use Rattle.std.specs.Prelude.{ℕ, ◌-◌, nat_lt, if◌then◌else◌, ℤ, pos, negsuc, unsigned_abs, ◌+ℤ◌, ◌*ℤ◌, List, [], ◌∷◌}
use Rattle.std.specs.Int.{int_div_euclid, int_rem_euclid, int_wrap, w16}
use Rattle.ds_base.specs.Bits.{bits}
use Rattle.line_lanes.specs.Matrices.{cell, column_of, dot4}
use Rattle.line_lanes.specs.declared.matrices.Matrix.{Matrix}
use Rattle.gx_geometry.specs.declared.numbers.Coordinates.{Coordinates}
use Rattle.gx_geometry.specs.declared.numbers.Point.{Point}
use Rattle.gx_geometry.specs.Numbers.{ten}

-- Texture coordinates (GBATEK, "DS 3D Texture Coordinates"; the roundings are our choice), and the vector test, which sums the same way

-- the mode of the transform: bits 30 and 31 of the texture parameter
abbrev pub transform_mode : ℕ → ℕ
transform_mode texture = bits 30 2 texture

-- three numbers times the first three cells of a column, exact
unfoldable pub with_three : ℤ → ℤ → ℤ → Matrix → ℕ → ℤ
with_three a b c m j = ((a *ℤ cell m 0 j) +ℤ (b *ℤ cell m 1 j)) +ℤ (c *ℤ cell m 2 j)

-- floor(sum / divisor), wrapped to a signed half
unfoldable pub half_of_sum : ℕ → ℤ → ℤ
half_of_sum divisor sum = int_wrap w16 (int_div_euclid sum (pos divisor))

-- mode 1: the row s, t, 1, 1, in sixteenths, times a column, wrapped to a signed half
abbrev pub coordinate_given : Coordinates → List ℤ → ℤ
coordinate_given raw column = int_wrap w16 (dot4 (raw.s ∷ raw.t ∷ pos 1 ∷ pos 1 ∷ []) column)

unfoldable pub by_coordinates : Coordinates → Matrix → Coordinates
by_coordinates raw m = record { s = coordinate_given raw (column_of m 0); t = coordinate_given raw (column_of m 1) }

-- modes 2 and 3: three numbers, added to the coordinates
abbrev pub coordinate_moved : ℕ → ℤ → ℤ → ℤ → Matrix → ℕ → ℤ → ℤ
coordinate_moved divisor a b c m j base = int_wrap w16 (half_of_sum divisor (with_three a b c m j) +ℤ base)

-- mode 2: those of the normal, by 2 ^ 17
unfoldable pub by_normal : ℕ → Coordinates → Matrix → Coordinates
by_normal word raw m = record {
  s = coordinate_moved 131072 (ten 0 word) (ten 1 word) (ten 2 word) m 0 raw.s;
  t = coordinate_moved 131072 (ten 0 word) (ten 1 word) (ten 2 word) m 1 raw.t;
}

-- mode 3: those of the vertex, by 2 ^ 20
unfoldable pub by_vertex : Point → Coordinates → Matrix → Coordinates
by_vertex p raw m = record {
  s = coordinate_moved 1048576 p.x p.y p.z m 0 raw.s;
  t = coordinate_moved 1048576 p.x p.y p.z m 1 raw.t;
}

-- the vector test: floor(sum / 512), wrapped to a signed number of 13 bits (GBATEK, VEC_TEST)
abbrev pub signed_13 : ℕ → ℤ
signed_13 n = if nat_lt n 4096 then pos n else negsuc (8191 - n)

unfoldable pub tested_of_sum : ℤ → ℤ
tested_of_sum sum = signed_13 (unsigned_abs (int_rem_euclid (int_div_euclid sum (pos 512)) (pos 8192)))

abbrev pub tested_cell : ℕ → Matrix → ℕ → ℤ
tested_cell word m j = tested_of_sum (with_three (ten 0 word) (ten 1 word) (ten 2 word) m j)

unfoldable pub vector_test : ℕ → Matrix → List ℤ
vector_test word m = tested_cell word m 0 ∷ tested_cell word m 1 ∷ tested_cell word m 2 ∷ []
