use Rattle.std.specs.Prelude.{ℕ, ◌*◌, ◌/◌, ◌%◌, ◌^◌, ◌==◌, if◌then◌else◌, false, ℤ, pos, ◌+ℤ◌, ◌*ℤ◌, List, [], ◌∷◌, replicate, slice_index}
use Rattle.std.specs.Int.{cast_signed, int_wrap, w16}
use Rattle.gx_matrix.specs.Commands.{signed_bits, stacks_at_boot}
use Rattle.gx_matrix.specs.declared.commands.GeometryCommand.{GeometryCommand}
use Rattle.gx_matrix.specs.declared.commands.GeometryCommand.TheVariants.{Vtx16, Vtx10, VtxXy, VtxXz, VtxYz, VtxDiff}
use Rattle.gx_geometry.specs.declared.numbers.Coordinates.{Coordinates}
use Rattle.gx_geometry.specs.declared.numbers.Light.{Light}
use Rattle.gx_geometry.specs.declared.numbers.Numbers.{Numbers}
use Rattle.gx_geometry.specs.declared.numbers.Point.{Point}
use Rattle.gx_geometry.specs.declared.numbers.Kind.{Kind}
use Rattle.gx_geometry.specs.declared.numbers.Kind.TheVariants.{Triangles, Quads, TriangleStrip, QuadStrip}

-- The fields of parameters (GBATEK, "DS 3D Polygon Definitions by Vertices")

-- the two signed halves of a word
abbrev pub low_half : ℕ → ℤ
low_half word = cast_signed w16 (word % 2 ^ 16)

abbrev pub high_half : ℕ → ℤ
high_half word = cast_signed w16 (word / 2 ^ 16)

-- one of three signed numbers of ten bits
abbrev pub ten : ℕ → ℕ → ℤ
ten i word = signed_bits (10 * i) 10 word

-- the kind of the polygons that a run makes (GBATEK, BEGIN_VTXS)
abbrev pub kind_of : ℕ → Kind
kind_of n = if n == 0 then Triangles else (if n == 1 then Quads else (if n == 2 then TriangleStrip else QuadStrip))

-- the current vertex's x, y and z after a vertex command; what it doesn't give stays, and sums wrap (GBATEK, VTX_16, VTX_10, VTX_XY, VTX_XZ,
-- VTX_YZ, VTX_DIFF)
abbrev pub given_point : ℤ → ℤ → ℤ → Point
given_point x y z = record { x = x; y = y; z = z }

unfoldable pub point_by_halves : List ℕ → Point
point_by_halves params = given_point (low_half (slice_index params 0)) (high_half (slice_index params 0)) (low_half (slice_index params 1))

unfoldable pub point_by_tens : ℕ → Point
point_by_tens word = given_point (ten 0 word *ℤ pos 64) (ten 1 word *ℤ pos 64) (ten 2 word *ℤ pos 64)

unfoldable pub point_moved : ℕ → Point → Point
point_moved word p =
    given_point (int_wrap w16 (p.x +ℤ ten 0 word)) (int_wrap w16 (p.y +ℤ ten 1 word)) (int_wrap w16 (p.z +ℤ ten 2 word))

unfoldable pub point_by_word : GeometryCommand → ℕ → Point → Point
point_by_word Vtx10 word p = point_by_tens word
point_by_word VtxXy word p = given_point (low_half word) (high_half word) p.z
point_by_word VtxXz word p = given_point (low_half word) p.y (high_half word)
point_by_word VtxYz word p = given_point p.x (low_half word) (high_half word)
point_by_word VtxDiff word p = point_moved word p
point_by_word _ word p = p

unfoldable pub point_after : GeometryCommand → List ℕ → Point → Point
point_after Vtx16 params p = point_by_halves params
point_after command params p = point_by_word command (slice_index params 0) p

-- At boot all is 0, and the kind is triangles (our choice); the matrices and their stacks are as `stacks_at_boot` has them.
abbrev pub no_light : Light
no_light = record { x = pos 0; y = pos 0; z = pos 0; colour = 0 }

abbrev pub no_coordinates : Coordinates
no_coordinates = record { s = pos 0; t = pos 0 }

unfoldable pub no_table : List ℕ
no_table = replicate 128 0

unfoldable pub numbers_at_boot : Numbers
numbers_at_boot = record {
  stacks = stacks_at_boot;
  colour = 0;
  point = given_point (pos 0) (pos 0) (pos 0);
  raw = no_coordinates;
  coordinates = no_coordinates;
  set = 0;
  attributes = 0;
  texture = 0;
  palette = 0;
  viewport = 0;
  material = record { diffuse = 0; ambient = 0; specular = 0; emission = 0; by_table = false };
  table = no_table;
  lights = no_light ∷ no_light ∷ no_light ∷ no_light ∷ [];
  kind = Triangles;
  run = 0;
  parameter = 0;
}
