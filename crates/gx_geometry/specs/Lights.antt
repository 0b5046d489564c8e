use Rattle.std.specs.Prelude.{ℕ, ◌+◌, ◌*◌, ◌/◌, ◌^◌, if◌then◌else◌, min, ℤ, pos, negsuc, neg_ℤ, ◌+ℤ◌, ◌-ℤ◌, ◌*ℤ◌, List, [], ◌∷◌, slice_index, slice_index_or}
use Rattle.std.specs.Int.{int_div_euclid}
use Rattle.ds_base.specs.Bits.{bits, bit}
use Rattle.line_lanes.specs.Matrices.{at, transform4}
use Rattle.line_lanes.specs.declared.matrices.Matrix.{Matrix}
use Rattle.gx_geometry.specs.declared.numbers.Light.{Light}
use Rattle.gx_geometry.specs.declared.numbers.Material.{Material}
use Rattle.gx_geometry.specs.declared.numbers.Numbers.{Numbers}
use Rattle.gx_geometry.specs.declared.lights.Levels.{Levels}
use Rattle.gx_geometry.specs.Numbers.{ten, no_light}

-- Lighting (GBATEK, "DS 3D Polygon Light Parameters"; the roundings are our choice)

-- a normal or a light vector, with 9 fractional bits, as a row, turned by the vector matrix
unfoldable pub turned : ℕ → Matrix → List ℤ
turned word m = transform4 (ten 0 word ∷ ten 1 word ∷ ten 2 word ∷ pos 0 ∷ []) m

-- the sum of the products of two directions, exact
abbrev pub dot : ℤ → ℤ → ℤ → List ℤ → ℤ
dot x y z n = ((x *ℤ at n 0) +ℤ (y *ℤ at n 1)) +ℤ (z *ℤ at n 2)

-- how far a direction faces the other: floor(-sum / 512), held to 0 to 511
abbrev pub held_to_511 : ℤ → ℕ
held_to_511 (pos n) = min n 511
held_to_511 (negsuc n) = 0

unfoldable pub facing : ℤ → ℕ
facing sum = held_to_511 (int_div_euclid (neg_ℤ sum) (pos 512))

-- the half vector is half the light vector and the line of sight, which is 0, 0, -1
abbrev pub half : ℤ → ℤ
half z = int_div_euclid z (pos 2)

-- The levels of a light on a normal: the diffuse one, and the specular one, which is the square of the half vector's, or comes from the table of 128
-- bytes (GBATEK, SHININESS)
abbrev pub shine : Material → List ℕ → ℕ → ℕ
shine material table e = if material.by_table then 2 * slice_index table (e * e / 512 / 4) else e * e / 512

unfoldable pub light_levels : Material → List ℕ → Light → List ℤ → Levels
light_levels material table light n = record {
  diffuse = facing (dot light.x light.y light.z n);
  specular = shine material table (facing (dot (half light.x) (half light.y) (half (light.z -ℤ pos 512)) n));
}

-- a channel of a colour: red, green or blue
abbrev pub channel : ℕ → ℕ → ℕ
channel k colour = bits (5 * k) 5 colour

-- what a light adds to a channel
unfoldable pub share : ℕ → Material → ℕ → Levels → ℕ
share k material colour levels =
    (channel k material.specular * channel k colour * levels.specular / 16384)
    + (channel k material.diffuse * channel k colour * levels.diffuse / 16384)
    + (channel k material.ambient * channel k colour / 32)

-- what the light of a number adds to a channel: something where its bit of the attributes in force is 1
abbrev pub light_at : Numbers → ℕ → Light
light_at s i = slice_index_or s.lights i no_light

unfoldable pub added : Numbers → List ℤ → ℕ → ℕ → ℕ
added s n i k =
    if bit i s.attributes then share k s.material (light_at s i).colour (light_levels s.material s.table (light_at s i) n) else 0

-- the colour of a vertex with a normal: in each channel the emission and what the four lights add, held to 31
unfoldable pub lit_channel : Numbers → List ℤ → ℕ → ℕ
lit_channel s n k = min 31 (channel k s.material.emission + added s n 0 k + added s n 1 k + added s n 2 k + added s n 3 k)

unfoldable pub lit_colour : Numbers → List ℤ → ℕ
lit_colour s n = lit_channel s n 0 + lit_channel s n 1 * 2 ^ 5 + lit_channel s n 2 * 2 ^ 10
