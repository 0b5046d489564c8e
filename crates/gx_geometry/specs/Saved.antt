use Rattle.std.specs.Prelude.{ℕ, ℤ, ◌==◌, ◌&&◌, ◌||◌, not, nat_le, Bool, List, [], ◌∷◌, length, map, pos, slice_index, slice_index_or, Option, Some, None, if◌then◌else◌}
use Rattle.std.specs.List.{list_all}
use Rattle.std.specs.Option.{unwrap_or}
use Rattle.ds_state.specs.Formats.{Format, number_code, flag_code, signed_word, signed_half_code, array, done, ◌>>=◌, one_field, its, each, any, at_most, signed_format}
use Rattle.gx_matrix.specs.Saved.{stacks_format}
use Rattle.gx_geometry.specs.declared.numbers.Kind.{Kind}
use Rattle.gx_geometry.specs.declared.numbers.Kind.TheVariants.{Triangles, Quads, TriangleStrip, QuadStrip}
use Rattle.gx_geometry.specs.declared.polygons.Vertex.{Vertex}
use Rattle.gx_geometry.specs.declared.polygons.Polygon.{Polygon}
use Rattle.gx_geometry.specs.Bounds.{is_place, is_told}
use Rattle.gx_geometry.specs.Numbers.{kind_of, no_light}
use Rattle.gx_geometry.specs.Polygons.{most_vertices, most_polygons}
use Rattle.gx_geometry.specs.declared.numbers.Light.{Light}
use Rattle.gx_geometry.specs.States.{GeometryState, Swapped}

-- The geometry engine in bytes: the matrices, the numbers that commands keep, the results of tests, the open lists, and the lists of the last swap.

-- a vertex: its four coordinates in clip space, its colour of fifteen bits, its texture coordinates
unfoldable pub vertex_format : Format Vertex Vertex
vertex_format = do
  x ← one_field signed_word (λ v. v.x) any
  y ← one_field signed_word (λ v. v.y) any
  z ← one_field signed_word (λ v. v.z) any
  w ← one_field signed_word (λ v. v.w) any
  colour ← one_field (number_code 2) (λ v. v.colour) (at_most 0x7FFF)
  s ← one_field signed_half_code (λ v. v.s) any
  t ← one_field signed_half_code (λ v. v.t) any
  done (record { x = x; y = y; z = z; w = w; colour = colour; s = s; t = t })

-- a polygon: its attributes, its texture's parameter, the base of its palette, its viewport, three or four corners, and their places; the fourth
-- is 0 where there are three
abbrev pub has_corner_count : ℕ → ℕ → Bool
has_corner_count at corners = corners == 3 || corners == 4

abbrev pub may_be_fourth : ℕ → ℕ → ℕ → Bool
may_be_fourth corners at place = corners == 4 || place == 0

unfoldable pub polygon_format : Format Polygon Polygon
polygon_format = do
  attributes ← one_field (number_code 4) (λ p. p.attributes) any
  texture ← one_field (number_code 4) (λ p. p.texture) any
  palette ← one_field (number_code 4) (λ p. p.palette) (at_most 0x1FFF)
  viewport ← one_field (number_code 4) (λ p. p.viewport) any
  corners ← one_field (number_code 1) (λ p. p.corners) has_corner_count
  first ← one_field (number_code 2) (λ p. slice_index p.indices 0) any
  second ← one_field (number_code 2) (λ p. slice_index p.indices 1) any
  third ← one_field (number_code 2) (λ p. slice_index p.indices 2) any
  fourth ← one_field (number_code 2) (λ p. slice_index p.indices 3) (may_be_fourth corners)
  done (record {
    attributes = attributes;
    texture = texture;
    palette = palette;
    viewport = viewport;
    corners = corners;
    indices = first ∷ second ∷ third ∷ fourth ∷ [];
  })

-- a light
unfoldable pub light_format : Format Light Light
light_format = do
  x ← one_field signed_word (λ l. l.x) any
  y ← one_field signed_word (λ l. l.y) any
  z ← one_field signed_word (λ l. l.z) any
  colour ← one_field (number_code 2) (λ l. l.colour) (at_most 0x7FFF)
  done (record { x = x; y = y; z = z; colour = colour })

-- the lists of the last swap: its tick, no later than that of the state, and 0 where there was none; then its parameter and its lists are empty
abbrev pub unless_none : ℕ → ℕ → ℕ → ℕ → Bool
unless_none tick most at n = nat_le n most && (not (tick == 0) || n == 0)

unfoldable pub lists_format : Format Swapped Swapped
lists_format = do
  tick ← one_field (number_code 8) (λ l. l.tick.0) (λ at tick. nat_le tick at)
  parameter ← one_field (number_code 4) (λ l. l.parameter) (unless_none tick 0xFFFFFFFF)
  vertex_count ← one_field (number_code 4) (λ l. length l.vertices) (unless_none tick most_vertices)
  polygon_count ← one_field (number_code 4) (λ l. length l.polygons) (unless_none tick most_polygons)
  vertices ← each vertex_count vertex_format (λ l. l.vertices)
  polygons ← each polygon_count polygon_format (λ l. l.polygons)
  done (record { tick = record { 0 = tick }; parameter = parameter; vertices = vertices; polygons = polygons })

abbrev pub run_kind_number : Kind → ℕ
run_kind_number Triangles = 0
run_kind_number Quads = 1
run_kind_number TriangleStrip = 2
run_kind_number QuadStrip = 3

-- where a vertex stands in the open list: FFFFh is nowhere
abbrev pub place_number : Option ℕ → ℕ
place_number place = unwrap_or place 0xFFFF

abbrev pub place_of_number : ℕ → Option ℕ
place_of_number n = if n == 0xFFFF then None else Some n

-- how many vertices the open list has, by which the run's last three must be places of it
abbrev pub holds_recent : List (Option ℕ) → ℕ → ℕ → Bool
holds_recent recent at long = nat_le long most_vertices && list_all (is_place long) recent

abbrev pub signed_at : List ℤ → ℕ → ℤ
signed_at numbers i = slice_index_or numbers i (pos 0)

-- The whole: the matrices; what vertices and polygons have that come next, which are the colour, the vertex and the texture coordinates given
-- last, and those in force, the attributes set and in force, the texture and its palette, and the viewport; what lighting asks, which are the
-- material, the shininess table of 128 bytes and the four lights; the run, which has no more vertices than there were ticks; the results of tests;
-- the open lists; and those of the last swap.
unfoldable pub geometry_format : Format GeometryState GeometryState
geometry_format = do
  stacks ← its stacks_format (λ g. g.numbers.stacks)
  overflow ← one_field flag_code (λ g. g.outcome.overflow) any
  parameter ← one_field (number_code 4) (λ g. g.numbers.parameter) any
  colour ← one_field (number_code 2) (λ g. g.numbers.colour) (at_most 0x7FFF)
  x ← one_field signed_half_code (λ g. g.numbers.point.x) any
  y ← one_field signed_half_code (λ g. g.numbers.point.y) any
  z ← one_field signed_half_code (λ g. g.numbers.point.z) any
  raw_s ← one_field signed_half_code (λ g. g.numbers.raw.s) any
  raw_t ← one_field signed_half_code (λ g. g.numbers.raw.t) any
  s ← one_field signed_half_code (λ g. g.numbers.coordinates.s) any
  t ← one_field signed_half_code (λ g. g.numbers.coordinates.t) any
  set ← one_field (number_code 4) (λ g. g.numbers.set) any
  attributes ← one_field (number_code 4) (λ g. g.numbers.attributes) any
  texture ← one_field (number_code 4) (λ g. g.numbers.texture) any
  palette ← one_field (number_code 4) (λ g. g.numbers.palette) (at_most 0x1FFF)
  viewport ← one_field (number_code 4) (λ g. g.numbers.viewport) any
  diffuse ← one_field (number_code 2) (λ g. g.numbers.material.diffuse) (at_most 0x7FFF)
  ambient ← one_field (number_code 2) (λ g. g.numbers.material.ambient) (at_most 0x7FFF)
  specular ← one_field (number_code 2) (λ g. g.numbers.material.specular) (at_most 0x7FFF)
  emission ← one_field (number_code 2) (λ g. g.numbers.material.emission) (at_most 0x7FFF)
  by_table ← one_field flag_code (λ g. g.numbers.material.by_table) any
  table ← one_field (array 128) (λ g. g.numbers.table) any
  light_0 ← its light_format (λ g. slice_index_or g.numbers.lights 0 no_light)
  light_1 ← its light_format (λ g. slice_index_or g.numbers.lights 1 no_light)
  light_2 ← its light_format (λ g. slice_index_or g.numbers.lights 2 no_light)
  light_3 ← its light_format (λ g. slice_index_or g.numbers.lights 3 no_light)
  kind ← one_field (number_code 1) (λ g. run_kind_number g.numbers.kind) (at_most 3)
  run ← one_field (number_code 8) (λ g. g.numbers.run) (λ at run. nat_le run at)
  first ← one_field (number_code 2) (λ g. place_number (slice_index_or g.outcome.recent 0 None)) (λ at n. is_told run 3 (place_of_number n))
  second ← one_field (number_code 2) (λ g. place_number (slice_index_or g.outcome.recent 1 None)) (λ at n. is_told run 2 (place_of_number n))
  third ← one_field (number_code 2) (λ g. place_number (slice_index_or g.outcome.recent 2 None)) (λ at n. is_told run 1 (place_of_number n))
  position ← each 4 signed_format (λ g. g.outcome.position)
  vector_x ← one_field signed_half_code (λ g. signed_at g.outcome.vector 0) any
  vector_y ← one_field signed_half_code (λ g. signed_at g.outcome.vector 1) any
  vector_z ← one_field signed_half_code (λ g. signed_at g.outcome.vector 2) any
  inside ← one_field flag_code (λ g. g.outcome.inside) any
  vertex_count ← one_field (number_code 4) (λ g. length g.outcome.vertices) (holds_recent (map place_of_number (first ∷ second ∷ third ∷ [])))
  polygon_count ← one_field (number_code 4) (λ g. length g.outcome.polygons) (at_most most_polygons)
  vertices ← each vertex_count vertex_format (λ g. g.outcome.vertices)
  polygons ← each polygon_count polygon_format (λ g. g.outcome.polygons)
  last ← its lists_format (λ g. g.last)
  done (record {
    numbers = record {
      stacks = stacks;
      colour = colour;
      point = record { x = x; y = y; z = z };
      raw = record { s = raw_s; t = raw_t };
      coordinates = record { s = s; t = t };
      set = set;
      attributes = attributes;
      texture = texture;
      palette = palette;
      viewport = viewport;
      material = record { diffuse = diffuse; ambient = ambient; specular = specular; emission = emission; by_table = by_table };
      table = table;
      lights = light_0 ∷ light_1 ∷ light_2 ∷ light_3 ∷ [];
      kind = kind_of kind;
      run = run;
      parameter = parameter;
    };
    outcome = record {
      position = position;
      vector = vector_x ∷ vector_y ∷ vector_z ∷ [];
      inside = inside;
      vertices = vertices;
      polygons = polygons;
      overflow = overflow;
      recent = map place_of_number (first ∷ second ∷ third ∷ []);
    };
    last = last;
  })
