use Rattle.std.specs.Prelude.{ℕ, ℤ, nat_le, FitsSigned, Bool, List, [], ◌∷◌, ◌≡◌, ◌<◌, ◌^◌, length, map, pos, slice_index, slice_index_or, None}
use Rattle.std.specs.Int.{w16, w32}
use Rattle.ds_state.specs.Formats.{Format, number_code, flag_code, signed_half_code, array, done, ◌>>=◌, one_field, its, each, any, at_most, signed_format}
use Rattle.gx_matrix.specs.Saved.{stacks_format}
use Rattle.gx_geometry.specs.declared.polygons.Polygon.{Polygon}
use Rattle.gx_geometry.specs.declared.polygons.Vertex.{Vertex}
use Rattle.gx_geometry.specs.declared.numbers.Light.{Light}
use Rattle.gx_geometry.specs.declared.numbers.Numbers.{Numbers}
use Rattle.gx_geometry.specs.declared.numbers.saved.Current.{Current}
use Rattle.gx_geometry.specs.declared.numbers.saved.Lighting.{Lighting}
use Rattle.gx_geometry.specs.declared.results.Results.{Results}
use Rattle.gx_geometry.specs.Bounds.{is_told}
use Rattle.gx_geometry.specs.Numbers.{kind_of, no_light}
use Rattle.gx_geometry.specs.Polygons.{most_polygons}
use Rattle.gx_geometry.specs.Saved.{holds_recent, light_format, lists_format, place_number, place_of_number, polygon_format, run_kind_number, signed_at, vertex_format}
use Rattle.gx_geometry.specs.States.{GeometryState, OutcomeState}

-- The parts in which the code takes the engine from bytes (our choice of form). No public call speaks of them.

-- what vertices and polygons have that come next
abbrev pub current_numbers : Numbers → Current
current_numbers s = record {
  colour = s.colour;
  point = s.point;
  raw = s.raw;
  coordinates = s.coordinates;
  set = s.set;
  attributes = s.attributes;
  texture = s.texture;
  palette = s.palette;
  viewport = s.viewport;
}

unfoldable pub current_format : Format Current Current
current_format = do
  colour ← one_field (number_code 2) (λ n. n.colour) (at_most 0x7FFF)
  x ← one_field signed_half_code (λ n. n.point.x) any
  y ← one_field signed_half_code (λ n. n.point.y) any
  z ← one_field signed_half_code (λ n. n.point.z) any
  raw_s ← one_field signed_half_code (λ n. n.raw.s) any
  raw_t ← one_field signed_half_code (λ n. n.raw.t) any
  s ← one_field signed_half_code (λ n. n.coordinates.s) any
  t ← one_field signed_half_code (λ n. n.coordinates.t) any
  set ← one_field (number_code 4) (λ n. n.set) any
  attributes ← one_field (number_code 4) (λ n. n.attributes) any
  texture ← one_field (number_code 4) (λ n. n.texture) any
  palette ← one_field (number_code 4) (λ n. n.palette) (at_most 0x1FFF)
  viewport ← one_field (number_code 4) (λ n. n.viewport) any
  done (record {
    colour = colour;
    point = record { x = x; y = y; z = z };
    raw = record { s = raw_s; t = raw_t };
    coordinates = record { s = s; t = t };
    set = set;
    attributes = attributes;
    texture = texture;
    palette = palette;
    viewport = viewport;
  })

-- what lighting asks
abbrev pub lighting_numbers : Numbers → Lighting
lighting_numbers s = record { material = s.material; table = s.table; lights = s.lights }

unfoldable pub lighting_format : Format Lighting Lighting
lighting_format = do
  diffuse ← one_field (number_code 2) (λ n. n.material.diffuse) (at_most 0x7FFF)
  ambient ← one_field (number_code 2) (λ n. n.material.ambient) (at_most 0x7FFF)
  specular ← one_field (number_code 2) (λ n. n.material.specular) (at_most 0x7FFF)
  emission ← one_field (number_code 2) (λ n. n.material.emission) (at_most 0x7FFF)
  by_table ← one_field flag_code (λ n. n.material.by_table) any
  table ← one_field (array 128) (λ n. n.table) any
  first ← its light_format (λ n. slice_index_or n.lights 0 no_light)
  second ← its light_format (λ n. slice_index_or n.lights 1 no_light)
  third ← its light_format (λ n. slice_index_or n.lights 2 no_light)
  fourth ← its light_format (λ n. slice_index_or n.lights 3 no_light)
  done (record {
    material = record { diffuse = diffuse; ambient = ambient; specular = specular; emission = emission; by_table = by_table };
    table = table;
    lights = first ∷ second ∷ third ∷ fourth ∷ [];
  })

-- the results of tests
pub record TestResults : Type 0 where
  pub position : List ℤ
  pub vector : List ℤ
  pub inside : Bool

abbrev pub test_results : OutcomeState → TestResults
test_results o = record { position = o.position; vector = o.vector; inside = o.inside }

unfoldable pub results_format : Format TestResults TestResults
results_format = do
  position ← each 4 signed_format (λ r. r.position)
  a ← one_field signed_half_code (λ r. signed_at r.vector 0) any
  b ← one_field signed_half_code (λ r. signed_at r.vector 1) any
  c ← one_field signed_half_code (λ r. signed_at r.vector 2) any
  inside ← one_field flag_code (λ r. r.inside) any
  done (record { position = position; vector = a ∷ b ∷ c ∷ []; inside = inside })

abbrev pub results_seen : Results → TestResults
results_seen r = record { position = r.position; vector = r.vector; inside = r.inside }

-- a run has no more vertices than there were ticks
abbrev pub run_until : ℕ → ℕ → Bool
run_until at run = nat_le run at

-- the whole by these parts
unfoldable pub geometry_parts : Format GeometryState GeometryState
geometry_parts = do
  stacks ← its stacks_format (λ g. g.numbers.stacks)
  overflow ← one_field flag_code (λ g. g.outcome.overflow) any
  parameter ← one_field (number_code 4) (λ g. g.numbers.parameter) any
  current ← its current_format (λ g. current_numbers g.numbers)
  lighting ← its lighting_format (λ g. lighting_numbers g.numbers)
  kind ← one_field (number_code 1) (λ g. run_kind_number g.numbers.kind) (at_most 3)
  run ← one_field (number_code 8) (λ g. g.numbers.run) run_until
  first ← one_field (number_code 2) (λ g. place_number (slice_index_or g.outcome.recent 0 None)) (λ at n. is_told run 3 (place_of_number n))
  second ← one_field (number_code 2) (λ g. place_number (slice_index_or g.outcome.recent 1 None)) (λ at n. is_told run 2 (place_of_number n))
  third ← one_field (number_code 2) (λ g. place_number (slice_index_or g.outcome.recent 2 None)) (λ at n. is_told run 1 (place_of_number n))
  results ← its results_format (λ g. test_results g.outcome)
  vertex_count ← one_field (number_code 4) (λ g. length g.outcome.vertices) (holds_recent (map place_of_number (first ∷ second ∷ third ∷ [])))
  polygon_count ← one_field (number_code 4) (λ g. length g.outcome.polygons) (at_most most_polygons)
  vertices ← each vertex_count vertex_format (λ g. g.outcome.vertices)
  polygons ← each polygon_count polygon_format (λ g. g.outcome.polygons)
  last ← its lists_format (λ g. g.last)
  done (record {
    numbers = record {
      stacks = stacks;
      colour = current.colour;
      point = current.point;
      raw = current.raw;
      coordinates = current.coordinates;
      set = current.set;
      attributes = current.attributes;
      texture = current.texture;
      palette = current.palette;
      viewport = current.viewport;
      material = lighting.material;
      table = lighting.table;
      lights = lighting.lights;
      kind = kind_of kind;
      run = run;
      parameter = parameter;
    };
    outcome = record {
      position = results.position;
      vector = results.vector;
      inside = results.inside;
      vertices = vertices;
      polygons = polygons;
      overflow = overflow;
      recent = map place_of_number (first ∷ second ∷ third ∷ []);
    };
    last = last;
  })

-- What the code's types tell of a light, of a vertex and of a polygon.
abbrev pub dark_light : Light
dark_light = record { x = pos 0; y = pos 0; z = pos 0; colour = 0 }

pub record FitsLight (l : Light) : Type 0 where
  pub x : FitsSigned w32 l.x
  pub y : FitsSigned w32 l.y
  pub z : FitsSigned w32 l.z

pub record FitsVertex (v : Vertex) : Type 0 where
  pub x : FitsSigned w32 v.x
  pub y : FitsSigned w32 v.y
  pub z : FitsSigned w32 v.z
  pub w : FitsSigned w32 v.w
  pub s : FitsSigned w16 v.s
  pub t : FitsSigned w16 v.t

pub record FitsPolygon (p : Polygon) : Type 0 where
  pub attributes : p.attributes < 2 ^ 32
  pub texture : p.texture < 2 ^ 32
  pub viewport : p.viewport < 2 ^ 32
  pub four : length p.indices ≡ 4
  pub first : slice_index p.indices 0 < 2 ^ 16
  pub second : slice_index p.indices 1 < 2 ^ 16
  pub third : slice_index p.indices 2 < 2 ^ 16
  pub fourth : slice_index p.indices 3 < 2 ^ 16
