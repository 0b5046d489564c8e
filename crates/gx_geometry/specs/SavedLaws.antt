use Rattle.std.specs.Prelude.{ℕ, FitsSigned, ◌≡◌, ◌<◌, ◌≤◌, ◌^◌, true, length, slice_index}
use Rattle.std.specs.Int.{w16, w32}
use Rattle.std.specs.List.{AllByRecursion}
use Rattle.ds_state.specs.FormatLaws.{OneSpelling, RoundTrips}
use Rattle.gx_matrix.specs.Saved.{AreStacks}
use Rattle.gx_geometry.specs.declared.polygons.Vertex.{Vertex}
use Rattle.gx_geometry.specs.declared.polygons.Polygon.{Polygon}
use Rattle.gx_geometry.specs.BoundLaws.{ArePlaces, AreTold}
use Rattle.gx_geometry.specs.Polygons.{most_vertices, most_polygons}
use Rattle.gx_geometry.specs.declared.numbers.Light.{Light}
use Rattle.gx_geometry.specs.States.{GeometryState, Swapped, no_swap}
use Rattle.gx_geometry.specs.declared.numbers.saved.Current.{Current}
use Rattle.gx_geometry.specs.declared.numbers.saved.Lighting.{Lighting}
use Rattle.gx_geometry.specs.Saved.{geometry_format, has_corner_count, may_be_fourth, signed_at}
use Rattle.gx_geometry.specs.SavedKept.{TestResults, current_numbers, lighting_numbers, test_results}

-- What holds of each number of the geometry engine, so that it has a spelling in bytes, and that its bytes are read as it was.

-- what holds of each number of an engine, so that it has a spelling
pub record IsVertex (v : Vertex) : Type 0 where
  pub x : FitsSigned w32 v.x
  pub y : FitsSigned w32 v.y
  pub z : FitsSigned w32 v.z
  pub w : FitsSigned w32 v.w
  pub colour : v.colour < 2 ^ 15
  pub s : FitsSigned w16 v.s
  pub t : FitsSigned w16 v.t

pub record IsPolygon (p : Polygon) : Type 0 where
  pub attributes : p.attributes < 2 ^ 32
  pub texture : p.texture < 2 ^ 32
  pub palette : p.palette < 2 ^ 13
  pub viewport : p.viewport < 2 ^ 32
  pub corners : has_corner_count 0 p.corners ≡ true
  pub four : length p.indices ≡ 4
  pub first : slice_index p.indices 0 < 2 ^ 16
  pub second : slice_index p.indices 1 < 2 ^ 16
  pub third : slice_index p.indices 2 < 2 ^ 16
  pub fourth : slice_index p.indices 3 < 2 ^ 16
  pub unused : may_be_fourth p.corners 0 (slice_index p.indices 3) ≡ true

pub record AreCurrent (n : Current) : Type 0 where
  pub colour : n.colour < 2 ^ 15
  pub x : FitsSigned w16 n.point.x
  pub y : FitsSigned w16 n.point.y
  pub z : FitsSigned w16 n.point.z
  pub raw_s : FitsSigned w16 n.raw.s
  pub raw_t : FitsSigned w16 n.raw.t
  pub s : FitsSigned w16 n.coordinates.s
  pub t : FitsSigned w16 n.coordinates.t
  pub set : n.set < 2 ^ 32
  pub attributes : n.attributes < 2 ^ 32
  pub texture : n.texture < 2 ^ 32
  pub palette : n.palette < 2 ^ 13
  pub viewport : n.viewport < 2 ^ 32

pub record IsLight (l : Light) : Type 0 where
  pub x : FitsSigned w32 l.x
  pub y : FitsSigned w32 l.y
  pub z : FitsSigned w32 l.z
  pub colour : l.colour < 2 ^ 15

pub record AreLighting (n : Lighting) : Type 0 where
  pub diffuse : n.material.diffuse < 2 ^ 15
  pub ambient : n.material.ambient < 2 ^ 15
  pub specular : n.material.specular < 2 ^ 15
  pub emission : n.material.emission < 2 ^ 15
  pub bytes : length n.table ≡ 128
  pub four : length n.lights ≡ 4
  pub lights : AllByRecursion IsLight n.lights

pub record AreTestResults (r : TestResults) : Type 0 where
  pub four : length r.position ≡ 4
  pub position : AllByRecursion (λ x. FitsSigned w32 x) r.position
  pub three : length r.vector ≡ 3
  pub a : FitsSigned w16 (signed_at r.vector 0)
  pub b : FitsSigned w16 (signed_at r.vector 1)
  pub c : FitsSigned w16 (signed_at r.vector 2)

pub record AreSwapped (l : Swapped) : Type 0 where
  pub parameter : l.parameter < 2 ^ 32
  pub vertex_count : length l.vertices ≤ most_vertices
  pub polygon_count : length l.polygons ≤ most_polygons
  pub vertices : AllByRecursion IsVertex l.vertices
  pub polygons : AllByRecursion IsPolygon l.polygons

-- so it is at every time
pub record HasBounds (g : GeometryState) : Type 0 where
  pub stacks : AreStacks g.numbers.stacks
  pub parameter : g.numbers.parameter < 2 ^ 32
  pub current : AreCurrent (current_numbers g.numbers)
  pub lighting : AreLighting (lighting_numbers g.numbers)
  pub told : AreTold g.numbers.run g.outcome.recent
  pub places : ArePlaces (length g.outcome.vertices) g.outcome.recent
  pub results : AreTestResults (test_results g.outcome)
  pub vertex_count : length g.outcome.vertices ≤ most_vertices
  pub polygon_count : length g.outcome.polygons ≤ most_polygons
  pub vertices : AllByRecursion IsVertex g.outcome.vertices
  pub polygons : AllByRecursion IsPolygon g.outcome.polygons
  pub last : AreSwapped g.last

-- At a tick the run has no more vertices than there were ticks, and the last swap was no later, nor at tick 0.
pub record IsSavedGeometry (at : ℕ) (g : GeometryState) : Type 0 where
  pub bounds : HasBounds g
  pub run : g.numbers.run ≤ at
  pub swap : g.last.tick.0 ≤ at
  pub none : g.last.tick.0 ≡ 0 → g.last ≡ no_swap

-- its bytes at a tick are read as it was, and bytes that are read as an engine are its bytes
pub record GeometryIsSaved : Type 0 where
  pub back : (at : ℕ) (g : GeometryState) → at ≤ 2 ^ 56 → IsSavedGeometry at g → RoundTrips geometry_format at g
  pub spelling : (at : ℕ) → OneSpelling geometry_format at
