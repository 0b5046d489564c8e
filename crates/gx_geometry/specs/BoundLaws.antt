use Rattle.std.specs.Prelude.{ℕ, ◌≡◌, ◌<◌, ◌≤◌, ◌^◌, ◌==◌, ◌&&◌, ◌||◌, Bool, true, [], List, length, slice_index, slice_index_or, Option, None}
use Rattle.std.specs.List.{AllByRecursion}
use Rattle.gx_geometry.specs.declared.numbers.Numbers.{Numbers}
use Rattle.gx_geometry.specs.declared.polygons.Vertex.{Vertex}
use Rattle.gx_geometry.specs.declared.polygons.Polygon.{Polygon}
use Rattle.gx_geometry.specs.Lights.{light_at}
use Rattle.gx_geometry.specs.Polygons.{most_vertices, most_polygons, no_vertex}
use Rattle.gx_geometry.specs.States.{GeometryState}
use Rattle.gx_geometry.specs.Bounds.{is_place, is_told}

-- What holds of the engine at every time, by which those who hold it know the sizes of what it gives out.

-- colours have fifteen bits, the base of a texture's palette thirteen (GBATEK, COLOR, DIF_AMB, SPE_EMI, LIGHT_COLOR, PLTT_BASE)
pub record AreSmall (s : Numbers) : Type 0 where
  pub colour : s.colour < 2 ^ 15
  pub diffuse : s.material.diffuse < 2 ^ 15
  pub ambient : s.material.ambient < 2 ^ 15
  pub specular : s.material.specular < 2 ^ 15
  pub emission : s.material.emission < 2 ^ 15
  pub lights : (i : ℕ) → (light_at s i).colour < 2 ^ 15
  pub palette : s.palette < 2 ^ 13

abbrev pub no_polygon : Polygon
no_polygon = record { attributes = 0; texture = 0; palette = 0; viewport = 0; corners = 0; indices = [] }

abbrev pub HaveColours : List Vertex → Type 0
HaveColours vertices = (i : ℕ) → (slice_index_or vertices i no_vertex).colour < 2 ^ 15

abbrev pub HavePalettes : List Polygon → Type 0
HavePalettes polygons = (i : ℕ) → (slice_index_or polygons i no_polygon).palette < 2 ^ 13

-- a polygon has four corners, or three and an unused place of 0
abbrev pub is_shaped : Polygon → Bool
is_shaped p = (p.corners == 4) || (p.corners == 3 && slice_index p.indices 3 == 0)

abbrev pub HaveShapes : List Polygon → Type 0
HaveShapes polygons = AllByRecursion (λ p. is_shaped p ≡ true) polygons

-- two lists, of vertices and of polygons, are as long as a swap takes them at most, with colours, palettes and corners so
pub record AreLimited (vertices : List Vertex) (polygons : List Polygon) : Type 0 where
  pub vertices_within : length vertices ≤ most_vertices
  pub polygons_within : length polygons ≤ most_polygons
  pub colours : HaveColours vertices
  pub palettes : HavePalettes polygons
  pub shapes : HaveShapes polygons

pub record ArePlaces (long : ℕ) (recent : List (Option ℕ)) : Type 0 where
  pub three : length recent ≡ 3
  pub first : is_place long (slice_index_or recent 0 None) ≡ true
  pub second : is_place long (slice_index_or recent 1 None) ≡ true
  pub third : is_place long (slice_index_or recent 2 None) ≡ true

pub record AreTold (run : ℕ) (recent : List (Option ℕ)) : Type 0 where
  pub first : is_told run 3 (slice_index_or recent 0 None) ≡ true
  pub second : is_told run 2 (slice_index_or recent 1 None) ≡ true
  pub third : is_told run 1 (slice_index_or recent 2 None) ≡ true

pub record IsGeometry (g : GeometryState) : Type 0 where
  pub numbers : AreSmall g.numbers
  pub now : AreLimited g.outcome.vertices g.outcome.polygons
  pub last : AreLimited g.last.vertices g.last.polygons
  pub places : ArePlaces (length g.outcome.vertices) g.outcome.recent
  pub told : AreTold g.numbers.run g.outcome.recent
