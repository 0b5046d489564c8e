use Rattle.std.specs.Prelude.{ℕ, ◌-◌, ◌%◌, ◌==◌, ◌&&◌, ◌||◌, nat_lt, if◌then◌else◌, Bool, List, [], ◌∷◌, ◌++◌, length, map, replicate, slice_index, slice_index_or, Option, Some, None, is_some}
use Rattle.std.specs.Option.{unwrap_or}
use Rattle.std.specs.List.{list_all}
use Rattle.gx_geometry.specs.declared.numbers.Kind.{Kind}
use Rattle.gx_geometry.specs.declared.numbers.Kind.TheVariants.{Triangles, Quads, TriangleStrip, QuadStrip}
use Rattle.gx_geometry.specs.declared.polygons.Shape.{Shape}
use Rattle.gx_geometry.specs.declared.polygons.Shape.TheVariants.{Triangle, TurnedTriangle, Quad, StripQuad}
use Rattle.gx_geometry.specs.declared.polygons.Vertex.{Vertex}
use Rattle.gx_geometry.specs.declared.polygons.Polygon.{Polygon}
use Rattle.gx_geometry.specs.Polygons.{determinant, is_kept, vertex_at}
use Rattle.gx_geometry.specs.declared.numbers.Numbers.{Numbers}

-- How the code finds a polygon's corners: by how many vertices before the last one they came, among the places of the last four. No public
-- call speaks of it.

-- the shape of the polygon that a run's vertex of a place completes, if it does
unfoldable pub shape_of : Kind → ℕ → Option Shape
shape_of Triangles place = if place % 3 == 2 then Some Triangle else None
shape_of Quads place = if place % 4 == 3 then Some Quad else None
shape_of TriangleStrip place = if nat_lt place 2 then None else (if place % 2 == 0 then Some Triangle else Some TurnedTriangle)
shape_of QuadStrip place = if nat_lt place 3 || (place % 2 == 0) then None else Some StripQuad

abbrev pub corners_back : Shape → List ℕ
corners_back Triangle = 2 ∷ 1 ∷ 0 ∷ []
corners_back TurnedTriangle = 1 ∷ 2 ∷ 0 ∷ []
corners_back Quad = 3 ∷ 2 ∷ 1 ∷ 0 ∷ []
corners_back StripQuad = 3 ∷ 2 ∷ 0 ∷ 1 ∷ []

-- of the places of the last four, the oldest first
abbrev pub index_back : List (Option ℕ) → ℕ → Option ℕ
index_back four back = slice_index_or four (3 - back) None

unfoldable pub reaches_back : List (Option ℕ) → Shape → Bool
reaches_back four shape = list_all (λ b. is_some (index_back four b)) (corners_back shape)

unfoldable pub seen_back : List (Option ℕ) → List Vertex → ℕ → Shape → Bool
seen_back four came attributes shape =
    let corner = λ (i : ℕ). vertex_at came (index_back four (slice_index (corners_back shape) i)) in
    is_kept attributes (determinant (corner 0) (corner 1) (corner 2))

unfoldable pub indices_back : List (Option ℕ) → Shape → List ℕ
indices_back four shape = map (λ b. unwrap_or (index_back four b) 0) (corners_back shape) ++ replicate (4 - length (corners_back shape)) 0

unfoldable pub polygon_back : List (Option ℕ) → Numbers → Shape → Polygon
polygon_back four a shape = record {
  attributes = a.attributes;
  texture = a.texture;
  palette = a.palette;
  viewport = a.viewport;
  corners = length (corners_back shape);
  indices = indices_back four shape;
}

abbrev pub polygon_by_shape : Option Shape → List (Option ℕ) → List Vertex → Numbers → Option Polygon
polygon_by_shape None four came a = None
polygon_by_shape (Some shape) four came a =
    if reaches_back four shape && seen_back four came a.attributes shape then Some (polygon_back four a shape) else None
