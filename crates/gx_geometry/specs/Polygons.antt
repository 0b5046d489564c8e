use Rattle.std.specs.Prelude.{ℕ, zero, suc, ◌+◌, ◌-◌, ◌*◌, ◌/◌, ◌%◌, ◌==◌, ◌&&◌, ◌||◌, not, nat_lt, nat_le, if◌then◌else◌, Bool, ℤ, pos, negsuc, ◌+ℤ◌, ◌-ℤ◌, ◌*ℤ◌, List, [], ◌∷◌, ◌++◌, length, map, replicate, slice_get, slice_index, slice_index_or, Option, Some, None, is_some}
use Rattle.std.specs.Option.{option_and_then, unwrap_or}
use Rattle.std.specs.List.{list_all}
use Rattle.ds_base.specs.Bits.{bit}
use Rattle.gx_matrix.specs.Commands.{clip_of}
use Rattle.gx_geometry.specs.declared.numbers.Kind.{Kind}
use Rattle.gx_geometry.specs.declared.numbers.Kind.TheVariants.{Triangles, Quads, TriangleStrip, QuadStrip}
use Rattle.gx_geometry.specs.declared.numbers.Numbers.{Numbers}
use Rattle.gx_geometry.specs.declared.polygons.Vertex.{Vertex}
use Rattle.gx_geometry.specs.declared.polygons.Polygon.{Polygon}
use Rattle.gx_geometry.specs.Boxes.{through}

-- The polygons that vertices make (GBATEK, "DS 3D Polygon Definitions by Vertices" and "DS 3D Polygon Attributes")

-- the vertex that a vertex command gives, through the clip matrix, with the colour and the texture coordinates as they are then
unfoldable pub vertex_of : Numbers → Vertex
vertex_of s =
    let c = through s.point (clip_of s.stacks) in
    record { x = c.x; y = c.y; z = c.z; w = c.w; colour = s.colour; s = s.coordinates.s; t = s.coordinates.t }

-- The corners of polygon k of a run, each by its place in the run, counted from 0: a strip's triangle k has the vertices k, k + 1, k + 2, or
-- k + 1, k, k + 2 where k is odd, and a strip's quad k has 2k, 2k + 1, 2k + 3, 2k + 2
abbrev pub corners : Kind → ℕ → List ℕ
corners Triangles k = (3 * k) ∷ (3 * k + 1) ∷ (3 * k + 2) ∷ []
corners Quads k = (4 * k) ∷ (4 * k + 1) ∷ (4 * k + 2) ∷ (4 * k + 3) ∷ []
corners TriangleStrip k = if k % 2 == 0 then k ∷ (k + 1) ∷ (k + 2) ∷ [] else (k + 1) ∷ k ∷ (k + 2) ∷ []
corners QuadStrip k = (2 * k) ∷ (2 * k + 1) ∷ (2 * k + 3) ∷ (2 * k + 2) ∷ []

-- which polygon a run's vertex of a place completes, if it does: the one of whose corners it is the last that comes
unfoldable pub completed : Kind → ℕ → Option ℕ
completed Triangles place = if place % 3 == 2 then Some (place / 3) else None
completed Quads place = if place % 4 == 3 then Some (place / 4) else None
completed TriangleStrip place = if nat_lt place 2 then None else Some (place - 2)
completed QuadStrip place = if nat_lt place 3 || (place % 2 == 0) then None else Some ((place - 3) / 2)

-- the place in its run of the last vertex that came, counted from 0; `a` has the numbers as that vertex's command leaves them
abbrev pub last_place : Numbers → ℕ
last_place a = a.run - 1

-- how many vertices and polygons a swap takes (GBATEK, "DS 3D Overview")
abbrev pub most_vertices : ℕ
most_vertices = 6144

abbrev pub most_polygons : ℕ
most_polygons = 2048

-- the determinant of the rows x, y, w of three vertices, exact; its sign tells which side is seen
abbrev pub minor : ℤ → ℤ → ℤ → ℤ → ℤ
minor a b c d = (a *ℤ d) -ℤ (b *ℤ c)

unfoldable pub times_minor : ℤ → ℤ → ℤ → ℤ → ℤ → ℤ
times_minor n a b c d = n *ℤ minor a b c d

unfoldable pub determinant : Vertex → Vertex → Vertex → ℤ
determinant a b c = (times_minor a.x b.y b.w c.y c.w -ℤ times_minor a.y b.x b.w c.x c.w) +ℤ times_minor a.w b.x b.y c.x c.y

-- bit 7 of the attributes lets front sides be seen, bit 6 back sides, and either of them what is seen edge on (GBATEK, POLYGON_ATTR)
unfoldable pub is_kept : ℕ → ℤ → Bool
is_kept attributes (pos zero) = bit 6 attributes || bit 7 attributes
is_kept attributes (pos (suc n)) = bit 7 attributes
is_kept attributes (negsuc n) = bit 6 attributes

abbrev pub no_vertex : Vertex
no_vertex = record { x = pos 0; y = pos 0; z = pos 0; w = pos 0; colour = 0; s = pos 0; t = pos 0 }

-- Where the vertex of a place in its run stands in the list, if it does: one that was dropped stands nowhere, and so does one that came before the
-- last swap. Of all vertices that came since the swap the last one completes the polygon, and one of its run stands as many places before it as it
-- came before it, unless it came before the swap; where more came than the list takes, the last one stands nowhere, and no polygon is made.
abbrev pub place_since : List Vertex → Numbers → ℕ → Option ℕ
place_since came a place =
    if nat_le (length came) most_vertices && nat_lt (last_place a) (length came + place)
    then Some (length came + place - (last_place a + 1)) else None

-- the same where it is told where the run's last four vertices stand, the oldest first
abbrev pub place_among : List (Option ℕ) → Numbers → ℕ → Option ℕ
place_among four a place = slice_index_or four (place + 3 - last_place a) None

-- none of a polygon's corners stands nowhere
unfoldable pub has_corners : (ℕ → Option ℕ) → List ℕ → Bool
has_corners stands places = list_all (λ p. is_some (stands p)) places

-- the vertex that stands there
abbrev pub vertex_at : List Vertex → Option ℕ → Vertex
vertex_at came place = unwrap_or (option_and_then (slice_get came) place) no_vertex

unfoldable pub may_be_seen : (ℕ → Option ℕ) → List Vertex → Numbers → List ℕ → Bool
may_be_seen stands came a places =
    let corner = λ (i : ℕ). vertex_at came (stands (slice_index places i)) in
    is_kept a.attributes (determinant (corner 0) (corner 1) (corner 2))

-- its corners are by their places in the list of vertices; an unused one is 0
unfoldable pub polygon_with : (ℕ → Option ℕ) → Numbers → List ℕ → Polygon
polygon_with stands a places = record {
  attributes = a.attributes;
  texture = a.texture;
  palette = a.palette;
  viewport = a.viewport;
  corners = length places;
  indices = map (λ p. unwrap_or (stands p) 0) places ++ replicate (4 - length places) 0;
}

-- the polygon that the last vertex makes, if it does
abbrev pub polygon_at : (ℕ → Option ℕ) → List Vertex → Numbers → List ℕ → Option Polygon
polygon_at stands came a places =
    if has_corners stands places && may_be_seen stands came a places then Some (polygon_with stands a places) else None

abbrev pub polygon_by : Option ℕ → (ℕ → Option ℕ) → List Vertex → Numbers → Option Polygon
polygon_by None stands came a = None
polygon_by (Some k) stands came a = polygon_at stands came a (corners a.kind k)

-- by all vertices that came since the swap, and by where the run's last four stand in the list
unfoldable pub polygon_of : List Vertex → Numbers → Option Polygon
polygon_of came a = polygon_by (completed a.kind (last_place a)) (place_since came a) came a

unfoldable pub polygon_among : List (Option ℕ) → List Vertex → Numbers → Option Polygon
polygon_among four came a = polygon_by (completed a.kind (last_place a)) (place_among four a) came a
