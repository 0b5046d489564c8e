use Rattle.std.specs.Prelude.{ℕ, ◌≡◌, ◌+◌, ◌-◌, ◌||◌, nat_lt, if◌then◌else◌, Bool, List, [], ◌∷◌, ◌++◌, length, take, map, option_to_list}
use Rattle.gx_matrix.specs.declared.commands.GeometryCommand.{GeometryCommand}
use Rattle.gx_geometry.specs.declared.numbers.Numbers.{Numbers}
use Rattle.gx_geometry.specs.declared.polygons.Vertex.{Vertex}
use Rattle.gx_geometry.specs.declared.polygons.Polygon.{Polygon}
use Rattle.gx_geometry.specs.Changes.{numbers_after, gives_vertex}
use Rattle.gx_geometry.specs.Polygons.{vertex_of, polygon_of, most_vertices, most_polygons}
use Rattle.gx_geometry.specs.Lists.{numbers_cleared}

-- The lists of a swap by all that happened since the last one: whole lists, where the engine grows both command by command.

-- What is done to the engine between two swaps: a command is taken with its parameters, the stacks' error is cleared (GBATEK, a write of 1 to GXSTAT
-- bit 15), or the lists' overflow is (a write of 1 to DISP3DCNT bit 13).
pub data GeometryAct : Type 0 where
  Command : GeometryCommand → List ℕ → GeometryAct
  ClearError : GeometryAct
  ClearOverflow : GeometryAct

-- The lists of a swap, from the numbers as they were after the swap before it and all that was done since then.

-- the vertices that came, each with what a polygon that it completes has
unfoldable pub arrivals : Numbers → List GeometryAct → List Numbers
arrivals s [] = []
arrivals s (Command command params ∷ acts) =
    let after = numbers_after command params s in
    if gives_vertex command then after ∷ arrivals after acts else arrivals after acts
arrivals s (ClearError ∷ acts) = arrivals (numbers_cleared s) acts
arrivals s (ClearOverflow ∷ acts) = arrivals s acts

-- the polygons that they make, each of them of the vertices that had come by then
unfoldable pub polygons_of : List Vertex → List Numbers → List Polygon
polygons_of came [] = []
polygons_of came (a ∷ later) =
    option_to_list (polygon_of (came ++ vertex_of a ∷ []) a) ++ polygons_of (came ++ vertex_of a ∷ []) later

abbrev pub vertices_of : List Numbers → List Vertex
vertices_of arrived = map (λ a. vertex_of a) arrived

-- what comes past the limits is dropped
abbrev pub vertex_list : List Numbers → List Vertex
vertex_list arrived = take most_vertices (vertices_of arrived)

abbrev pub polygon_list : List Numbers → List Polygon
polygon_list arrived = take most_polygons (polygons_of [] arrived)

-- both lists, of the numbers after the swap before and all that was done since then
pub record AreLists (start : Numbers) (acts : List GeometryAct) (vertices : List Vertex) (polygons : List Polygon) : Type 0 where
  pub by_vertices : vertices ≡ vertex_list (arrivals start acts)
  pub by_polygons : polygons ≡ polygon_list (arrivals start acts)

-- how many vertices and polygons were dropped
abbrev pub dropped : List Numbers → ℕ
dropped arrived = (length (vertices_of arrived) - most_vertices) + (length (polygons_of [] arrived) - most_polygons)

-- the overflow isn't cleared by any of these
abbrev pub AreNoClear : List GeometryAct → Type 0
AreNoClear [] = Unit {0}
AreNoClear (Command command params ∷ acts) = AreNoClear acts
AreNoClear (ClearError ∷ acts) = AreNoClear acts
AreNoClear (ClearOverflow ∷ acts) = ⊥

-- The overflow is set exactly where something was dropped since it was cleared last; where it wasn't cleared, also where it was set at the start.
pub record IsOverflow (start : Numbers) (set : Bool) (acts : List GeometryAct) (overflow : Bool) : Type 0 where
  pub never_cleared : AreNoClear acts → overflow ≡ (set || nat_lt 0 (dropped (arrivals start acts)))
  pub cleared : (before after : List GeometryAct) → acts ≡ before ++ ClearOverflow ∷ after → AreNoClear after →
      overflow ≡ nat_lt (dropped (arrivals start before)) (dropped (arrivals start acts))
