use Rattle.std.specs.Prelude.{ℕ, ◌≡◌, nat_lt, if◌then◌else◌, Bool, true, false, ℤ, pos, List, [], ◌∷◌, ◌++◌, length, slice_index, slice_index_or, Option, Some, None}
use Rattle.ds_base.specs.declared.ticks.Tick.{Tick}
use Rattle.gx_matrix.specs.Commands.{clip_of}
use Rattle.gx_matrix.specs.declared.commands.GeometryCommand.{GeometryCommand}
use Rattle.gx_matrix.specs.declared.commands.GeometryCommand.TheVariants.{BeginVtxs, BoxTest, PosTest, VecTest}
use Rattle.gx_geometry.specs.declared.numbers.Numbers.{Numbers}
use Rattle.gx_geometry.specs.declared.polygons.Vertex.{Vertex}
use Rattle.gx_geometry.specs.declared.polygons.Polygon.{Polygon}
use Rattle.gx_geometry.specs.declared.results.Results.{Results}
use Rattle.gx_geometry.specs.Numbers.{numbers_at_boot, point_by_halves}
use Rattle.gx_geometry.specs.Boxes.{through, box_test}
use Rattle.gx_geometry.specs.Coordinates.{vector_test}
use Rattle.gx_geometry.specs.Changes.{numbers_after, gives_vertex}
use Rattle.gx_geometry.specs.Polygons.{vertex_of, polygon_among, most_vertices, most_polygons}
use Rattle.gx_geometry.specs.ListLaws.{GeometryAct, Command, ClearError, ClearOverflow, AreLists, IsOverflow}
use Rattle.gx_geometry.specs.Lists.{numbers_cleared}

-- The geometry engine: its numbers, the results of tests, the open lists, and the lists that the last swap gave out.

-- the lists that a swap gives out, with its tick and its parameter
pub record Swapped : Type 0 where
  pub tick : Tick
  pub parameter : ℕ
  pub vertices : List Vertex
  pub polygons : List Polygon

-- What commands bring about beside the numbers: the results of tests, the open lists, and whether a vertex or a polygon was dropped since that was
-- cleared.
pub record OutcomeState : Type 0 where
  -- the vertex of the last position test in clip space: x, y, z, w, signed words with 12 fractional bits (GBATEK, POS_RESULT)
  pub position : List ℤ
  -- the vector of the last vector test, signed halves with 12 fractional bits (GBATEK, VEC_RESULT)
  pub vector : List ℤ
  -- whether the last box test saw its box (GBATEK, GXSTAT bit 1)
  pub inside : Bool
  pub vertices : List Vertex
  pub polygons : List Polygon
  -- GBATEK, DISP3DCNT bit 13
  pub overflow : Bool
  -- where the run's last three vertices stand in the open list, if they do, the oldest first
  pub recent : List (Option ℕ)

pub record GeometryState : Type 0 where
  pub numbers : Numbers
  pub outcome : OutcomeState
  pub last : Swapped

abbrev pub none_recent : List (Option ℕ)
none_recent = None ∷ None ∷ None ∷ []

-- a run's next vertex comes
abbrev pub then_recent : Option ℕ → List (Option ℕ) → List (Option ℕ)
then_recent place recent = slice_index_or recent 1 None ∷ slice_index_or recent 2 None ∷ place ∷ []

-- nothing was tested, no vertex came and nothing was swapped at boot (our choice)
abbrev pub no_swap : Swapped
no_swap = record { tick = record { 0 = 0 }; parameter = 0; vertices = []; polygons = [] }

abbrev pub no_outcome : OutcomeState
no_outcome = record {
  position = pos 0 ∷ pos 0 ∷ pos 0 ∷ pos 0 ∷ [];
  vector = pos 0 ∷ pos 0 ∷ pos 0 ∷ [];
  inside = false;
  vertices = [];
  polygons = [];
  overflow = false;
  recent = none_recent;
}

abbrev pub geometry_at_boot : GeometryState
geometry_at_boot = record { numbers = numbers_at_boot; outcome = no_outcome; last = no_swap }

-- what is told of it: the results, and how many vertices and polygons the open lists have (GBATEK, RAM_COUNT)
abbrev pub results_of : OutcomeState → Results
results_of o = record {
  position = o.position;
  vector = o.vector;
  inside = o.inside;
  vertices = length o.vertices;
  polygons = length o.polygons;
  overflow = o.overflow;
}

-- after a command that tests: the box, the position or the vector test (GBATEK, BOX_TEST, POS_TEST, VEC_TEST); one that begins a run forgets the
-- vertices of the run before
unfoldable pub tested : GeometryCommand → List ℕ → Numbers → OutcomeState → OutcomeState
tested BoxTest params s o = record o { inside = box_test params (clip_of s.stacks) }
tested PosTest params s o =
    let c = through (point_by_halves params) (clip_of s.stacks) in record o { position = c.x ∷ c.y ∷ c.z ∷ c.w ∷ [] }
tested VecTest params s o = record o { vector = vector_test (slice_index params 0) s.stacks.pose.vector }
tested BeginVtxs params s o = record o { recent = none_recent }
tested _ params s o = o

-- A vertex comes: it is added to the open list, and with it the polygon that it completes by where the run's last vertices stand; what comes past a
-- limit is dropped and sets the overflow (GBATEK, DISP3DCNT bit 13, and "DS 3D Overview": 6144 vertices and 2048 polygons).
abbrev pub overflown : OutcomeState → OutcomeState
overflown o = record o { overflow = true }

abbrev pub polygon_added : Option Polygon → OutcomeState → OutcomeState
polygon_added None o = o
polygon_added (Some p) o =
    if nat_lt (length o.polygons) most_polygons then record o { polygons = o.polygons ++ p ∷ [] } else overflown o

abbrev pub vertex_added : Vertex → OutcomeState → OutcomeState
vertex_added v o = record o { vertices = o.vertices ++ v ∷ []; recent = then_recent (Some (length o.vertices)) o.recent }

abbrev pub vertex_dropped : OutcomeState → OutcomeState
vertex_dropped o = record (overflown o) { recent = then_recent None o.recent }

-- where the run's last three vertices and the next one stand
abbrev pub four_recent : OutcomeState → List (Option ℕ)
four_recent o =
    slice_index_or o.recent 0 None ∷ slice_index_or o.recent 1 None ∷ slice_index_or o.recent 2 None ∷ Some (length o.vertices) ∷ []

unfoldable pub arrived : Numbers → OutcomeState → OutcomeState
arrived a o =
    if nat_lt (length o.vertices) most_vertices
    then polygon_added (polygon_among (four_recent o) (o.vertices ++ vertex_of a ∷ []) a) (vertex_added (vertex_of a) o)
    else vertex_dropped o

-- after a command: its test, by the numbers before it, and its vertex, by those after it
abbrev pub outcome_after : GeometryCommand → List ℕ → Numbers → OutcomeState → OutcomeState
outcome_after command params s o =
    if gives_vertex command then arrived (numbers_after command params s) (tested command params s o) else tested command params s o

-- the engine after a command
unfoldable pub geometry_after : GeometryCommand → List ℕ → GeometryState → GeometryState
geometry_after command params g =
    record g { numbers = numbers_after command params g.numbers; outcome = outcome_after command params g.numbers g.outcome }

-- the stacks' error is cleared; the lists' overflow is cleared
abbrev pub geometry_error_cleared : GeometryState → GeometryState
geometry_error_cleared g = record g { numbers = numbers_cleared g.numbers }

abbrev pub overflow_cleared : GeometryState → GeometryState
overflow_cleared g = record g { outcome = record g.outcome { overflow = false } }

-- after all that was done
abbrev pub after_act : GeometryAct → GeometryState → GeometryState
after_act (Command command params) g = geometry_after command params g
after_act ClearError g = geometry_error_cleared g
after_act ClearOverflow g = overflow_cleared g

unfoldable pub after_all : List GeometryAct → GeometryState → GeometryState
after_all [] g = g
after_all (act ∷ acts) g = after_all acts (after_act act g)

-- a swap at a tick gives out both lists and empties them, and the run's vertices so far stand in the open one no more; all else stays but the
-- parameter, which is used up
abbrev pub lists_emptied : OutcomeState → OutcomeState
lists_emptied o = record o { vertices = []; polygons = []; recent = none_recent }

unfoldable pub swapped : Tick → GeometryState → GeometryState
swapped now g = record {
  numbers = record g.numbers { parameter = 0 };
  outcome = lists_emptied g.outcome;
  last = record { tick = now; parameter = g.numbers.parameter; vertices = g.outcome.vertices; polygons = g.outcome.polygons };
}

-- the engine as a swap leaves it, or boot: both open lists are empty, and none of the run's vertices stands there
pub record IsFresh (g : GeometryState) : Type 0 where
  pub no_vertex : g.outcome.vertices ≡ []
  pub no_polygon : g.outcome.polygons ≡ []
  pub no_recent : g.outcome.recent ≡ none_recent

-- from whatever fresh engine and by whatever acts it came to be as it is, these are the lists of those acts
abbrev pub AreListsSince : GeometryState → List Vertex → List Polygon → Type 0
AreListsSince g vertices polygons =
    (start : GeometryState) → (acts : List GeometryAct) → IsFresh start → after_all acts start ≡ g → AreLists start.numbers acts vertices polygons

-- and this is the overflow by them
abbrev pub IsOverflowSince : GeometryState → Bool → Type 0
IsOverflowSince g overflow =
    (start : GeometryState) → (acts : List GeometryAct) → IsFresh start → after_all acts start ≡ g
    → IsOverflow start.numbers start.outcome.overflow acts overflow
