use Rattle.std.specs.Prelude.{ℕ, ◌≤◌, List, length, Option, Some, None}
use Rattle.ds_base.specs.declared.left_out.LeftOut.{LeftOut}
use Rattle.ds_machine.specs.States.{MachineState}
use Rattle.gx_geometry.specs.Polygons.{most_polygons, most_vertices}
use Rattle.gx_geometry.specs.declared.polygons.Polygon.{Polygon}
use Rattle.gx_geometry.specs.declared.polygons.Vertex.{Vertex}

-- a console: its machine, the greatest limit of its turns so far, the stop that it came to, and how many turns counted
pub record ConsoleState : Type 0 where
  pub machine : MachineState
  pub limit : ℕ
  pub stopped : Option LeftOut
  pub turns : ℕ

-- two lists, of vertices and of polygons, have as many at most as a swap takes (GBATEK, "DS 3D Overview")
abbrev pub AreWithin : List Vertex → List Polygon → Type 0
AreWithin vertices polygons = (length vertices ≤ most_vertices) × (length polygons ≤ most_polygons)

-- up to which limit a turn raises none and comes after no stop: the greatest limit so far, and 0 once it has stopped. No public clause speaks of it.
abbrev pub open_of : ℕ → Option LeftOut → ℕ
open_of limit None = limit
open_of limit (Some left) = 0
