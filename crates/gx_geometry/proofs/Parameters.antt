use Rattle.gx_geometry.proofs.Words.{GeometryCommand, List, Numbers, arith, subst, sym, true, ℕ, ◌≡◌, ◌≤◌}
use Rattle.gx_matrix.specs.declared.commands.GeometryCommand.TheVariants.{Vtx16, Vtx10, VtxXy, VtxXz, VtxYz, VtxDiff}
use Rattle.gx_geometry.specs.Changes.{gives_vertex, numbers_drawn, numbers_lit, numbers_after, vertex_given}

-- a vertex command counts in its run
given_runs : (command : GeometryCommand) (params : List ℕ) (s : Numbers) → 1 ≤ (vertex_given command params s).run
unfolding vertex_given
given_runs command params s = omega arith

vertex_runs : (command : GeometryCommand) (params : List ℕ) (s : Numbers) → gives_vertex command ≡ true → 1 ≤ (numbers_after command params s).run
unfolding numbers_after numbers_lit numbers_drawn
vertex_runs Vtx16 params s h = given_runs Vtx16 params s
vertex_runs Vtx10 params s h = given_runs Vtx10 params s
vertex_runs VtxXy params s h = given_runs VtxXy params s
vertex_runs VtxXz params s h = given_runs VtxXz params s
vertex_runs VtxYz params s h = given_runs VtxYz params s
vertex_runs VtxDiff params s h = given_runs VtxDiff params s
vertex_runs _ params s h = absurd (grind (arith, h))

pub runs_on : (command : GeometryCommand) (params : List ℕ) (s t : Numbers) → gives_vertex command ≡ true → t ≡ numbers_after command params s → 1 ≤ t.run
runs_on command params s t h e = subst (λ (n : Numbers). 1 ≤ n.run) (sym e) (vertex_runs command params s h)
