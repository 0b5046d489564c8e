use Rattle.gx_geometry.proofs.Words.{FitsVertex, no_vertex, slice_index_or, ℕ, ◌<◌}
use Rattle.gx_geometry.proofs.widths.are_vertices.Given as goal

abbrev pub invariant-loop-vertex : goal.invariant-loop-vertex
invariant-loop-vertex l = (i : ℕ) → i < l.vertex-index → FitsVertex (slice_index_or l.vertices i no_vertex)
