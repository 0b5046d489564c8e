use Rattle.gx_geometry.proofs.Words.{bytes_written, drop, vertex_format, written_each, ◌≡◌}
use Rattle.gx_geometry.proofs.lists.saved.put_vertices.Given as goal

abbrev pub invariant-loop-vertex : goal.invariant-loop-vertex
invariant-loop-vertex l =
    written_each (bytes_written vertex_format) l.into (drop l.vertex-index l.vertices) ≡ written_each (bytes_written vertex_format) l.fn.into l.fn.vertices
