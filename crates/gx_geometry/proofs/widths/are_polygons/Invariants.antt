use Rattle.gx_geometry.proofs.Words.{FitsPolygon, no_polygon, slice_index_or, ℕ, ◌<◌}
use Rattle.gx_geometry.proofs.widths.are_polygons.Given as goal

abbrev pub invariant-loop-polygon : goal.invariant-loop-polygon
invariant-loop-polygon l = (i : ℕ) → i < l.polygon-index → FitsPolygon (slice_index_or l.polygons i no_polygon)
