use Rattle.gx_geometry.proofs.Words.{bytes_written, drop, polygon_format, written_each, ◌≡◌}
use Rattle.gx_geometry.proofs.lists.saved.put_polygons.Given as goal

abbrev pub invariant-loop-polygon : goal.invariant-loop-polygon
invariant-loop-polygon l =
    written_each (bytes_written polygon_format) l.into (drop l.polygon-index l.polygons) ≡ written_each (bytes_written polygon_format) l.fn.into l.fn.polygons
