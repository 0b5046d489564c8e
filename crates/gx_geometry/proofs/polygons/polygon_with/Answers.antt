use Rattle.gx_geometry.proofs.Backs.{shaped_back}
use Rattle.gx_geometry.proofs.polygons.polygon_with.Goals as goal

pub returns-clause-shape : goal.returns-clause-shape
returns-clause-shape c = shaped_back c.args.four c.args.shape _ _ c.corner_count.ensures.value c.indices_of.ensures
