use Rattle.obj2d.proofs.Words.{◌*◌, ◌+◌, ◌/◌}
use Rattle.obj2d.proofs.StripLemmas.{whole_address}
use Rattle.obj2d.proofs.pixels.tile_address.Goals as goal

pub returns-then-display-eq1-clause-whole : goal.returns-then-display-eq1-clause-whole
returns-then-display-eq1-clause-whole c =
    whole_address c.tile.result c.boundary.result c.tile_units-units.result (c.args.ty * (c.width.result / 8) + c.args.tx) c.boundary.ensures.whole
