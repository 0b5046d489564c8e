use Rattle.gx_geometry.proofs.Bounds.{small_after}
use Rattle.gx_geometry.proofs.numbers.Numbers.renew.Goals as goal

pub returns-clause-small : goal.returns-clause-small
returns-clause-small c = λ h. small_after c.args.command c.args.params.now c.args.self.now _ c.change.ensures h
