use Rattle.ds_timers.proofs.Four.{are_set, early_set}
use Rattle.ds_timers.proofs.timers.Timers.put.Goals as goal

pub invariant_of-self : goal.invariant_of-self
invariant_of-self c =
    let old = c.self.inside.timers in
    let new = c.args.timer in (
      are_set old c.args.which new c.self.invariant.0 c.requires.which c.requires.is,
      early_set old c.args.which new c.self.invariant.0 c.self.invariant.1 c.requires.which c.requires.early,
    )
