use Rattle.ds_machine.proofs.Words.{TakesGeometry, ticks_left, ◌+◌}
use Rattle.ds_machine.proofs.parts.Parts.catch_up.Given as goal

abbrev pub invariant-steps : goal.invariant-steps
invariant-steps l = TakesGeometry l.tick.0 l.rank l.initial.self l.self

abbrev pub decreases-steps : goal.decreases-steps
decreases-steps l = ticks_left (l.tick.0 + 1) l.self.io.gx.due
