use Rattle.ds_machine.proofs.Words.{sym, ◌∙◌}
use Rattle.ds_machine.proofs.CatchingUp.{acts_due, level_for, observed_before, unseen_for}
use Rattle.ds_machine.proofs.parts.Parts.catch_up_before.Goals as goal
use Rattle.ds_machine.proofs.parts.Parts.catch_up_before.Goals.{then-not-is_behind-via-then-not-is_behind, then-not-is_behind-via-else-not-is_behind+then-not-observes}

pub observes-requires : goal.observes-requires
observes-requires c = acts_due c.args.self.now c.args.tick c.args.rank c.requires.may

pub returns-then-not-is_behind-clause-caught : goal.returns-then-not-is_behind-clause-caught
returns-then-not-is_behind-clause-caught c = elim c.then-not-is_behind.branch [
  | then-not-is_behind-via-then-not-is_behind w ↦ level_for c.args.tick.0 c.args.rank c.args.self.now (sym c.is_behind.ensures ∙ w.if-not-is_behind.true)
  | then-not-is_behind-via-else-not-is_behind+then-not-observes w ↦ unseen_for c.args.tick.0 c.args.rank c.args.self.now (sym w.observes.ensures ∙ w.if-not-observes.true)
]

pub catch_up-requires-clause-before : goal.catch_up-requires-clause-before
catch_up-requires-clause-before c = observed_before c.args.self.now c.args.tick c.args.rank c.requires.may (sym c.observes.ensures ∙ c.if-not-observes.false)
