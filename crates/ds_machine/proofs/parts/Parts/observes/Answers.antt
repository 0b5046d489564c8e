use Rattle.ds_machine.proofs.ObservedTests.{due_if_due, low_if_due}
use Rattle.ds_machine.proofs.parts.Parts.observes.Goals as goal

pub of-requires : goal.of-requires
of-requires c = low_if_due c.args.self.now c.args.rank c.requires

pub observes_by-requires : goal.observes_by-requires
observes_by-requires c = due_if_due c.args.self.now c.args.rank c.of.result c.of.ensures.actor c.requires
