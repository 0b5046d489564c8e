use Rattle.ds_machine.proofs.CatchingUp.{quiet_event}
use Rattle.ds_machine.proofs.parts.Parts.step_quiet.Goals as goal

pub returns : goal.returns
returns c = quiet_event _ c.args.self.now c.event.new.self c.self.view_is c.requires.sound c.requires.quiet c.event.ensures
