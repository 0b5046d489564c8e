use Rattle.ds_machine.proofs.OwnRemaining.{turn_steps_fall}
use Rattle.ds_machine.proofs.laws.own_turn_laws.Goals as goal

pub returns : goal.returns
returns c = turn_steps_fall
