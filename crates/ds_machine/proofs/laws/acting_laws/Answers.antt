use Rattle.ds_machine.proofs.ActingSteps.{acting_may_step, acting_runs, acting_stops}
use Rattle.ds_machine.proofs.CatchingUp.{catching_up_runs}
use Rattle.ds_machine.proofs.laws.acting_laws.Goals as goal

pub returns : goal.returns
returns c = record { caught = catching_up_runs; may = acting_may_step; runs = acting_runs; stops = acting_stops }
