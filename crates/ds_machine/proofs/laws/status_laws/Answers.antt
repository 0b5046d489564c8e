use Rattle.ds_machine.proofs.Statuses.{boots_with_statuses, runs_keep_statuses, steps_keep_statuses}
use Rattle.ds_machine.proofs.laws.status_laws.Goals as goal

pub returns : goal.returns
returns c = record {
  boot = boots_with_statuses;
  step = steps_keep_statuses;
  run = runs_keep_statuses;
}
