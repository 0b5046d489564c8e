use Rattle.ds_machine.proofs.Within.{boots_within_tick, runs_stay_within_tick, ticks_rise}
use Rattle.ds_machine.proofs.WithinScript.{runs_keep_script}
use Rattle.ds_machine.proofs.laws.time_laws.Goals as goal

pub returns : goal.returns
returns c = record {
  boot = boots_within_tick;
  rise = ticks_rise;
  run = runs_stay_within_tick;
  keys = runs_keep_script;
}
