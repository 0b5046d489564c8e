use Rattle.ds_machine.proofs.Words.{HasSoundParts, reference, run_ends, run_exists, runs_are_one, runs_join}
use Rattle.ds_machine.proofs.MachineSchedule.{reference_schedules}
use Rattle.ds_machine.proofs.laws.reference_laws.Goals as goal

pub returns : goal.returns
returns c = record {
  join = runs_join reference;
  one = runs_are_one reference;
  exist = run_exists reference 24 HasSoundParts reference_schedules;
  end = run_ends reference 24 HasSoundParts reference_schedules;
}
