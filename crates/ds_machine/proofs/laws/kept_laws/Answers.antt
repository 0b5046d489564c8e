use Rattle.ds_machine.proofs.Halting.{boots_keep_no_more, runs_keep_no_more}
use Rattle.ds_machine.proofs.laws.kept_laws.Goals as goal

pub returns : goal.returns
returns c = record {
  boot = boots_keep_no_more;
  run = runs_keep_no_more;
}
