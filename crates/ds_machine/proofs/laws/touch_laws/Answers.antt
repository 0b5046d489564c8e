use Rattle.ds_machine.proofs.Files.{steps_keep_file}
use Rattle.ds_machine.proofs.Touched.{each_touches}
use Rattle.ds_machine.proofs.laws.touch_laws.Goals as goal

pub returns-clause-actors : goal.returns-clause-actors
returns-clause-actors c = each_touches

pub returns-clause-file : goal.returns-clause-file
returns-clause-file c = steps_keep_file
