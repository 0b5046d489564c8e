use Rattle.ds_machine.proofs.StopKinds.{no_stop_is_not_yet}
use Rattle.ds_machine.proofs.stopping.stop_laws.Goals as goal

pub returns : goal.returns
returns c = record { kinds = no_stop_is_not_yet }
