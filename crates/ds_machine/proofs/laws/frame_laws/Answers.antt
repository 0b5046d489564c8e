use Rattle.ds_machine.proofs.FewFrames.{frames_are_few}
use Rattle.ds_machine.proofs.Frames.{step_follows, step_follows_lists, stop_leaves, stop_leaves_lists}
use Rattle.ds_machine.proofs.laws.frame_laws.Goals as goal

pub returns : goal.returns
returns c = record { step = step_follows; stop = stop_leaves; lists_step = step_follows_lists; lists_stop = stop_leaves_lists; few = frames_are_few }
