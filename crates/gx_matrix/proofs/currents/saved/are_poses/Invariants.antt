use Rattle.std.proofs.Common.{ℕ, ◌<◌, slice_index_or}
use Rattle.gx_matrix.specs.Commands.{zero_pose}
use Rattle.gx_matrix.specs.Saved.{IsPose}
use Rattle.gx_matrix.proofs.currents.saved.are_poses.Given as goal

abbrev pub invariant-loop-pose : goal.invariant-loop-pose
invariant-loop-pose l = (i : ℕ) → i < l.pose-index → IsPose (slice_index_or l.poses i zero_pose)
