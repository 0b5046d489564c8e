use Rattle.std.proofs.Common.{◌≡◌, drop, map}
use Rattle.ds_state.specs.Formats.{bytes_written, written_each}
use Rattle.gx_matrix.specs.Saved.{matrix_format, pose_half}
use Rattle.gx_matrix.proofs.currents.saved.put_halves.Given as goal

abbrev pub invariant-loop-pose : goal.invariant-loop-pose
invariant-loop-pose l =
    written_each (bytes_written matrix_format) l.into (map (pose_half l.fn.vector) (drop l.pose-index l.poses))
    ≡ written_each (bytes_written matrix_format) l.fn.into (map (pose_half l.fn.vector) l.fn.poses)
