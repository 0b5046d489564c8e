use Rattle.std.proofs.Common.{◌≡◌, ◌-◌, length, map, take, not}
use Rattle.ds_state.specs.Reading.{read_format, read_list}
use Rattle.ds_state.specs.Loops.{with_front}
use Rattle.gx_matrix.specs.Saved.{matrix_format, pose_half}
use Rattle.gx_matrix.proofs.currents.saved.take_halves.Given as goal

abbrev pub invariant-loop-i : goal.invariant-loop-i
invariant-loop-i l =
    let reader = read_format matrix_format l.fn.at in
    record {
      reads : with_front (map (pose_half l.fn.vector) (take l.i l.poses)) (read_list reader (length l.fn.poses - l.i) l.from) ≡ read_list reader (length l.fn.poses) l.fn.from;
      others : map (pose_half (not l.fn.vector)) l.poses ≡ map (pose_half (not l.fn.vector)) l.fn.poses;
      long : length l.poses ≡ length l.fn.poses;
    }
