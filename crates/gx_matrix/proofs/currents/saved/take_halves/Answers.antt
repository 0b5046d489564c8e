use Rattle.std.proofs.Common.{◌≡◌, ◌<◌, ◌+◌, ◌++◌, ◌∷◌, [], length, map, not, take, slice_set, ap, ◌∙◌, arith}
use Rattle.std.proofs.lemmas.List.{map_push, take_more_set, length-set}
use Rattle.ds_state.specs.Reading.{read_format, read_list}
use Rattle.ds_state.proofs.Loop.{goes_on}
use Rattle.line_lanes.specs.declared.matrices.Matrix.{Matrix}
use Rattle.gx_matrix.specs.Saved.{matrix_format, pose_half}
use Rattle.gx_matrix.proofs.Poses.{same_half}
use Rattle.gx_matrix.proofs.currents.saved.take_halves.Goals as goal

pub loop-i-preserved : goal.loop-i-preserved
loop-i-preserved c =
    let reader = read_format matrix_format c.args.at in
    let half = pose_half c.args.vector in
    let before = c.loop-i.poses in
    let i = c.loop-i.i in
    let x = c.with_half.result in
    let m = c.in_ok-take_matrix.field-0 in
    let long = c.loop-i.invariant.long in
    let within : i < length before = omega (arith, c.loop-i-test.true, long) in
    let e : map half (take (i + 1) (slice_set before i x)) ≡ map half (take i before) ++ m ∷ [] =
    ap (map half) (take_more_set before i x within) ∙ map_push half (take i before) x ∙ ap (λ (y : Matrix). map half (take i before) ++ y ∷ []) c.with_half.ensures.one in
    let total = read_list reader (length c.args.poses.now) c.args.from.now in
    record {
      reads = rw e (goes_on reader (map half (take i before)) (length c.args.poses.now) i c.loop-i.from m c.take_matrix.new.from total c.loop-i-test.true c.in_ok-take_matrix.ensures c.loop-i.invariant.reads);
      others = same_half (not c.args.vector) before i x _ within c.with_half.ensures.other ∙ c.loop-i.invariant.others;
      long = length-set before i x ∙ long;
    }
