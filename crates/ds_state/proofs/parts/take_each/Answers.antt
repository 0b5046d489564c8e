use Rattle.std.proofs.Common.{◌≡◌, ◌<◌, ◌+◌, ◌++◌, ◌∷◌, [], length, map, take, slice_set, ap, ◌∙◌, arith}
use Rattle.std.proofs.lemmas.List.{map_push, take_more_set, length-set}
use Rattle.ds_state.specs.Reading.{read_list}
use Rattle.ds_state.proofs.Loop.{goes_on}
use Rattle.ds_state.proofs.parts.take_each.Goals as goal

pub loop-i-preserved : goal.loop-i-preserved
loop-i-preserved g c =
    let reader = g.T.Part.reader c.args.at in
    let state = g.T.Part.state in
    let before = c.loop-i.into in
    let i = c.loop-i.i in
    let x = c.in_ok-into.field-0 in
    let long = c.loop-i.invariant.long in
    let within : i < length before = omega (arith, c.loop-i-test.true, long) in
    let e : map state (take (i + 1) (slice_set before i x)) ≡ map state (take i before) ++ state x ∷ [] =
    ap (map state) (take_more_set before i x within) ∙ map_push _ (take i before) x in
    record {
      reads = rw e (goes_on reader (map state (take i before)) (length c.args.into.now) i c.loop-i.from (state x) c.take.new.from (read_list reader (length c.args.into.now) c.args.from.now) c.loop-i-test.true c.in_ok-into.ensures c.loop-i.invariant.reads);
      long = length-set before i x ∙ long;
    }
