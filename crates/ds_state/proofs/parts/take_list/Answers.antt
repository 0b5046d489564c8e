use Rattle.std.proofs.Common.{◌≡◌, ◌++◌, ◌∷◌, [], map, refl}
use Rattle.std.proofs.lemmas.Result.{err_from_is_err_and}
use Rattle.std.proofs.lemmas.List.{map_push, length-append}
use Rattle.ds_state.specs.Reading.{read_list}
use Rattle.ds_state.proofs.Loop.{goes_on, ends, fails_in}
use Rattle.ds_state.proofs.parts.take_list.Goals as goal

pub returns-in_err-part-clause-reads : goal.returns-in_err-part-clause-reads
returns-in_err-part-clause-reads g c =
    let p = err_from_is_err_and c.from_residual.result c.from_residual.ensures.1 in
    let reader = g.T.Part.reader c.args.at in
    rw (p.1, p.2) (ends c.in_err-part.field-0.0 reader (map (g.T.Part.state) c.loop.parts.items) c.args.count c.loop.counter c.loop.from (read_list reader c.args.count c.args.from.now) c.loop-test.true (fails_in c.in_err-part.field-0.0 (reader c.loop.from) c.in_err-part.ensures) c.loop.invariant.reads)

pub loop-preserved : goal.loop-preserved
loop-preserved g c =
    let reader = g.T.Part.reader c.args.at in
    let state = g.T.Part.state in
    let x = c.in_ok-part.part in
    let e : map state c.push.new.self.items ≡ map state c.loop.parts.items ++ state x ∷ [] = rw c.in_ok-push.ensures.items (map_push _ c.loop.parts.items x) in
    record {
      reads = rw e (goes_on reader (map state c.loop.parts.items) c.args.count c.loop.counter c.loop.from (state x) c.take.new.from (read_list reader c.args.count c.args.from.now) c.loop-test.true c.in_ok-part.ensures c.loop.invariant.reads);
      long = rw (c.in_ok-push.ensures.items, length-append, c.loop.invariant.long) refl;
    }
