use Rattle.nds_top.proofs.Words.{GivesBy, None, Status, TracedBy, around, inl, inr, machine_booted, option_map, played_status, refl, seated_is, subst}
use Rattle.nds_top.proofs.Words.{sym}
use Rattle.nds_top.proofs.Viewing.{traced_in}
use Rattle.nds_top.proofs.steps.trace_seated.Goals as goal

pub returns-in-Err-clause-answer : goal.returns-in-Err-clause-answer
returns-in-Err-clause-answer g c = inr ((refl, refl), c.in-Err.ensures.err)

pub returns-clause-answer : goal.returns-clause-answer
returns-clause-answer g c =
    let on = c.in_default.ensures.ok in
    let name = c.args.files.cart.now in
    let keys = option_map (λ name. name.now) c.args.files.keys in
    let call = around g.F.Shelf.told g.F.Shelf.faults g.O.Sink.tells g.O.Sink.taken g.O.Sink.faults c.args.shelf.now c.seat_run.new.shelf c.args.out.now c.trace-played.new.out None in
    let t = traced_in g.F.Shelf.told g.F.Shelf.faults g.O.Sink.tells g.O.Sink.taken g.O.Sink.faults c.args.shelf.now c.seat_run.new.shelf c.args.out.now c.trace-played.new.out
    c.args.ticks c.args.proc c.args.count (machine_booted on.0 on.1) c.in-Some.console c.trace-played.result (seated_is _ name keys c.seat_run.new.seat c.in-Some.console on c.in-Some.is) c.trace-played.ensures in
    let P : Status → Type 0 = λ s. GivesBy call name keys (TracedBy call c.args.ticks c.args.proc c.args.count s) name s in
    let gives : P (played_status c.trace-played.result) = inl (on.0, on.1, on.2, on.3, t) in
    subst P (sym c.status_of-status.ensures) gives
