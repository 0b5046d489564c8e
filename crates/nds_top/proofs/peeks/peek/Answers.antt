use Rattle.nds_top.proofs.Words.{GivesBy, Some, Status, WroteAfter, around, inl, inr, option_map, peeked, played_status, refl, seated_is, subst, sym}
use Rattle.nds_top.proofs.Viewing.{wrote_in}
use Rattle.nds_top.proofs.peeks.peek.Goals as goal

pub returns-in-Err-clause-answer : goal.returns-in-Err-clause-answer
returns-in-Err-clause-answer g c = inr ((refl, c.in-Err.ensures.none), c.in-Err.ensures.err)

pub returns-clause-answer : goal.returns-clause-answer
returns-clause-answer g c =
    let on = c.in_default.ensures.ok in
    let name = c.args.files.cart.now in
    let keys = option_map (λ name. name.now) c.args.files.keys in
    let bytes = peeked c.args.memory c.args.place c.args.count in
    let call = around g.F.Shelf.told g.F.Shelf.faults g.O.Sink.tells g.O.Sink.taken g.O.Sink.faults c.args.shelf.now c.seat_run.new.shelf c.args.out.now c.peek-played.new.out (Some c.peek-played.new.console) in
    let t = wrote_in g.F.Shelf.told g.F.Shelf.faults g.O.Sink.tells g.O.Sink.taken g.O.Sink.faults c.args.shelf.now c.seat_run.new.shelf c.args.out.now c.peek-played.new.out
    c.args.ticks bytes on.0 on.1 c.in-Some.console c.peek-played.new.console c.peek-played.result (seated_is _ name keys c.seat_run.new.seat c.in-Some.console on c.in-Some.is) c.peek-played.ensures in
    let P : Status → Type 0 = λ s. GivesBy call name keys (WroteAfter call c.args.ticks bytes s) name s in
    let gives : P (played_status c.peek-played.result) = inl (on.0, on.1, on.2, on.3, t) in
    subst P (sym c.status_of-status.ensures) gives
