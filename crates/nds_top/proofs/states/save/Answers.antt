use Rattle.nds_top.proofs.Words.{ConsoleState, GivesBy, IsReady, IsSomeAnd, Option, SavedBy, Some, Status, around, inl, inr, option_map}
use Rattle.nds_top.proofs.Words.{played_status, refl, seated_is, subst, sym}
use Rattle.nds_top.proofs.Viewing.{saved_in}
use Rattle.nds_top.proofs.states.save.Goals as goal

pub returns-in-Err-clause-answer : goal.returns-in-Err-clause-answer
returns-in-Err-clause-answer g c = inr ((refl, c.in-Err.ensures.none), c.in-Err.ensures.err)

pub returns-clause-answer : goal.returns-clause-answer
returns-clause-answer g c =
    let on = c.in_default.ensures.ok in
    let name = c.args.files.cart.now in
    let keys = option_map (λ name. name.now) c.args.files.keys in
    let IsIn : Option ConsoleState → Type 0 = λ o. IsSomeAnd o IsReady in
    let ready = subst IsIn c.in-Some.is c.in_default.ensures.ready in
    let call = around g.F.Shelf.told g.F.Shelf.faults g.O.Sink.tells g.O.Sink.taken g.O.Sink.faults c.args.shelf.now c.seat_run.new.shelf c.args.out.now c.save.new.out (Some c.save.new.console) in
    let t = saved_in g.F.Shelf.told g.F.Shelf.faults g.O.Sink.tells g.O.Sink.taken g.O.Sink.faults c.args.shelf.now c.seat_run.new.shelf c.args.out.now c.save.new.out
    c.args.ticks on.0 on.1 c.in-Some.console c.save.new.console c.in-Ok.played (seated_is _ name keys c.seat_run.new.seat c.in-Some.console on c.in-Some.is)
    ready c.in-Ok.ensures.ok c.in-Ok.ensures.back in
    let P : Status → Type 0 = λ s. GivesBy call name keys (SavedBy call c.args.ticks s) name s in
    let gives : P (played_status c.in-Ok.played) = inl (on.0, on.1, on.2, on.3, t) in
    subst P (sym c.status_of-status.ensures) gives
