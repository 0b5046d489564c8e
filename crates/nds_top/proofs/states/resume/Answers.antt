use Rattle.nds_top.proofs.Words.{ConsoleState, IsSomeAnd, None, Option, inl, inr, option_map, refl, subst, ◌<◌, ◌≡◌}
use Rattle.nds_top.proofs.Answering.{ran_from}
use Rattle.nds_top.proofs.Resuming.{seated_state}
use Rattle.nds_top.proofs.Running.{later_limit}
use Rattle.nds_top.proofs.states.resume.Goals as goal

pub returns-in-Err-clause-answer : goal.returns-in-Err-clause-answer
returns-in-Err-clause-answer g c = inr ((refl, c.in-Err.ensures.none), c.in-Err.ensures.err)

pub returns-clause-answer : goal.returns-clause-answer
returns-clause-answer g c =
    let P : Option ConsoleState → Type 0 = λ o. IsSomeAnd o (λ k. (k.stopped ≡ None) × (k.limit < c.args.ticks)) in
    let start = c.in-Some.console in
    let open_until = subst P c.in-Some.is c.in_default.ensures.open in
    inl (
      start,
      seated_state _ c.args.state.now c.args.files.cart.now (option_map (λ name. name.now) c.args.files.keys) c.args.ticks c.seat_resumed.new.seat start c.in_default.ensures.ok c.in-Some.is,
      ran_from g.F.Shelf.told g.F.Shelf.faults g.O.Sink.tells g.O.Sink.taken g.O.Sink.faults c.args.shelf.now c.seat_resumed.new.shelf c.args.out.now c.run_seated-status.new.out
          c.args.ticks c.args.keep start c.run_seated-status.new.console c.run_seated-status.result (λ limit e. later_limit start.limit limit c.args.ticks open_until.1 e)
          c.run_seated-status.ensures,
    )
