use Rattle.nds_top.proofs.Words.{ConsoleState, RunsSo, inl, inr, machine_booted, option_map, refl, seated_is, subst, switched_on}
use Rattle.nds_top.proofs.Answering.{ran_from}
use Rattle.nds_top.proofs.Running.{at_ticks}
use Rattle.nds_top.proofs.runs.run.Goals as goal

pub returns-in-Err-clause-answer : goal.returns-in-Err-clause-answer
returns-in-Err-clause-answer g c = inr ((refl, c.in-Err.ensures.none), c.in-Err.ensures.err)

pub returns-clause-answer : goal.returns-clause-answer
returns-clause-answer g c =
    let on = c.in_default.ensures.ok in
    let start = switched_on (machine_booted on.0 on.1) in
    let console = c.run_seated-status.new.console in
    let is = seated_is _ c.args.files.cart.now (option_map (λ name. name.now) c.args.files.keys) c.seat_run.new.seat c.in-Some.console on c.in-Some.is in
    let ran = subst (λ (k : ConsoleState). RunsSo g.O.Sink.tells g.O.Sink.taken g.O.Sink.faults c.args.ticks c.args.keep k c.args.out.now c.run_seated-status.result console c.run_seated-status.new.out)
    is c.run_seated-status.ensures in
    inl (
      on.0,
      on.1,
      on.2,
      on.3,
      ran_from g.F.Shelf.told g.F.Shelf.faults g.O.Sink.tells g.O.Sink.taken g.O.Sink.faults c.args.shelf.now c.seat_run.new.shelf c.args.out.now c.run_seated-status.new.out
          c.args.ticks c.args.keep start console c.run_seated-status.result (λ limit e. at_ticks limit c.args.ticks e) ran,
    )
