use Rattle.run_ahead.proofs.Words.{MayAct, acting_may_step, arith, inl}
use Rattle.run_ahead.proofs.StepTurns.{event_took}
use Rattle.run_ahead.proofs.machine_turns.take_event.Goals as goal

pub catch_up_before-requires-clause-early : goal.catch_up_before-requires-clause-early
catch_up_before-requires-clause-early c = let early = c.requires.early in let below = c.requires.below in omega (arith, early, below)

pub catch_up_before-requires-clause-may : goal.catch_up_before-requires-clause-may
catch_up_before-requires-clause-may c = record { due = c.requires.acting.there; may = inl c.requires.acting }

pub step_inserted-requires-clause-may : goal.step_inserted-requires-clause-may
step_inserted-requires-clause-may c =
    let early = c.requires.early in
    let below = c.requires.below in
    let may : MayAct c.args.machine.now c.args.acting.tick c.args.acting.rank = record { due = c.requires.acting.there; may = inl c.requires.acting } in
    (acting_may_step c.args.machine.now c.catch_up_before.new.self c.args.acting.tick c.args.acting.rank c.requires.going.sound may (omega (arith, early, below)) c.catch_up_before.ensures.caught).may

pub returns : goal.returns
returns c =
    event_took c.args.until.0 c.args.machine.now c.catch_up_before.new.self c.step_inserted.new.self c.args.acting.tick c.args.acting.rank c.step_inserted.result c.requires.going.sound c.requires.acting c.requires.event
    c.requires.below c.catch_up_before.ensures.caught c.step_inserted.ensures.step
