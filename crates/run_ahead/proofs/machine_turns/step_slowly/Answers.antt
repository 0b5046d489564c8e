use Rattle.run_ahead.proofs.Words.{LeftOut, Option, Steps, ap, arith, done_of, not, rank_of, refl, subst, sym, true≢false, ◌∙◌}
use Rattle.run_ahead.proofs.Stretches.{some_of, told_acts, told_below, told_catches}
use Rattle.run_ahead.proofs.machine_turns.step_slowly.Goals as goal

pub returns-then-not-belongs_by : goal.returns-then-not-belongs_by
returns-then-not-belongs_by c = (λ belongs. true≢false (sym (c.belongs_by.ensures.1 belongs) ∙ c.if-not-belongs_by.true), refl, c.requires.running)

pub step_of_turn-requires-clause-early : goal.step_of_turn-requires-clause-early
step_of_turn-requires-clause-early c =
    let below = told_below c.args.until.0 c.args.machine.now c.args.proc (rank_of c.args.proc) c.tick_of-tick.result refl c.tick_of-tick.ensures (c.belongs_by.ensures.0 c.if-not-belongs_by.false) in
    let early = c.requires.early in
    omega (arith, early, below)

pub step_of_turn-requires-clause-may : goal.step_of_turn-requires-clause-may
step_of_turn-requires-clause-may c =
    told_acts c.args.until.0 c.args.machine.now c.args.proc (rank_of c.args.proc) c.tick_of-tick.result refl c.tick_of-tick.ensures (c.belongs_by.ensures.0 c.if-not-belongs_by.false)

pub returns : goal.returns
returns c =
    let step = c.step_of_turn.ensures.step in
    let there = some_of c.step_of_turn.new.stop (c.is_none.ensures ∙ ap not c.if-is_none.false) in (
      c.belongs_by.ensures.0 c.if-not-belongs_by.false,
      (
        there.0,
        there.1,
        (
          step.0,
          told_catches c.args.until.0 c.args.machine.now c.args.proc (rank_of c.args.proc) c.tick_of-tick.result refl c.tick_of-tick.ensures step.0 step.1,
          subst (λ (o : Option LeftOut). Steps (rank_of c.args.proc) step.0 (done_of o) c.step_of_turn.new.self) there.1 step.2,
        ),
      ),
    )
