use Rattle.run_ahead.proofs.Words.{BelongsToTurn, LeftOut, MachineState, Option, TakesSteps, TookStretch, [], arith, last_limit, more_steps, no_steps}
use Rattle.run_ahead.proofs.Words.{refl, running_along, subst, sym, turn_steps_fall}
use Rattle.run_ahead.proofs.Stretches.{sound_along}
use Rattle.run_ahead.proofs.machine_turns.take_stretch_slowly.Goals as goal

pub steps-init : goal.steps-init
steps-init c = (no_steps c.args.machine.now, refl)

pub step_slowly-requires-clause-going : goal.step_slowly-requires-clause-going
step_slowly-requires-clause-going c =
    let early = c.requires.early in
    running_along c.args.until.0 last_limit c.args.proc c.args.machine.now c.steps.machine (omega (arith, early)) c.steps.invariant.0 c.requires.going

pub step_slowly-requires-clause-running : goal.step_slowly-requires-clause-running
step_slowly-requires-clause-running c = c.steps.invariant.1

pub returns-in-Over : goal.returns-in-Over
returns-in-Over c =
    let same = sym c.in-Over.ensures.1 in
    subst (λ (o : Option LeftOut). TookStretch c.args.until.0 c.args.proc c.args.machine.now o c.step_slowly.new.machine) (sym c.in-Over.ensures.2) (
      subst (λ (m : MachineState). TakesSteps c.args.until.0 c.args.proc c.args.machine.now m) same c.steps.invariant.0,
      subst (λ (m : MachineState). (BelongsToTurn c.args.until.0 m c.args.proc → ⊥)) same c.in-Over.ensures.0,
    )

pub returns-in-Stopped : goal.returns-in-Stopped
returns-in-Stopped c =
    let stop = c.in-Stopped.ensures.1 in
    subst (λ (o : Option LeftOut). TookStretch c.args.until.0 c.args.proc c.args.machine.now o c.step_slowly.new.machine) (sym stop.1)
    (c.steps.machine, c.steps.invariant.0, c.in-Stopped.ensures.0, stop.2)

pub steps-preserved : goal.steps-preserved
steps-preserved c = (more_steps c.args.machine.now c.steps.machine c.in-Took.ensures.1.0 c.step_slowly.new.machine c.steps.invariant.0 c.in-Took.ensures.0 c.in-Took.ensures.1.1 c.in-Took.ensures.1.2, c.in-Took.ensures.2)

pub steps-smaller : goal.steps-smaller
steps-smaller c =
    let sound = sound_along c.args.until.0 c.args.proc c.args.machine.now c.steps.machine c.requires.going.sound c.steps.invariant.0 in
    turn_steps_fall c.args.until.0 c.steps.machine c.in-Took.ensures.1.0 c.step_slowly.new.machine c.args.proc [] sound c.in-Took.ensures.0 c.in-Took.ensures.1.1 c.in-Took.ensures.1.2
