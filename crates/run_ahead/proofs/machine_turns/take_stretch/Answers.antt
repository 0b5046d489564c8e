use Rattle.run_ahead.proofs.Words.{BelongsToTurn, Ends, HasEnds, LeftOut, MachineState, Option, TakesSteps, Tick, TookStretch, [], ap, arith}
use Rattle.run_ahead.proofs.Words.{last_limit, more_steps, no_steps, own_remaining, running_along, subst, sym, true≢false, turn_steps_fall, ◌<◌}
use Rattle.ds_machine.proofs.EndTicks.{ends_after}
use Rattle.run_ahead.proofs.Stretches.{own_along, sound_along, takes_twice, took_twice}
use Rattle.run_ahead.proofs.machine_turns.take_stretch.Goals as goal

pub steps-init : goal.steps-init
steps-init c = (no_steps c.args.machine.now, c.requires.running, c.requires.limit, c.requires.ends)

pub returns-then-go_fast : goal.returns-then-go_fast
returns-then-go_fast c = record {
  took = subst (λ (o : Option LeftOut). TookStretch c.args.until.0 c.args.proc c.args.machine.now o c.go_fast.new.self) (sym c.steps.invariant.1) ((takes_twice c.args.until.0 c.args.proc c.args.machine.now c.steps.machine c.go_fast.new.self c.steps.invariant.0 c.go_fast.ensures.steps), c.go_fast.ensures.over c.if-go_fast.true);
  goes = λ e. c.steps.invariant.1;
  stops = λ e. absurd (true≢false (sym e));
  ends = λ e.
      subst (λ (x : Ends). HasEnds c.args.until.0 c.go_fast.new.self x) (sym c.put.ensures)
      (ends_after c.args.until.0 c.steps.machine c.go_fast.new.self c.steps.ends c.args.proc _ c.steps.invariant.3 c.go_fast.ensures.end c.go_fast.ensures.other c.go_fast.ensures.limit.free
      (ap (λ (t : Tick). t.0) c.tick_of.ensures));
}

pub go_fast-requires-clause-limit : goal.go_fast-requires-clause-limit
go_fast-requires-clause-limit c = c.steps.invariant.2

pub go_fast-requires-clause-end : goal.go_fast-requires-clause-end
go_fast-requires-clause-end c = c.steps.invariant.3.end

pub go_fast-requires-clause-running : goal.go_fast-requires-clause-running
go_fast-requires-clause-running c =
    let early = c.requires.early in
    running_along c.args.until.0 last_limit c.args.proc c.args.machine.now c.steps.machine (omega (arith, early)) c.steps.invariant.0 c.requires.going

pub step_slowly-requires-clause-going : goal.step_slowly-requires-clause-going
step_slowly-requires-clause-going c =
    let early = c.requires.early in
    running_along c.args.until.0 last_limit c.args.proc c.args.machine.now c.go_fast.new.self (omega (arith, early)) (takes_twice c.args.until.0 c.args.proc c.args.machine.now c.steps.machine c.go_fast.new.self c.steps.invariant.0 c.go_fast.ensures.steps) c.requires.going

pub step_slowly-requires-clause-running : goal.step_slowly-requires-clause-running
step_slowly-requires-clause-running c = c.steps.invariant.1

pub returns-in-Over : goal.returns-in-Over
returns-in-Over c =
    let same = sym c.in-Over.ensures.1 in
    let no_steps = c.in-Over.ensures.2 in
    record {
      took = subst (λ (o : Option LeftOut). TookStretch c.args.until.0 c.args.proc c.args.machine.now o c.step_slowly.new.machine) (sym no_steps) (
        subst (λ (m : MachineState). TakesSteps c.args.until.0 c.args.proc c.args.machine.now m) same (takes_twice c.args.until.0 c.args.proc c.args.machine.now c.steps.machine c.go_fast.new.self c.steps.invariant.0 c.go_fast.ensures.steps),
        subst (λ (m : MachineState). (BelongsToTurn c.args.until.0 m c.args.proc → ⊥)) same c.in-Over.ensures.0,
      );
      goes = λ e. no_steps;
      stops = λ e. absurd (true≢false (sym e));
      ends = λ e. c.ends.ensures;
    }

pub returns-in-Stopped : goal.returns-in-Stopped
returns-in-Stopped c =
    let stop = c.in-Stopped.ensures.1 in
    record {
      took = subst (λ (o : Option LeftOut). TookStretch c.args.until.0 c.args.proc c.args.machine.now o c.step_slowly.new.machine) (sym stop.1)
          (c.go_fast.new.self, (takes_twice c.args.until.0 c.args.proc c.args.machine.now c.steps.machine c.go_fast.new.self c.steps.invariant.0 c.go_fast.ensures.steps), c.in-Stopped.ensures.0, stop.2);
      goes = λ e. absurd (true≢false e);
      stops = λ e. (stop.0, stop.1);
      ends = λ e. absurd (true≢false e);
    }

pub steps-preserved : goal.steps-preserved
steps-preserved c = (more_steps c.args.machine.now c.go_fast.new.self c.in-Took.ensures.1.0 c.step_slowly.new.machine (takes_twice c.args.until.0 c.args.proc c.args.machine.now c.steps.machine c.go_fast.new.self c.steps.invariant.0 c.go_fast.ensures.steps) c.in-Took.ensures.0 c.in-Took.ensures.1.1 c.in-Took.ensures.1.2, c.in-Took.ensures.2, c.in-Some.ensures, c.ends-in-steps.ensures)

pub end_slowly-stopped-requires-clause-going : goal.end_slowly-stopped-requires-clause-going
end_slowly-stopped-requires-clause-going c =
    let early = c.requires.early in
    running_along c.args.until.0 last_limit c.args.proc c.args.machine.now c.step_slowly.new.machine (omega (arith, early))
    (more_steps c.args.machine.now c.go_fast.new.self c.in-Took.ensures.1.0 c.step_slowly.new.machine (takes_twice c.args.until.0 c.args.proc c.args.machine.now c.steps.machine c.go_fast.new.self c.steps.invariant.0 c.go_fast.ensures.steps) c.in-Took.ensures.0 c.in-Took.ensures.1.1 c.in-Took.ensures.1.2) c.requires.going

pub returns-in-None-clause-took : goal.returns-in-None-clause-took
returns-in-None-clause-took c = took_twice c.args.until.0 c.args.proc c.args.machine.now c.step_slowly.new.machine c.end_slowly-stopped.new.machine c.end_slowly-stopped.new.stop
    (more_steps c.args.machine.now c.go_fast.new.self c.in-Took.ensures.1.0 c.step_slowly.new.machine (takes_twice c.args.until.0 c.args.proc c.args.machine.now c.steps.machine c.go_fast.new.self c.steps.invariant.0 c.go_fast.ensures.steps) c.in-Took.ensures.0 c.in-Took.ensures.1.1 c.in-Took.ensures.1.2) c.end_slowly-stopped.ensures.took

pub steps-smaller : goal.steps-smaller
steps-smaller c =
    let before = sound_along c.args.until.0 c.args.proc c.args.machine.now c.steps.machine c.requires.going.sound c.steps.invariant.0 in
    let sound = sound_along c.args.until.0 c.args.proc c.args.machine.now c.go_fast.new.self c.requires.going.sound (takes_twice c.args.until.0 c.args.proc c.args.machine.now c.steps.machine c.go_fast.new.self c.steps.invariant.0 c.go_fast.ensures.steps) in
    let falls = turn_steps_fall c.args.until.0 c.go_fast.new.self c.in-Took.ensures.1.0 c.step_slowly.new.machine c.args.proc [] sound c.in-Took.ensures.0 c.in-Took.ensures.1.1 c.in-Took.ensures.1.2 in
    let after = own_along c.args.until.0 c.args.proc c.steps.machine c.go_fast.new.self before c.go_fast.ensures.steps in
    let fewer : own_remaining c.args.until.0 c.step_slowly.new.machine c.args.proc < own_remaining c.args.until.0 c.steps.machine c.args.proc = omega (arith, falls, after) in
    fewer
