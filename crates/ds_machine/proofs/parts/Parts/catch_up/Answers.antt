use Rattle.ds_machine.proofs.Words.{arith, inl, inr, last_limit, more_geometry, no_geometry, run_of, sym, ◌∙◌, ◌≤◌}
use Rattle.ds_machine.proofs.CatchingUp.{behind_early, behind_is, caught_so, fewer_left}
use Rattle.ds_machine.proofs.Running.{few_events, running_taken}
use Rattle.ds_machine.proofs.parts.Parts.catch_up.Goals as goal

pub steps-init : goal.steps-init
steps-init c = no_geometry c.args.self.now

pub step_quiet-requires-clause-sound : goal.step_quiet-requires-clause-sound
step_quiet-requires-clause-sound c = (caught_so c.args.tick.0 c.args.rank c.args.self.now c.steps.self c.requires.running.sound c.steps.invariant).sound

pub step_quiet-requires-clause-quiet : goal.step_quiet-requires-clause-quiet
step_quiet-requires-clause-quiet c = (behind_is c.args.tick.0 c.args.rank c.steps.self (sym c.is_behind.ensures ∙ c.steps-test.true)).quiet

pub step_quiet-requires-clause-early : goal.step_quiet-requires-clause-early
step_quiet-requires-clause-early c = behind_early c.args.tick.0 c.args.rank c.steps.self (sym c.is_behind.ensures ∙ c.steps-test.true) c.requires.early

pub step_quiet-requires-clause-counted : goal.step_quiet-requires-clause-counted
step_quiet-requires-clause-counted c =
    let early = c.requires.early in
    few_events c.steps.self (running_taken last_limit c.args.tick.0 c.args.rank c.args.self.now c.steps.self c.requires.before (λ u le earlier. omega (arith, le, early)) c.steps.invariant c.requires.running)

pub step_quiet-requires-clause-run : goal.step_quiet-requires-clause-run
step_quiet-requires-clause-run c =
    let early = c.requires.early in
    let running = running_taken last_limit c.args.tick.0 c.args.rank c.args.self.now c.steps.self c.requires.before (λ u le earlier. omega (arith, le, early)) c.steps.invariant c.requires.running in
    let k = behind_is c.args.tick.0 c.args.rank c.steps.self (sym c.is_behind.ensures ∙ c.steps-test.true) in
    let few : run_of c.steps.self ≤ k.next.0 = running.run.own k.next k.due in
    elim k.earlier [ inl lt ↦ omega (arith, few, lt, early) | inr e ↦ (let same = e.0 in omega (arith, few, same, early)) ]

pub steps-smaller : goal.steps-smaller
steps-smaller c =
    fewer_left c.args.tick.0 c.args.rank c.steps.self c.step_quiet.new.self (caught_so c.args.tick.0 c.args.rank c.args.self.now c.steps.self c.requires.running.sound c.steps.invariant).sound
    (sym c.is_behind.ensures ∙ c.steps-test.true) c.step_quiet.ensures

pub steps-preserved : goal.steps-preserved
steps-preserved c = more_geometry c.args.self.now c.steps.self c.step_quiet.new.self c.steps.invariant (sym c.is_behind.ensures ∙ c.steps-test.true) c.step_quiet.ensures
