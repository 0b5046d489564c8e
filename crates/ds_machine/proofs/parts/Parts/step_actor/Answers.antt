use Rattle.ds_machine.proofs.Words.{ProcessorState, Some, low_rank, may_due, may_early, stepped_of, steps_as, subst, sym, with_file, ◌^◌, ◌∙◌, ◌≤◌}
use Rattle.ds_machine.proofs.Files.{due_put, own_put}
use Rattle.ds_machine.proofs.Running.{few_events, few_steps, may_fit_run}
use Rattle.ds_machine.proofs.parts.Parts.step_actor.Goals as goal

pub of-actor-requires : goal.of-actor-requires
of-actor-requires c = low_rank (with_file c.args.file.now c.args.self.now) c.args.rank c.requires.may.tick c.requires.may.due

pub step_at-requires-clause-early : goal.step_at-requires-clause-early
step_at-requires-clause-early c =
    let file = c.args.file.now in
    let s = c.args.self.now in
    let a = c.of-actor.result in
    may_early (with_file file s) c.args.rank a c.in-Some.tick c.requires.may (sym c.of-actor.ensures.actor) (due_put file a s ∙ sym c.in-Some.ensures)

pub step_at-requires-clause-counted : goal.step_at-requires-clause-counted
step_at-requires-clause-counted c = λ proc is.
    (let file = c.args.file.now in
    let s = c.args.self.now in
    subst (λ (p : ProcessorState). p.steps ≤ 2 ^ 61) (own_put file s proc) (few_steps proc (with_file file s) c.requires.running))

pub step_at-requires-clause-events : goal.step_at-requires-clause-events
step_at-requires-clause-events c = few_events (with_file c.args.file.now c.args.self.now) c.requires.running

pub step_at-requires-clause-run : goal.step_at-requires-clause-run
step_at-requires-clause-run c =
    may_fit_run (with_file c.args.file.now c.args.self.now) c.args.rank c.of-actor.result c.requires.may c.requires.running (sym c.of-actor.ensures.actor)

pub returns-in-Some : goal.returns-in-Some
returns-in-Some c =
    let s = c.args.self.now in
    let file = c.args.file.now in
    let a = c.of-actor.result in
    let due = Some c.in-Some.tick in
    let came = stepped_of (with_file file s) c.step_at.result (with_file file c.step_at.new.self) in
    steps_as (with_file file s) c.args.rank a due came (sym c.of-actor.ensures.actor) (due_put file a s ∙ sym c.in-Some.ensures) c.step_at.ensures

pub returns-in-None : goal.returns-in-None
returns-in-None c =
    let file = c.args.file.now in
    let s = c.args.self.now in
    let a = c.of-actor.result in
    absurd (may_due (with_file file s) c.args.rank a c.requires.may (sym c.of-actor.ensures.actor) (due_put file a s ∙ sym c.in-None.ensures))
