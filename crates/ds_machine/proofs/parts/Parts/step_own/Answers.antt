use Rattle.ds_machine.proofs.Words.{Processor, Some, awake, done_of, due_of_may, may_early, step_by, stepped_of, steps_as, subst, sym, ℕ, ◌∙◌, ◌≡◌}
use Rattle.ds_machine.specs.Private as private
use Rattle.ds_machine.proofs.GoingSteps.{actor_is}
use Rattle.ds_machine.proofs.Running.{few_steps}
use Rattle.ds_machine.proofs.parts.Parts.step_own.Goals as goal

pub step_processor-requires-clause-early : goal.step_processor-requires-clause-early
step_processor-requires-clause-early c =
    may_early c.args.self.now (private.rank_of c.args.proc) (Processor c.args.proc) c.in-Some.tick c.requires.may (actor_is c.args.proc) (sym c.in-Some.ensures)

pub step_processor-requires-clause-counted : goal.step_processor-requires-clause-counted
step_processor-requires-clause-counted c = few_steps c.args.proc c.args.self.now c.requires.running

pub returns-in-Some : goal.returns-in-Some
returns-in-Some c =
    let s = c.args.self.now in
    let a = Processor c.args.proc in
    let came = stepped_of s (done_of c.step_processor.new.stop) c.step_processor.new.self in
    steps_as s (private.rank_of c.args.proc) a (Some c.in-Some.tick) came (actor_is c.args.proc) (sym c.in-Some.ensures)
    (subst (λ (r : ℕ). awake (Some c.in-Some.tick) (step_by r a s) ≡ came) c.rank_of.ensures c.step_processor.ensures)

pub returns-in_default : goal.returns-in_default
returns-in_default c =
    let s = c.args.self.now in
    absurd (c.in_default.not-Some c.requires.may.tick
    (c.processor_due.ensures ∙ due_of_may s (private.rank_of c.args.proc) (Processor c.args.proc) c.requires.may (actor_is c.args.proc)))
