use Rattle.ds_machine.proofs.Words.{IsRunning, List, MachineState, MayStep, last_limit, subst, sym, with_file, ℕ}
use Rattle.ds_machine.specs.StepAnswers.{Steps}
use Rattle.ds_machine.proofs.Files.{may_step_put}
use Rattle.ds_machine.proofs.Running.{runs_after}
use Rattle.ds_machine.proofs.Statuses.{statuses_done}
use Rattle.ds_machine.proofs.machines.Machine.step.Goals as goal

pub step_actor-done-requires-clause-running : goal.step_actor-done-requires-clause-running
step_actor-done-requires-clause-running c =
    subst (λ (f : List ℕ). IsRunning last_limit (with_file f c.self.inside.parts)) (sym c.bytes.ensures.bytes)
    (subst (λ (s : MachineState). IsRunning last_limit (with_file c.args.cart.now s)) (sym c.self.view_is) c.requires.running)

pub step_actor-done-requires-clause-may : goal.step_actor-done-requires-clause-may
step_actor-done-requires-clause-may c =
    may_step_put c.bytes.result.now c.self.inside.parts c.args.rank (subst (λ (s : MachineState). MayStep s c.args.rank) (sym c.self.view_is) c.requires.may)

pub invariant_of-self : goal.invariant_of-self
invariant_of-self c =
    let file = c.bytes.result.now in
    let old = c.self.inside.parts in
    let next = c.step_actor-done.new.self in
    let has = c.self.invariant.1 in
    let left =
    statuses_done (with_file file old) (with_file file next) c.args.rank c.step_actor-done.result (record { nine = has.nine; seven = has.seven })
    c.step_actor-done.ensures in
    (c.next_event-next_event.ensures, record { nine = left.nine; seven = left.seven })

pub returns-clause-step : goal.returns-clause-step
returns-clause-step c =
    let next = c.step_actor-done.new.self in
    let file = c.args.cart.now in
    subst (λ (s : MachineState). Steps c.args.rank (with_file file s) c.step_actor-done.result (with_file file next)) c.self.view_is
    (subst (λ (f : List ℕ). Steps c.args.rank (with_file f c.self.inside.parts) c.step_actor-done.result (with_file f next)) c.bytes.ensures.bytes
    c.step_actor-done.ensures)

pub returns-clause-running : goal.returns-clause-running
returns-clause-running c =
    let file = c.args.cart.now in
    let old = c.self.inside.parts in
    let next = c.step_actor-done.new.self in
    runs_after (with_file file old) (with_file file next) c.args.rank c.step_actor-done.result
    (subst (λ (s : MachineState). IsRunning last_limit (with_file file s)) (sym c.self.view_is) c.requires.running)
    (may_step_put file old c.args.rank (subst (λ (s : MachineState). MayStep s c.args.rank) (sym c.self.view_is) c.requires.may))
    (subst (λ (f : List ℕ). Steps c.args.rank (with_file f old) c.step_actor-done.result (with_file f next)) c.bytes.ensures.bytes c.step_actor-done.ensures)
