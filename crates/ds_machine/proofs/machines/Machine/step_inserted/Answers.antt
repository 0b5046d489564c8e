use Rattle.ds_machine.proofs.Words.{IsRunning, MachineState, MayStep, last_limit, subst, sym}
use Rattle.ds_machine.proofs.Running.{runs_after}
use Rattle.ds_machine.proofs.Statuses.{statuses_done}
use Rattle.ds_machine.proofs.machines.Machine.step_inserted.Goals as goal

pub step_inserted-done-requires-clause-running : goal.step_inserted-done-requires-clause-running
step_inserted-done-requires-clause-running c = subst (IsRunning last_limit) (sym c.self.view_is) c.requires.running

pub invariant_of-self : goal.invariant_of-self
invariant_of-self c = (c.next_event-next_event.ensures, statuses_done c.self.inside.parts c.step_inserted-done.new.self c.args.rank c.step_inserted-done.result c.self.invariant.1 c.step_inserted-done.ensures)

pub returns-clause-running : goal.returns-clause-running
returns-clause-running c =
    runs_after c.self.inside.parts c.step_inserted-done.new.self c.args.rank c.step_inserted-done.result (subst (IsRunning last_limit) (sym c.self.view_is) c.requires.running)
    (subst (λ (s : MachineState). MayStep s c.args.rank) (sym c.self.view_is) c.requires.may) c.step_inserted-done.ensures
