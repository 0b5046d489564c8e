use Rattle.ds_machine.proofs.Words.{IsRunning, MachineState, MayAct, actor_of, arith, last_limit, observes_by, subst, sym}
use Rattle.ds_machine.proofs.CatchingUp.{caught_for, caught_statuses}
use Rattle.ds_machine.proofs.Running.{running_before}
use Rattle.ds_machine.proofs.machines.Machine.catch_up_before.Goals as goal

pub catch_up_before-requires-clause-running : goal.catch_up_before-requires-clause-running
catch_up_before-requires-clause-running c = subst (IsRunning last_limit) (sym c.self.view_is) c.requires.running

pub invariant_of-self : goal.invariant_of-self
invariant_of-self c =
    let s = c.self.inside.parts in
    let next = c.catch_up_before.new.self in
    let running = subst (IsRunning last_limit) (sym c.self.view_is) c.requires.running in
    let takes = caught_for (observes_by (actor_of c.args.rank) s) c.args.tick.0 c.args.rank s next c.catch_up_before.ensures.caught in (
      c.next_event-next_event.ensures,
      caught_statuses c.args.tick.0 c.args.rank s next running.sound takes c.self.invariant.1,
    )

pub returns-then-catch_up_before-clause-running : goal.returns-then-catch_up_before-clause-running
returns-then-catch_up_before-clause-running c =
    let early = c.requires.early in
    running_before last_limit c.self.inside.parts c.catch_up_before.new.self c.args.tick c.args.rank
    (subst (λ (s : MachineState). MayAct s c.args.tick c.args.rank) (sym c.self.view_is) c.requires.may) c.catch_up_before.ensures.caught (omega (arith, early))
    (subst (IsRunning last_limit) (sym c.self.view_is) c.requires.running)
