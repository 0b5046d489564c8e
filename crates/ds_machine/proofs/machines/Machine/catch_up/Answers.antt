use Rattle.ds_machine.proofs.Words.{CatchesUp, ComesBeforeAll, IsRunning, MachineState, arith, last_limit, subst, sym, ◌∙◌}
use Rattle.ds_machine.proofs.CatchingUp.{caught_statuses, level_caught}
use Rattle.ds_machine.proofs.Running.{running_taken}
use Rattle.ds_machine.proofs.machines.Machine.catch_up.Goals as goal

pub catch_up-requires-clause-running : goal.catch_up-requires-clause-running
catch_up-requires-clause-running c = subst (IsRunning last_limit) (sym c.self.view_is) c.requires.running

pub catch_up-requires-clause-before : goal.catch_up-requires-clause-before
catch_up-requires-clause-before c = subst (ComesBeforeAll c.args.tick.0 c.args.rank) (sym c.self.view_is) c.requires.before

pub invariant_of-self : goal.invariant_of-self
invariant_of-self c = (
  c.next_event-next_event.ensures,
  caught_statuses c.args.tick.0 c.args.rank c.self.inside.parts c.catch_up.new.self (subst (IsRunning last_limit) (sym c.self.view_is) c.requires.running).sound c.catch_up.ensures.steps
      c.self.invariant.1,
)

pub returns-then-is_behind-clause-running : goal.returns-then-is_behind-clause-running
returns-then-is_behind-clause-running c =
    let early = c.requires.early in
    running_taken last_limit c.args.tick.0 c.args.rank c.self.inside.parts c.catch_up.new.self (subst (ComesBeforeAll c.args.tick.0 c.args.rank) (sym c.self.view_is) c.requires.before)
    (λ u le earlier. omega (arith, early, le)) c.catch_up.ensures.steps (subst (IsRunning last_limit) (sym c.self.view_is) c.requires.running)

pub returns-else-is_behind : goal.returns-else-is_behind
returns-else-is_behind c = record {
  caught = subst (λ (m : MachineState). CatchesUp c.args.tick.0 c.args.rank m m) c.self.view_is
      (level_caught c.args.tick.0 c.args.rank c.self.inside.parts (sym c.is_behind.ensures ∙ c.if-is_behind.false));
  running = c.requires.running;
}
