use Rattle.ds_machine.proofs.Words.{CatchesUpFor, IsRunning, MachineState, MayAct, done_of, last_limit, rank_of, subst, sym, ℕ}
use Rattle.ds_machine.proofs.OwnTurns.{may_go}
use Rattle.ds_machine.proofs.Running.{runs_after}
use Rattle.ds_machine.proofs.Statuses.{statuses_done}
use Rattle.ds_machine.proofs.machines.Machine.step_of_turn.Goals as goal

pub catch_up_before-caught-requires-clause-running : goal.catch_up_before-caught-requires-clause-running
catch_up_before-caught-requires-clause-running c = subst (IsRunning last_limit) (sym c.self.view_is) c.requires.running

pub catch_up_before-caught-requires-clause-may : goal.catch_up_before-caught-requires-clause-may
catch_up_before-caught-requires-clause-may c =
    subst (λ (r : ℕ). MayAct c.self.inside.parts c.args.tick r) (sym c.rank_of-rank.ensures)
    (subst (λ (s : MachineState). MayAct s c.args.tick (rank_of c.args.proc)) (sym c.self.view_is) c.requires.may)

pub step_own-requires-clause-may : goal.step_own-requires-clause-may
step_own-requires-clause-may c =
    let old = c.self.inside.parts in
    let caught = c.catch_up_before-caught.new.self in
    (may_go old caught c.args.proc c.args.tick (subst (IsRunning last_limit) (sym c.self.view_is) c.requires.running)
    c.requires.early (subst (λ (s : MachineState). MayAct s c.args.tick (rank_of c.args.proc)) (sym c.self.view_is) c.requires.may) c.self.invariant.1
    (subst (λ (r : ℕ). CatchesUpFor c.args.tick.0 r old caught) c.rank_of-rank.ensures c.catch_up_before-caught.ensures.caught)).may

pub step_own-requires-clause-running : goal.step_own-requires-clause-running
step_own-requires-clause-running c =
    let old = c.self.inside.parts in
    let caught = c.catch_up_before-caught.new.self in
    (may_go old caught c.args.proc c.args.tick (subst (IsRunning last_limit) (sym c.self.view_is) c.requires.running)
    c.requires.early (subst (λ (s : MachineState). MayAct s c.args.tick (rank_of c.args.proc)) (sym c.self.view_is) c.requires.may) c.self.invariant.1
    (subst (λ (r : ℕ). CatchesUpFor c.args.tick.0 r old caught) c.rank_of-rank.ensures c.catch_up_before-caught.ensures.caught)).running

pub invariant_of-self : goal.invariant_of-self
invariant_of-self c =
    let old = c.self.inside.parts in
    let caught = c.catch_up_before-caught.new.self in
    let go = may_go old caught c.args.proc c.args.tick (subst (IsRunning last_limit) (sym c.self.view_is) c.requires.running)
    c.requires.early (subst (λ (s : MachineState). MayAct s c.args.tick (rank_of c.args.proc)) (sym c.self.view_is) c.requires.may) c.self.invariant.1
    (subst (λ (r : ℕ). CatchesUpFor c.args.tick.0 r old caught) c.rank_of-rank.ensures c.catch_up_before-caught.ensures.caught) in
    (c.next_event-next_event.ensures, statuses_done caught c.step_own.new.self (rank_of c.args.proc) (done_of c.step_own.new.stop) go.statuses c.step_own.ensures)

pub returns-clause-step : goal.returns-clause-step
returns-clause-step c =
    let old = c.self.inside.parts in
    let caught = c.catch_up_before-caught.new.self in
    let catches = subst (λ (r : ℕ). CatchesUpFor c.args.tick.0 r old caught) c.rank_of-rank.ensures c.catch_up_before-caught.ensures.caught in
    (caught, subst (λ (s : MachineState). CatchesUpFor c.args.tick.0 (rank_of c.args.proc) s caught) c.self.view_is catches, c.step_own.ensures)

pub returns-clause-running : goal.returns-clause-running
returns-clause-running c =
    let old = c.self.inside.parts in
    let caught = c.catch_up_before-caught.new.self in
    let go = may_go old caught c.args.proc c.args.tick (subst (IsRunning last_limit) (sym c.self.view_is) c.requires.running)
    c.requires.early (subst (λ (s : MachineState). MayAct s c.args.tick (rank_of c.args.proc)) (sym c.self.view_is) c.requires.may) c.self.invariant.1
    (subst (λ (r : ℕ). CatchesUpFor c.args.tick.0 r old caught) c.rank_of-rank.ensures c.catch_up_before-caught.ensures.caught) in
    runs_after caught c.step_own.new.self (rank_of c.args.proc) (done_of c.step_own.new.stop) go.running go.may c.step_own.ensures
