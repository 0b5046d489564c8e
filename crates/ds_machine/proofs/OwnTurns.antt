use Rattle.ds_machine.proofs.Words.{CatchesUpFor, HasBothStatuses, IsRunning, MachineState, MayAct, MayStep, Proc, Tick, actor_of, arith, last_limit}
use Rattle.ds_machine.proofs.Words.{observes_by, rank_of, ◌^◌, ◌≤◌}
use Rattle.ds_machine.specs.declared.answers.Done as answer
use Rattle.ds_machine.proofs.ActingSteps.{acting_may_step}
use Rattle.ds_machine.proofs.CatchingUp.{caught_for, caught_statuses}
use Rattle.ds_machine.proofs.Running.{running_before}

-- A processor's step of a turn, before which geometry caught up where the step observes it.

-- what is so once geometry caught up
pub record MayGo (caught : MachineState) (proc : Proc) : Type 0 where
  pub may : MayStep caught (rank_of proc)
  pub running : IsRunning last_limit caught
  pub statuses : HasBothStatuses caught

pub may_go : (s caught : MachineState) (proc : Proc) (tick : Tick) → IsRunning last_limit s → tick.0 ≤ 2 ^ 56
    → MayAct s tick (rank_of proc) → HasBothStatuses s → CatchesUpFor tick.0 (rank_of proc) s caught → MayGo caught proc
may_go s caught proc tick running early may has catches =
    let rank = rank_of proc in
    record {
      may = (acting_may_step s caught tick rank running.sound may early catches).may;
      running = running_before last_limit s caught tick rank may catches (omega (arith, early)) running;
      statuses = caught_statuses tick.0 rank s caught running.sound (caught_for (observes_by (actor_of rank) s) tick.0 rank s caught catches) has;
    }
