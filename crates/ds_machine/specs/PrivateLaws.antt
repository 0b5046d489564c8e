use Rattle.std.specs.Prelude.{ℕ, ◌↔◌, ◌≡◌, ◌<◌, ◌≤◌, true, false, List, [], Some}
use Rattle.ds_base.specs.declared.left_out.LeftOut.{LeftOut}
use Rattle.ds_base.specs.declared.processors.Proc.{Proc}
use Rattle.ds_base.specs.declared.ticks.Tick.{Tick}
use Rattle.arm_core.specs.Steps.{enters}
use Rattle.ds_runs.specs.Actors.{actor_of}
use Rattle.ds_runs.specs.Runs.{Ending, Makes, Runs, due_at}
use Rattle.ds_machine.specs.Acting.{acting_dues}
use Rattle.ds_machine.specs.Hearing.{Fences}
use Rattle.ds_machine.specs.Reference.{Shown, reference, reference_step}
use Rattle.ds_machine.specs.Sound.{IsSound}
use Rattle.ds_machine.specs.States.{MachineState}
use Rattle.ds_machine.specs.Steps.{is_blocked, line_of, processor_of, tick_of}
use Rattle.ds_machine.specs.Private.{IsAhead, IsBelowFence, ProcessorStaysPrivate, is_deaf, rank_of}

-- What is kept of a processor's private step while others step, its fence, and what running ahead comes to.

-- So it stays while others step, but for the line, which others may raise while the I flag is set.
pub record IsHarmless (s : MachineState) (proc : Proc) : Type 0 where
  pub free : is_blocked s proc ≡ false
  pub quiet : enters (line_of s proc) (processor_of s proc).registers ≡ false
  pub deaf : is_deaf s proc ≡ true
  pub own : ProcessorStaysPrivate s proc

-- the fence of a processor: the least tick at which one acts of those that may halt it, wake it or make it wait
pub record IsFence (s : MachineState) (proc : Proc) (fence : Tick) : Type 0 where
  pub rank : ℕ
  pub there : due_at (acting_dues s) rank ≡ Some fence
  pub fences : Fences (actor_of rank) proc s
  pub least : (other : ℕ) (at : Tick) → due_at (acting_dues s) other ≡ Some at → Fences (actor_of other) proc s → fence.0 ≤ at.0

-- ---- what running ahead comes to

-- a processor's step at a tick is one that others leave as it is, whoever steps first: it is harmless and below the processor's fence, and nothing is
-- to be settled, or to be woken
pub record RunsAhead (proc : Proc) (s : MachineState) (t : Tick) : Type 0 where
  pub sound : IsSound s
  pub harmless : IsHarmless s proc
  pub tick : t ≡ tick_of (processor_of s proc)
  pub below : IsBelowFence s proc t

-- a step that may be taken before its turn is taken, puts out nothing, and leaves a sound machine
pub record StepsAlone (s : MachineState) (proc : Proc) : Type 0 where
  pub next : MachineState
  pub makes : reference_step (rank_of proc) s ≡ Makes next []
  pub sound : IsSound next

abbrev pub AheadSteps : Type 0
AheadSteps = (s : MachineState) (proc : Proc) → IsSound s → IsAhead s proc → StepsAlone s proc

-- taken before its turn, it changes neither where a run to a later tick ends nor what that run puts out
abbrev pub AheadRuns : Type 0
AheadRuns = (s next : MachineState) (proc : Proc) (limit : ℕ) → IsSound s → IsAhead s proc → (processor_of s proc).due < limit
    → reference_step (rank_of proc) s ≡ Makes next []
    → (end : Ending MachineState LeftOut) (outs : List Shown) → Runs reference limit end s outs ↔ Runs reference limit end next outs
