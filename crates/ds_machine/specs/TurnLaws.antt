use Rattle.std.specs.Prelude.{ℕ, false, ◌-◌, ◌≡◌, ◌≢◌, ◌<◌, ◌≤◌, ◌^◌, ◌⊎◌, ◌↔◌, max, if◌then◌else◌, List, ◌++◌, Option, Some, None, []}
use Rattle.ds_base.specs.declared.left_out.LeftOut.{LeftOut}
use Rattle.ds_base.specs.declared.processors.Proc.{Proc}
use Rattle.ds_base.specs.declared.processors.Proc.TheVariants.{Nine, Seven}
use Rattle.ds_base.specs.declared.ticks.Tick.{Tick}
use Rattle.ds_runs.specs.Runs.{Ending, IsLeast, Makes, Runs, Stopped, Stops, due_at}
use Rattle.ds_machine.specs.Acting.{acting_dues}
use Rattle.ds_machine.specs.Lagging.{ActsUnobserving, CatchesUpFor}
use Rattle.ds_machine.specs.Private.{IsAhead, rank_of}
use Rattle.ds_machine.specs.Reference.{Shown, dues_of, processor_due, reference, reference_step}
use Rattle.ds_machine.specs.Sound.{IsSound}
use Rattle.ds_machine.specs.States.{MachineState}
use Rattle.ds_machine.specs.Steps.{is_blocked, processor_of}
use Rattle.ds_machine.specs.declared.next_events.Ends.{Ends}
use Rattle.ds_machine.specs.declared.next_events.First.{First}
use Rattle.ds_machine.specs.TurnSteps.{BelongsToTurn}

-- How a turn is found and how it ends, which steps may be taken, and what a turn's steps come to.

-- a processor is the least acting actor, and due below a limit: so a turn of its begins
pub record IsLeastBelow (until : ℕ) (s : MachineState) (proc : Proc) : Type 0 where
  pub tick : Tick
  pub least : IsLeast (acting_dues s) tick (rank_of proc)
  pub below : tick.0 < until

-- due at this tick it would come before all other acting actors
abbrev pub ComesFirst : MachineState → Proc → ℕ → Type 0
ComesFirst s proc tick =
    (other : ℕ) (at : Tick) → other ≢ rank_of proc → due_at (acting_dues s) other ≡ Some at → (tick < at.0) ⊎ ((tick ≡ at.0) × (rank_of proc ≤ other))

-- a processor isn't blocked, and this is the first tick at which it wouldn't be the least acting actor, or not be due below the limit of a turn
pub record HasLimit (until : ℕ) (s : MachineState) (proc : Proc) (limit : ℕ) : Type 0 where
  pub free : is_blocked s proc ≡ false
  pub first : (tick : ℕ) → (tick < limit) ↔ ((tick < until) × ComesFirst s proc tick)

-- a processor is the least acting actor and due below a limit, up to such a tick
pub record IsFirst (until : ℕ) (s : MachineState) (first : First) : Type 0 where
  pub least : IsLeastBelow until s first.proc
  pub limit : HasLimit until s first.proc first.limit

-- a tick comes before all events: before it and at it no actor acts but the processors
abbrev pub ComesBeforeEvents : MachineState → ℕ → Type 0
ComesBeforeEvents s tick = (event : ℕ) (at : Tick) → event < rank_of Nine → due_at (acting_dues s) event ≡ Some at → tick < at.0

-- the first tick that doesn't, or isn't below the limit of a turn
abbrev pub IsTurnEnd : ℕ → MachineState → ℕ → Type 0
IsTurnEnd until s end = (tick : ℕ) → (tick < end) ↔ ((tick < until) × ComesBeforeEvents s tick)

-- when a processor is due; past all ticks of a run while it is blocked
abbrev pub due_or_never : MachineState → Proc → ℕ
due_or_never s proc = max (processor_of s proc).due (if is_blocked s proc then 2 ^ 64 - 1 else 0)

-- by these the processor whose turn begins is found: that tick, where it is known, and when both are due
pub record HasEnds (until : ℕ) (s : MachineState) (ends : Ends) : Type 0 where
  pub end : 0 < ends.end → IsTurnEnd until s ends.end
  pub nine : ends.nine ≡ due_or_never s Nine
  pub seven : ends.seven ≡ due_or_never s Seven

-- an actor may take the next step: it is due at a tick that a run may come to, and is the least; or it is the least acting actor, whose step doesn't
-- observe geometry; or it is a processor that may step before its turn
pub record MayStep (s : MachineState) (rank : ℕ) : Type 0 where
  pub tick : Tick
  pub due : due_at (dues_of s) rank ≡ Some tick
  pub early : tick.0 ≤ 2 ^ 56
  pub may : IsLeast (dues_of s) tick rank ⊎ (ActsUnobserving s rank tick ⊎ ((proc : Proc) × (rank ≡ rank_of proc) × IsAhead s proc))

-- ---- a step of a turn: that of the least acting actor, or of a processor that may step before its turn

-- the actor of a rank acts at a tick, and may take the next step of a turn
pub record MayAct (s : MachineState) (tick : Tick) (rank : ℕ) : Type 0 where
  pub due : due_at (acting_dues s) rank ≡ Some tick
  pub may : IsLeast (acting_dues s) tick rank ⊎ ((proc : Proc) × (rank ≡ rank_of proc) × IsAhead s proc)

-- once geometry caught up where the step observes it, the step may be taken
pub record ActsThen (caught : MachineState) (rank : ℕ) : Type 0 where
  pub may : MayStep caught rank
  pub sound : IsSound caught

abbrev pub ActingMayStep : Type 0
ActingMayStep = (s caught : MachineState) (tick : Tick) (rank : ℕ) → IsSound s → MayAct s tick rank → tick.0 ≤ 2 ^ 56
    → CatchesUpFor tick.0 rank s caught → ActsThen caught rank

-- and changes neither where a run to a later tick ends nor, after what it puts out, what that run puts out
abbrev pub ActingRuns : Type 0
ActingRuns = (s caught next : MachineState) (tick : Tick) (rank limit : ℕ) (outs : List Shown) → IsSound s → MayAct s tick rank
    → CatchesUpFor tick.0 rank s caught → tick.0 < limit
    → reference_step rank caught ≡ Makes next outs → (end : Ending MachineState LeftOut) (rest : List Shown)
    → Runs reference limit end s (outs ++ rest) ↔ Runs reference limit end next rest

-- where it stops the machine, the run stops so
abbrev pub ActingStops : Type 0
ActingStops = (s caught after : MachineState) (tick : Tick) (rank limit : ℕ) (stop : LeftOut) → IsSound s → MayAct s tick rank
    → CatchesUpFor tick.0 rank s caught → tick.0 < limit
    → reference_step rank caught ≡ Stops stop after → Runs reference limit (Stopped stop) s []

-- ---- how many steps a processor may still take below a limit: fewer than ticks are left to it

-- the ticks that are left below a limit from a due tick on
abbrev pub ticks_left : ℕ → Option Tick → ℕ
ticks_left until None = 0
ticks_left until (Some tick) = until - tick.0

-- those of a processor: a loop over its steps counts them down
abbrev pub own_remaining : ℕ → MachineState → Proc → ℕ
own_remaining until s proc = ticks_left until (processor_due s proc)

-- a step of its turn that is taken leaves fewer
abbrev pub TurnStepsFall : Type 0
TurnStepsFall = (until : ℕ) (s caught next : MachineState) (proc : Proc) (outs : List Shown) → IsSound s → BelongsToTurn until s proc
    → CatchesUpFor (processor_of s proc).due (rank_of proc) s caught → reference_step (rank_of proc) caught ≡ Makes next outs
    → own_remaining until next proc < own_remaining until s proc
