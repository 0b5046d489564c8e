use Rattle.std.specs.Prelude.{ℕ, ◌≡◌, ◌<◌, ◌⊎◌, Some, []}
use Rattle.ds_base.specs.declared.processors.Proc.{Proc}
use Rattle.ds_base.specs.declared.ticks.Tick.{Tick}
use Rattle.ds_runs.specs.Runs.{IsLeast, Makes}
use Rattle.ds_machine.specs.Acting.{acting_dues}
use Rattle.ds_machine.specs.Lagging.{CatchesUpFor}
use Rattle.ds_machine.specs.Private.{IsAhead, rank_of}
use Rattle.ds_machine.specs.Reference.{processor_due, reference_step}
use Rattle.ds_machine.specs.States.{MachineState}
use Rattle.ds_machine.specs.Steps.{processor_of}

-- Which steps belong to a turn. Our choice; a console's turn rests on it.

-- its next step belongs to its turn with a limit: it is due below the limit, and is the least acting step, or may be taken before its turn
pub record BelongsToTurn (until : ℕ) (s : MachineState) (proc : Proc) : Type 0 where
  pub tick : Tick
  pub due : processor_due s proc ≡ Some tick
  pub below : tick.0 < until
  pub goes : IsLeast (acting_dues s) tick (rank_of proc) ⊎ IsAhead s proc

-- a processor took some steps of its turn, one after another; before one that observes geometry, geometry caught up
pub data TakesSteps (until : ℕ) (proc : Proc) : MachineState → MachineState → Type 0 where
  no_steps : (start : MachineState) → TakesSteps until proc start start
  more_steps : (start before caught next : MachineState) → TakesSteps until proc start before → BelongsToTurn until before proc
      → CatchesUpFor (processor_of before proc).due (rank_of proc) before caught → reference_step (rank_of proc) caught ≡ Makes next []
      → TakesSteps until proc start next
