use Rattle.std.specs.Prelude.{ℕ, ◌≡◌, ◌<◌, ◌+◌, ◌⊎◌, true, List, [], ◌∷◌, Some, None, IsSome, max}
use Rattle.ds_base.specs.declared.left_out.LeftOut.{LeftOut}
use Rattle.ds_base.specs.declared.ticks.Tick.{Tick}
use Rattle.ds_runs.specs.Runs.{IsLeast, IsOver, MachineStep, Makes, Stops}
use Rattle.ds_base.specs.declared.processors.Proc.{Proc}
use Rattle.ds_base.specs.declared.processors.Proc.TheVariants.{Nine}
use Rattle.ds_machine.specs.Acting.{acting_dues, is_behind}
use Rattle.ds_machine.specs.Lagging.{CatchesUp, CatchesUpFor}
use Rattle.ds_machine.specs.Private.{rank_of}
use Rattle.ds_machine.specs.Steps.{processor_of}
use Rattle.ds_machine.specs.TurnSteps.{BelongsToTurn, TakesSteps}
use Rattle.ds_machine.specs.States.{MachineState}
use Rattle.ds_machine.specs.Reference.{Shown, next_shown, dues_of, reference_step}
use Rattle.run_ahead.specs.Consoles.{ConsoleState}
use Rattle.run_ahead.specs.declared.turns.Turned.{Turned}
use Rattle.run_ahead.specs.declared.turns.Turned.TheVariants.{Ran, Frame, AtEnd, Stopped}

-- A turn: what it does, and what that says of the reference run.

-- the step of the least acting actor, which is due below a limit, and what it comes to; where it observes geometry, geometry catches up before it
pub record Acts (until : ℕ) (old : MachineState) (came : MachineStep MachineState Shown LeftOut) : Type 0 where
  pub tick : Tick
  pub rank : ℕ
  pub least : IsLeast (acting_dues old) tick rank
  pub below : tick.0 < until
  pub caught : MachineState
  pub catches : CatchesUpFor tick.0 rank old caught
  pub step : reference_step rank caught ≡ came

-- that actor isn't a processor: its event is the turn
abbrev pub TakesEvent : ℕ → MachineState → List Shown → MachineState → Type 0
TakesEvent until old outs new = (acting : Acts until old (Makes new outs)) × (acting.rank < rank_of Nine)

-- it is a processor: the turn is its step and then the longest run of its further steps that belong to the turn
pub record TakesStretch (until : ℕ) (old new : MachineState) : Type 0 where
  pub proc : Proc
  pub tick : Tick
  pub least : IsLeast (acting_dues old) tick (rank_of proc)
  pub below : tick.0 < until
  pub steps : TakesSteps until proc old new
  pub longest : ¬ BelongsToTurn until new proc

-- quiet geometry alone is due below the limit: all its steps that are due below it are the turn
pub record TakesQuiet (until : ℕ) (old new : MachineState) : Type 0 where
  pub none : IsOver (acting_dues old) until
  pub some : is_behind until 0 old ≡ true
  pub catches : CatchesUp until 0 old new

-- a step of the processor that belongs to its turn stops the machine, after the steps before it, and leaves this state
pub record StretchStops (until : ℕ) (old : MachineState) (left : LeftOut) (new : MachineState) : Type 0 where
  pub proc : Proc
  pub tick : Tick
  pub least : IsLeast (acting_dues old) tick (rank_of proc)
  pub below : tick.0 < until
  pub before : MachineState
  pub steps : TakesSteps until proc old before
  pub belongs : BelongsToTurn until before proc
  pub caught : MachineState
  pub catches : CatchesUpFor (processor_of before proc).due (rank_of proc) before caught
  pub step : reference_step (rank_of proc) caught ≡ Stops left new

-- a turn's step stops the machine: an event, or such a step of the processor
abbrev pub MeetsStop : ℕ → MachineState → LeftOut → MachineState → Type 0
MeetsStop until old left new = ((acting : Acts until old (Stops left new)) × (acting.rank < rank_of Nine)) ⊎ StretchStops until old left new

-- the machine is this now, and the limit was raised
abbrev pub run_to : ConsoleState → ℕ → MachineState → ConsoleState
run_to old until machine = record old { machine = machine; limit = max old.limit until }

-- and one more turn counts
abbrev pub one_more_turn : ConsoleState → ConsoleState
one_more_turn c = record c { turns = c.turns + 1 }

-- what a turn with a limit does to a console, by its answer; a turn that takes a step and doesn't stop counts; after a stop nothing happens any more
abbrev pub Turns : ℕ → ConsoleState → Turned → ConsoleState → Type 0
Turns until old Ran new = (old.stopped ≡ None)
    × (TakesEvent until old.machine [] new.machine ⊎ (TakesStretch until old.machine new.machine ⊎ TakesQuiet until old.machine new.machine))
    × (new ≡ one_more_turn (run_to old until new.machine))
Turns until old (Frame swapped) new =
    (old.stopped ≡ None) × TakesEvent until old.machine (next_shown old.machine new.machine swapped ∷ []) new.machine
    × (new ≡ one_more_turn (run_to old until new.machine))
Turns until old AtEnd new = (old.stopped ≡ None) × IsOver (dues_of old.machine) until × (new ≡ run_to old until old.machine)
Turns until old (Stopped left) new =
    (old.stopped ≡ None → MeetsStop until old.machine left new.machine × (new ≡ record (run_to old until new.machine) { stopped = Some left }))
    × (IsSome old.stopped → (old.stopped ≡ Some left) × (new ≡ old))

-- a turn counts where it took a step
abbrev pub counted_of : Turned → ℕ
counted_of (Stopped left) = 0
counted_of AtEnd = 0
counted_of answer = 1

-- a console is as it was after some turns with a limit
pub data HasTurned (until : ℕ) : ConsoleState → ConsoleState → Type 0 where
  no_turn : (start : ConsoleState) → HasTurned until start start
  one_turn : (start before now : ConsoleState) (answer : Turned) → HasTurned until start before → Turns until before answer now
      → HasTurned until start now
