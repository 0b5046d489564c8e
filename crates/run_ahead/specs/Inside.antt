use Rattle.std.specs.Prelude.{ℕ, ◌≡◌, ◌<◌, ◌≤◌, ◌⊎◌, [], ◌∷◌, Option, Some, None, max}
use Rattle.ds_base.specs.declared.left_out.LeftOut.{LeftOut}
use Rattle.ds_base.specs.declared.processors.Proc.{Proc}
use Rattle.ds_base.specs.declared.processors.Proc.TheVariants.{Nine}
use Rattle.ds_runs.specs.Runs.{Makes, Stops}
use Rattle.ds_machine.specs.CountingLaws.{IsRunning}
use Rattle.ds_machine.specs.Lagging.{CatchesUpFor}
use Rattle.ds_machine.specs.Private.{rank_of}
use Rattle.ds_machine.specs.TurnSteps.{BelongsToTurn, TakesSteps}
use Rattle.ds_machine.specs.TurnLaws.{HasEnds, IsFirst}
use Rattle.ds_machine.specs.Reference.{next_shown, reference_step}
use Rattle.ds_machine.specs.States.{MachineState, counts_of}
use Rattle.ds_machine.specs.Steps.{processor_of}
use Rattle.ds_machine.specs.declared.answers.Done.{Done}
use Rattle.ds_machine.specs.declared.answers.Done.TheVariants as answers
use Rattle.ds_machine.specs.declared.next_events.Ends.{Ends}
use Rattle.ds_machine.specs.declared.next_events.First.{First}
use Rattle.run_ahead.specs.Consoles.{ConsoleState}
use Rattle.run_ahead.specs.declared.heads.Head.{Head}
use Rattle.run_ahead.specs.declared.machine_turns.Slow.{Slow}
use Rattle.run_ahead.specs.declared.machine_turns.Slow.TheVariants as slow
use Rattle.run_ahead.specs.Turns.{MeetsStop, TakesEvent, TakesQuiet, TakesStretch, run_to}

-- What the machine's side of a turn says. No public clause speaks of it.

-- the processor of a rank, where it isn't an event's
abbrev pub HasProcessor : ℕ → Option Proc → Type 0
HasProcessor rank None = rank < rank_of Nine
HasProcessor rank (Some proc) = rank ≡ rank_of proc

-- a processor took its steps that belong to its turn, up to the first that doesn't, or to one that stops, by the stop if there is one
abbrev pub TookStretch : ℕ → Proc → MachineState → Option LeftOut → MachineState → Type 0
TookStretch until proc old None new = TakesSteps until proc old new × ¬ BelongsToTurn until new proc
TookStretch until proc old (Some left) new =
    (before : MachineState) × TakesSteps until proc old before × BelongsToTurn until before proc
    × ((caught : MachineState) × CatchesUpFor (processor_of before proc).due (rank_of proc) before caught
    × (reference_step (rank_of proc) caught ≡ Stops left new))

-- a step of a processor's turn, wherever it isn't known to be of the fast path, by what came of it, with the stop if there is one
abbrev pub TookSlowly : ℕ → Proc → MachineState → Slow → Option LeftOut → MachineState → Type 0
TookSlowly until proc old slow.Took stop new =
    BelongsToTurn until old proc × ((caught : MachineState) × CatchesUpFor (processor_of old proc).due (rank_of proc) old caught
    × (reference_step (rank_of proc) caught ≡ Makes new [])) × (stop ≡ None)
TookSlowly until proc old slow.Over stop new = (¬ BelongsToTurn until old proc) × (new ≡ old) × (stop ≡ None)
TookSlowly until proc old slow.Stopped stop new =
    BelongsToTurn until old proc
    × ((left : LeftOut) × (stop ≡ Some left) × ((caught : MachineState) × CatchesUpFor (processor_of old proc).due (rank_of proc) old caught
    × (reference_step (rank_of proc) caught ≡ Stops left new)))

-- a machine took a turn below a limit, by what it came to
abbrev pub TookTurn : ℕ → MachineState → Done → MachineState → Type 0
TookTurn until old answers.Made new = TakesEvent until old [] new ⊎ (TakesStretch until old new ⊎ TakesQuiet until old new)
TookTurn until old (answers.Frame swapped) new = TakesEvent until old (next_shown old new swapped ∷ []) new
TookTurn until old (answers.Stopped left) new = MeetsStop until old left new

-- a processor is known to be the least acting actor of a console that hasn't stopped, up to a tick, and its turn raises no limit: so it can be
-- taken at once
pub record IsAtOnce (until : ℕ) (c : ConsoleState) (first : First) : Type 0 where
  pub known : IsFirst until c.machine first
  pub same : max c.limit until ≡ c.limit
  pub still_open : c.stopped ≡ None

-- by these such a processor is found, where it is known at once
pub record AreAtOnce (until : ℕ) (c : ConsoleState) (ends : Ends) : Type 0 where
  pub known : HasEnds until c.machine ends
  pub same : 0 < ends.end → max c.limit until ≡ c.limit
  pub still_open : 0 < ends.end → c.stopped ≡ None

-- the machine behind a head goes on to a limit
abbrev pub GoesBehind : ℕ → Head → MachineState → Type 0
GoesBehind limit head s = (head.at < limit) × IsRunning head.at s × (head.turns ≤ counts_of s)

-- the limit is raised to that of a turn, unless the console has stopped
abbrev pub raised_by : Option LeftOut → ℕ → ConsoleState → ConsoleState
raised_by None until c = run_to c until c.machine
raised_by (Some left) until c = c

abbrev pub raised : ℕ → ConsoleState → ConsoleState
raised until c = raised_by c.stopped until c
