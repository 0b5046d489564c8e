use Rattle.std.specs.Prelude.{ℕ, ◌≡◌, ◌+◌, ◌⊎◌, List, [], ◌∷◌, None}
use Rattle.ds_base.specs.declared.ticks.Tick.{Tick}
use Rattle.ds_runs.specs.Runs.{IsLeast, Makes, Stops}
use Rattle.ds_base.specs.declared.left_out.LeftOut.{LeftOut}
use Rattle.ds_machine.specs.Reference.{Shown, dues_of, next_shown}
use Rattle.ds_machine.specs.Sound.{IsSound}
use Rattle.ds_machine.specs.States.{MachineState}
use Rattle.run_ahead.specs.Consoles.{ConsoleState}
use Rattle.run_ahead.specs.Turns.{Acts, TakesQuiet, Turns}
use Rattle.run_ahead.specs.declared.turns.Turned.{Turned}
use Rattle.run_ahead.specs.declared.turns.Turned.TheVariants.{Ran, Frame, AtEnd, Stopped}

-- Turns of one tick: those whose limit is the tick after the one at which the least of all actors is due.

-- the step of the least acting actor is taken, or it stops the machine
abbrev pub TakesActing : ℕ → MachineState → List Shown → MachineState → Type 0
TakesActing until old outs new = Acts until old (Makes new outs)

abbrev pub StopsActing : ℕ → MachineState → LeftOut → MachineState → Type 0
StopsActing until old left new = Acts until old (Stops left new)

-- by a turn's answer, it took the step of the least acting actor alone, or what quiet geometry does below the limit, or the step stopped
abbrev pub IsTickTurn : ℕ → MachineState → Turned → MachineState → Type 0
IsTickTurn until old Ran new = TakesActing until old [] new ⊎ TakesQuiet until old new
IsTickTurn until old (Frame swapped) new = TakesActing until old (next_shown old new swapped ∷ []) new
IsTickTurn until old AtEnd new = ⊥
IsTickTurn until old (Stopped left) new = StopsActing until old left new

-- the least of all actors is due at the tick before a limit
pub record IsTickBefore (until : ℕ) (s : MachineState) : Type 0 where
  pub tick : Tick
  pub rank : ℕ
  pub least : IsLeast (dues_of s) tick rank
  pub last : tick.0 + 1 ≡ until

-- so it is where the turn's limit is the tick after that: a processor is due later after its step
abbrev pub TurnsOfOneTick : Type 0
TurnsOfOneTick = (until : ℕ) (old : ConsoleState) (answer : Turned) (new : ConsoleState) → IsSound old.machine → old.stopped ≡ None
    → IsTickBefore until old.machine
    → Turns until old answer new → IsTickTurn until old.machine answer new.machine
