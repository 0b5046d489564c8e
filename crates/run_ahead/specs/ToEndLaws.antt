use Rattle.std.specs.Prelude.{ℕ, ◌≡◌, ◌≤◌, List, [], ◌++◌, Some, None}
use Rattle.ds_base.specs.declared.left_out.LeftOut.{LeftOut}
use Rattle.ds_runs.specs.Runs.{Ending, Runs}
use Rattle.ds_runs.specs.Runs as runs
use Rattle.ds_machine.specs.States.{MachineState}
use Rattle.ds_machine.specs.Sound.{IsSound}
use Rattle.ds_machine.specs.Reference.{Shown, reference}
use Rattle.run_ahead.specs.Consoles.{ConsoleState}
use Rattle.run_ahead.specs.Turns.{Turns}
use Rattle.run_ahead.specs.TurnLaws.{shown_in}
use Rattle.run_ahead.specs.declared.turns.Turned.{Turned}
use Rattle.run_ahead.specs.ToEnd.{TurnsToEnd}

-- Turns come to an end, are one list, and end as the reference run does.

-- turns go on to their end
abbrev pub HasTurnsToEnd : ℕ → ConsoleState → Type 0
HasTurnsToEnd until c = (end : Ending MachineState LeftOut) × (last : ConsoleState) × TurnsToEnd until c end last

-- from each console that hasn't stopped, with each limit: each turn that counts leaves fewer
abbrev pub TurnsEnd : Type 0
TurnsEnd = (until : ℕ) (c : ConsoleState) → c.stopped ≡ None → IsSound c.machine → HasTurnsToEnd until c

-- a turn with a limit is one: what it answers, and what it leaves
abbrev pub TurnIsOne : Type 0
TurnIsOne = (until : ℕ) (old new new₂ : ConsoleState) (answer answer₂ : Turned) → Turns until old answer new → Turns until old answer₂ new₂
    → (answer ≡ answer₂) × (new ≡ new₂)

-- so turns with a limit from a console on are one list: they end in one way, at one console, with one count of turns
abbrev pub TurnsAreOne : Type 0
TurnsAreOne =
    (until : ℕ) (c last last₂ : ConsoleState) (end end₂ : Ending MachineState LeftOut) → TurnsToEnd until c end last → TurnsToEnd until c end₂ last₂
    → (end ≡ end₂) × (last ≡ last₂)

-- they end as the reference run does
abbrev pub TurnsEndAsRuns : Type 0
TurnsEndAsRuns =
    (until : ℕ) (c last : ConsoleState) (end : Ending MachineState LeftOut) → c.stopped ≡ None → IsSound c.machine → TurnsToEnd until c end last
    → (outs : List Shown) × Runs reference until end c.machine outs

-- turns one after another, each with a limit of its own, and what they put out
pub data TurnsOn : ConsoleState → ConsoleState → List Shown → Type 0 where
  no_turn_on : (start : ConsoleState) → TurnsOn start start []
  one_turn_on : (start before now : ConsoleState) (outs : List Shown) (until : ℕ) (answer : Turned) → TurnsOn start before outs
      → Turns until before answer now
      → TurnsOn start now (outs ++ shown_in answer before.machine now.machine)

-- unless one stops, the run to each limit that isn't below the console's is what they put out and then the run from there
abbrev pub TurnsKeepRuns : Type 0
TurnsKeepRuns =
    (start now : ConsoleState) (front : List Shown) → start.stopped ≡ None → IsSound start.machine → TurnsOn start now front → now.stopped ≡ None
    → (limit : ℕ) → now.limit ≤ limit → (end : Ending MachineState LeftOut) (outs : List Shown) → Runs reference limit end now.machine outs
    → Runs reference limit end start.machine (front ++ outs)

-- and where one stops, the run to the console's limit stops there
abbrev pub TurnsStopAsRuns : Type 0
TurnsStopAsRuns = (start now : ConsoleState) (front : List Shown) → start.stopped ≡ None → IsSound start.machine → TurnsOn start now front
    → (left : LeftOut) → now.stopped ≡ Some left → Runs reference now.limit (runs.Stopped left) start.machine front
