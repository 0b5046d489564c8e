use Rattle.std.specs.Prelude.{ℕ, ◌≡◌}
use Rattle.ds_base.specs.declared.left_out.LeftOut.{LeftOut}
use Rattle.ds_runs.specs.Runs.{Ending, At}
use Rattle.ds_runs.specs.Runs as runs
use Rattle.ds_machine.specs.States.{MachineState}
use Rattle.run_ahead.specs.Consoles.{ConsoleState}
use Rattle.run_ahead.specs.Turns.{Turns, counted_of}
use Rattle.run_ahead.specs.declared.turns.Turned.{Turned}
use Rattle.run_ahead.specs.declared.turns.Turned.TheVariants.{AtEnd, Stopped}

-- Turns one after another, with one limit up to their end.

-- turns with a limit from a console on, up to the first that doesn't count: no actor is due below the limit, or it stops. How they end, and the
-- console then, whose count of turns is the run's
pub data TurnsToEnd (until : ℕ) : ConsoleState → Ending MachineState LeftOut → ConsoleState → Type 0 where
  at_end : (old new : ConsoleState) → Turns until old AtEnd new → TurnsToEnd until old (At new.machine) new
  meets_stop : (old new : ConsoleState) (left : LeftOut) → Turns until old (Stopped left) new → TurnsToEnd until old (runs.Stopped left) new
  counts : (old next last : ConsoleState) (answer : Turned) (end : Ending MachineState LeftOut) → counted_of answer ≡ 1 → Turns until old answer next
      → TurnsToEnd until next end last
      → TurnsToEnd until old end last
