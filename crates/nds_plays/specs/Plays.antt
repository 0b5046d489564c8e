use Rattle.std.specs.Prelude.{ℕ, ◌≡◌, ◌<◌, ◌^◌, Bool, List, length, Some, None, max}
use Rattle.ds_base.specs.declared.left_out.LeftOut.{LeftOut}
use Rattle.ds_io.specs.Faults.{Rose}
use Rattle.ds_io.specs.Sinks.{Appended, AppendedFront}
use Rattle.ds_runs.specs.Runs.{Ending, At, Stopped, Runs}
use Rattle.ds_machine.specs.States.{MachineState}
use Rattle.ds_machine.specs.Reference.{Shown, reference}
use Rattle.run_ahead.specs.Consoles.{ConsoleState}
use Rattle.run_ahead.specs.ToEnd.{TurnsToEnd}
use Rattle.run_ahead.specs.Turns.{HasTurned}
use Rattle.nds_plays.specs.Records.{latest_of, output_of}
use Rattle.nds_words.specs.declared.commands.Keep.{Keep}
use Rattle.nds_plays.specs.declared.plays.Played as played
use Rattle.nds_plays.specs.declared.plays.Played.TheVariants as answers

-- What playing a console to a tick writes, and how it answers.

-- the output of the reference run from a console's machine to a tick was written: turns with that limit end so, at this console, whose count of turns
-- is the one that is written
pub record Wrote (wrote : List ℕ → Type 0) (until : ℕ) (keep : Keep) (start : ConsoleState) (end : Ending MachineState LeftOut) (last : ConsoleState)
    : Type 0 where
  pub turns : TurnsToEnd until start end last
  pub outs : List Shown
  pub ran : Runs reference until end start.machine outs
  pub written : wrote (output_of until last.turns keep (latest_of start.machine) end outs)

-- a front of that output was written: of the one to the end of the run and of its turns, wherever the console came to
abbrev pub WroteFront : (List ℕ → Type 0) → ℕ → Keep → ConsoleState → Type 0
WroteFront front until keep start = (end : Ending MachineState LeftOut) × (last : ConsoleState) × Wrote front until keep start end last

-- by the answer: the whole output of the run, which has fewer than 2^64 bytes, or a front of it where the sink's count of faults rose; and the
-- console is as after turns with that limit
abbrev pub Plays : {S : Type 0} → (S → Bool) → (S → List ℕ → Type 0) → (S → ℕ) → ℕ → Keep → ConsoleState → S → played.Played → ConsoleState → S
    → Type 0
Plays tells taken faults until keep old before answers.Done new after =
    (wrote : Wrote (Appended tells taken before after) until keep old (At new.machine) new) × (new.stopped ≡ None)
    × (new.limit ≡ max old.limit until) × HasTurned until old new
    × (length (output_of until new.turns keep (latest_of old.machine) (At new.machine) wrote.outs) < 2 ^ 64)
Plays tells taken faults until keep old before (answers.LeftOut left) new after =
    Wrote (Appended tells taken before after) until keep old (Stopped left) new × (new.stopped ≡ Some left) × HasTurned until old new
Plays tells taken faults until keep old before answers.WriteFault new after =
    WroteFront (AppendedFront tells taken before after) until keep old × Rose (faults before) (faults after) × HasTurned until old new
