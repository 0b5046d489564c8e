use Rattle.std.specs.Prelude.{ℕ, ◌≡◌, ◌⊎◌, List, Option, IsSomeAnd}
use Rattle.ds_machine.specs.States.{MachineState}
use Rattle.run_ahead.specs.Consoles.{ConsoleState}
use Rattle.nds_words.specs.declared.commands.Keep.{Keep}
use Rattle.nds_answers.specs.declared.statuses.Status.{Status}
use Rattle.nds_answers.specs.declared.statuses.Status.TheVariants.{Done}
use Rattle.nds_plays.specs.Calls.{Call, IsUntouched}
use Rattle.nds_plays.specs.States.{ComesBack, IsState, RefusesState, saved_after}
use Rattle.nds_top.specs.RunAnswers.{RanFrom}
use Rattle.nds_top.specs.ViewAnswers.{WroteAfter}

-- When each answer to `save` and to `resume` comes, and what it leaves. Want of memory is free.

-- what `save` did, after the run from a machine at boot: the console that the run comes to was written in bytes, which are read back as it
abbrev pub SavedBy : Call → ℕ → Status → MachineState → Type 0
SavedBy c ticks status boot = WroteAfter c ticks saved_after status boot × (status ≡ Done → IsSomeAnd c.seat ComesBack)

-- when each answer to `resume` comes, and of which file it speaks: it ran a console for which the saved file stands, with the cartridge and the key
-- script; or the saved file isn't accepted, or one of the files is refused, and nothing was done
abbrev pub ResumeGives : Call → List ℕ → List ℕ → Option (List ℕ) → ℕ → Keep → List ℕ → Status → Type 0
ResumeGives c state cart keys ticks keep named status =
    ((start : ConsoleState) × IsState c.files state cart keys ticks start × RanFrom c ticks keep start status)
    ⊎ (IsUntouched c × RefusesState c.files c.shelf_rose state cart keys ticks status named)
