use Rattle.std.specs.Prelude.{ℕ, List, Bool}
use Rattle.nds_words.specs.declared.commands.Keep.{Keep}
use Rattle.nds_answers.specs.declared.statuses.Status.{Status}
use Rattle.nds_answers.specs.declared.statuses.Status.TheVariants.{Done, WriteFault, LeftOut}
use Rattle.nds_plays.specs.Plays.{Plays}
use Rattle.nds_plays.specs.declared.plays.Played.{Played}
use Rattle.nds_plays.specs.declared.plays.Played.TheVariants as answers
use Rattle.run_ahead.specs.Consoles.{ConsoleState}

-- What the code's parts say of one another. No public clause speaks of it.

-- what a run of a console to a tick does, by its status
abbrev pub RunsSo : {S : Type 0} → (S → Bool) → (S → List ℕ → Type 0) → (S → ℕ) → ℕ → Keep → ConsoleState → S → Status → ConsoleState → S → Type 0
RunsSo tells taken faults ticks keep old before Done new after = Plays tells taken faults ticks keep old before answers.Done new after
RunsSo tells taken faults ticks keep old before (LeftOut left) new after =
    Plays tells taken faults ticks keep old before (answers.LeftOut left) new after
RunsSo tells taken faults ticks keep old before WriteFault new after = Plays tells taken faults ticks keep old before answers.WriteFault new after
RunsSo tells taken faults ticks keep old before other new after = ⊥

-- the status of how a run went
abbrev pub played_status : Played → Status
played_status answers.Done = Done
played_status (answers.LeftOut left) = LeftOut left
played_status answers.WriteFault = WriteFault
