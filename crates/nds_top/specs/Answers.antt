use Rattle.std.specs.Prelude.{ℕ, ◌≡◌, List}
use Rattle.nds_words.specs.Words.{Asked, AskRun, AskList, AskAsm, AskTrace, AskPeek, AskDemo, AskSave, AskResume, Asks, AskNothing}
use Rattle.nds_answers.specs.declared.statuses.Status.{Status}
use Rattle.nds_answers.specs.declared.statuses.Status.TheVariants.{Usage}
use Rattle.nds_plays.specs.Calls.{Call, GivesBy, IsUntouched, switched_on}
use Rattle.nds_plays.specs.Watches.{peeked}
use Rattle.nds_top.specs.ListingAnswers.{ListGives, AsmGives}
use Rattle.nds_top.specs.RunAnswers.{RanFrom}
use Rattle.nds_top.specs.StateAnswers.{ResumeGives, SavedBy}
use Rattle.nds_top.specs.ViewAnswers.{DemoGives, TracedBy, WroteAfter}

-- When each answer of the top call comes, and what it leaves.

-- when each answer to what is asked for comes, and of which file it speaks
abbrev pub CommandGives : Call → Asked → List ℕ → Status → Type 0
CommandGives c (AskRun cart keys ticks keep) named status =
    GivesBy c cart keys (λ boot. RanFrom c ticks keep (switched_on boot) status) named status
CommandGives c (AskList name proc set) named status = ListGives c name proc set status × (named ≡ name)
CommandGives c (AskAsm name) named status = AsmGives c name status × (named ≡ name)
CommandGives c (AskTrace cart keys ticks proc count) named status = GivesBy c cart keys (TracedBy c ticks proc count status) named status
CommandGives c (AskPeek cart keys ticks memory place count) named status =
    GivesBy c cart keys (WroteAfter c ticks (peeked memory place count) status) named status
CommandGives c (AskDemo number ticks) named status = DemoGives c number ticks status
CommandGives c (AskSave cart keys ticks) named status = GivesBy c cart keys (SavedBy c ticks status) named status
CommandGives c (AskResume state cart keys ticks keep) named status = ResumeGives c state cart keys ticks keep named status

-- when each answer comes, and of which file it speaks: Usage exactly where the words ask for nothing
pub data Gives (c : Call) (words : List (List ℕ)) (named : List ℕ) (status : Status) : Type 0 where
  nothing : AskNothing words → status ≡ Usage → IsUntouched c → Gives c words named status
  command : (asked : Asked) → Asks words asked → CommandGives c asked named status → Gives c words named status
