use Rattle.std.specs.Prelude.{ℕ, ◌≡◌, ◌≢◌, ◌⊎◌, Bool, List, Option, Some}
use Rattle.ds_base.specs.declared.keys.KeyLine.{KeyLine}
use Rattle.ds_io.specs.Shelves.{Named, Told}
use Rattle.ds_io.specs.Sinks.{Appended}
use Rattle.ds_runs.specs.Runs.{At, Runs}
use Rattle.ds_machine.specs.Booted.{machine_booted}
use Rattle.ds_machine.specs.Reference.{Shown, reference}
use Rattle.ds_machine.specs.States.{MachineState}
use Rattle.asm_files.specs.Listings.{IsListing}
use Rattle.nds_words.specs.Words.{Asked, AskRun, AskList, AskAsm, AskTrace, AskPeek, AskDemo, AskSave, AskResume, Asks}
use Rattle.nds_answers.specs.declared.statuses.Status.{Status}
use Rattle.nds_answers.specs.declared.statuses.Status.TheVariants.{Done, NoMemory}
use Rattle.nds_plays.specs.Calls.{Call, around}
use Rattle.run_ahead.specs.Consoles.{ConsoleState}
use Rattle.nds_plays.specs.States.{IsState}
use Rattle.nds_answers.specs.Loads.{AreKeys, IsCart, IsFileRead, most_text}
use Rattle.nds_top.specs.Answers.{Gives}
use Rattle.nds_top.specs.ViewAnswers.{demo_booted}

-- What follows from when each answer of the top call comes, of calls without faults whose shelf tells its files.

-- neither count of faults rose in a call, the shelf's or that of the output's sink
pub record HadNoFault (c : Call) : Type 0 where
  pub shelf : ¬ c.shelf_rose
  pub out : ¬ c.out_rose

-- the reference run from a machine comes to a tick
abbrev pub ComesTo : ℕ → MachineState → Type 0
ComesTo ticks boot = (end : MachineState) × (outs : List Shown) × Runs reference ticks (At end) boot outs

-- the files of a run are there, short enough and accepted, and its reference run comes to the tick
abbrev pub CanRun : List Named → List ℕ → Option (List ℕ) → ℕ → Type 0
CanRun files cart keys ticks = (file : List ℕ) × (lines : List KeyLine) × IsCart (Some files) cart file × AreKeys (Some files) keys lines
    × ComesTo ticks (machine_booted file lines)

-- the files of a run that goes on are there, short enough and accepted, the saved console's among them, and the reference run from its machine comes
-- to the tick
abbrev pub CanResume : List Named → List ℕ → List ℕ → Option (List ℕ) → ℕ → Type 0
CanResume files state cart keys ticks = (start : ConsoleState) × IsState (Some files) state cart keys ticks start × ComesTo ticks start.machine

-- what is asked for can be done with these files: a demo needs none
abbrev pub CanBeDone : List Named → Asked → Type 0
CanBeDone files (AskRun cart keys ticks keep) = CanRun files cart keys ticks
CanBeDone files (AskList name proc set) = (file : List ℕ) × IsCart (Some files) name file
CanBeDone files (AskAsm name) = (text : List ℕ) × (image : List ℕ) × IsFileRead (Some files) name most_text text × IsListing text image
CanBeDone files (AskTrace cart keys ticks proc count) = CanRun files cart keys ticks
CanBeDone files (AskPeek cart keys ticks memory place count) = CanRun files cart keys ticks
CanBeDone files (AskDemo number ticks) = ComesTo ticks (demo_booted number)
CanBeDone files (AskSave cart keys ticks) = CanRun files cart keys ticks
CanBeDone files (AskResume state cart keys ticks keep) = CanResume files state cart keys ticks

-- then it is done, or there was no memory
abbrev pub IsComplete : {F S : Type 0} → (told : F → Option Told) → (shelf_faults : F → ℕ) → (tells : S → Bool) → (taken : S → List ℕ → Type 0)
    → (out_faults : S → ℕ) → Type 0
IsComplete {F} {S} told shelf_faults tells taken out_faults =
    (shelf_old shelf_new : F) (old new : S) (seat : Option ConsoleState) (files : List Named) (words : List (List ℕ)) (asked : Asked)
    (named : List ℕ) (status : Status) → (let c : Call = around told shelf_faults tells taken out_faults shelf_old shelf_new old new seat in
    c.files ≡ Some files → HadNoFault c → Asks words asked → CanBeDone files asked → Gives c words named status → (status ≡ Done)
    ⊎ (status ≡ NoMemory))

-- and the same words over the same files have one answer and write the same bytes, over any two sinks, but for want of memory
abbrev pub AnswersAreOne : {F S T : Type 0} → (told : F → Option Told) → (shelf_faults : F → ℕ) → (tells : S → Bool) → (taken : S → List ℕ → Type 0)
    → (out_faults : S → ℕ)
    → (tells₂ : T → Bool) → (taken₂ : T → List ℕ → Type 0) → (out_faults₂ : T → ℕ) → Type 0
AnswersAreOne {F} {S} {T} told shelf_faults tells taken out_faults tells₂ taken₂ out_faults₂ =
    (shelf_old shelf_new shelf_old₂ shelf_new₂ : F) (old new : S) (old₂ new₂ : T)
    (seat seat₂ : Option ConsoleState) (files : List Named) (words : List (List ℕ)) (named named₂ : List ℕ) (status status₂ : Status) →
    (let c : Call = around told shelf_faults tells taken out_faults shelf_old shelf_new old new seat in
    let d : Call = around told shelf_faults tells₂ taken₂ out_faults₂ shelf_old₂ shelf_new₂ old₂ new₂ seat₂ in
    c.files ≡ Some files → d.files ≡ Some files → HadNoFault c → HadNoFault d → status ≢ NoMemory → status₂ ≢ NoMemory → Gives c words named status
    → Gives d words named₂ status₂
    → (status ≡ status₂) × ((bytes : List ℕ) × Appended tells taken old new bytes × Appended tells₂ taken₂ old₂ new₂ bytes))
