use Rattle.std.specs.Prelude.{ℕ, ◌≡◌, ◌≢◌, ◌<◌, Bool, List, ◌++◌, Option, Some, option_map}
use Rattle.ds_base.specs.declared.left_out.LeftOut.{LeftOut}
use Rattle.ds_io.specs.Shelves.{Named, Told, file_of}
use Rattle.ds_io.specs.Sinks.{Appended}
use Rattle.ds_runs.specs.Runs.{Ending, At, Runs}
use Rattle.ds_machine.specs.Reference.{Shown, reference}
use Rattle.ds_machine.specs.States.{MachineState}
use Rattle.run_ahead.specs.Consoles.{ConsoleState}
use Rattle.run_ahead.specs.ToEnd.{TurnsToEnd}
use Rattle.nds_words.specs.Words.{AskResume, AskRun, AskSave, Asks}
use Rattle.nds_words.specs.declared.commands.Keep.{Keep}
use Rattle.nds_answers.specs.declared.statuses.Status.{Status}
use Rattle.nds_answers.specs.declared.statuses.Status.TheVariants.{Done, NoMemory}
use Rattle.nds_plays.specs.Calls.{Call, FromBoot, around, switched_on}
use Rattle.nds_plays.specs.Records.{latest_of, output_of, shown_while}
use Rattle.nds_plays.specs.States.{saved_state}
use Rattle.nds_top.specs.Answers.{Gives}
use Rattle.nds_top.specs.Laws.{HadNoFault}

-- Three calls: one saves a console, one goes on from what that wrote, and one runs the whole.

-- the words of two calls name the same cartridge and the same key script, by their bytes
pub record HaveSameFiles (files : List Named) (cart : List ℕ) (keys : Option (List ℕ))
    (files₂ : List Named) (cart₂ : List ℕ) (keys₂ : Option (List ℕ)) : Type 0 where
  pub same_cart : file_of files cart ≡ file_of files₂ cart₂
  pub same_keys : option_map (file_of files) keys ≡ option_map (file_of files₂) keys₂

-- what the call wrote that went on, and what the call wrote that ran the whole: the latter wrote first what is written while the run to the saved
-- console runs, and then both wrote the output of the same run, each with the count of turns of its own
pub record WroteTheRest (d e : Call) (first later : ℕ) (keep : Keep) (saved : List ℕ) (boot : MachineState) : Type 0 where
  -- the console that was saved, and the run to it
  pub middle : ConsoleState
  pub is : saved ≡ saved_state middle
  pub front : List Shown
  pub came : Runs reference first (At middle.machine) boot front
  -- the run from there
  pub end : Ending MachineState LeftOut
  pub rest : List Shown
  pub ran : Runs reference later end middle.machine rest
  -- the consoles to which the two calls came: the one's count of turns goes on from the saved one's
  pub resumed : ConsoleState
  pub whole : ConsoleState
  pub turns : TurnsToEnd later middle end resumed
  pub all_turns : TurnsToEnd later (switched_on boot) end whole
  pub wrote_rest : d.wrote (output_of later resumed.turns keep (latest_of middle.machine) end rest)
  pub wrote_whole :
      e.wrote (shown_while keep front ++ output_of later whole.turns keep (latest_of middle.machine) end rest)

-- a call that goes on from these bytes to a later tick, and one that runs the whole to it, with the same cartridge and key script: without faults and
-- want of memory they have one status, and wrote the same but for that
abbrev pub GoesOnFrom : {F T U : Type 0} → (told : F → Option Told) → (shelf_faults : F → ℕ) → (tells : T → Bool) → (taken : T → List ℕ → Type 0)
    → (out_faults : T → ℕ)
    → (tells₂ : U → Bool) → (taken₂ : U → List ℕ → Type 0) → (out_faults₂ : U → ℕ) → (files : List Named) → (cart : List ℕ)
    → (keys : Option (List ℕ)) → (first : ℕ) → (saved : List ℕ) → Type 0
GoesOnFrom {F} {T} {U} told shelf_faults tells taken out_faults tells₂ taken₂ out_faults₂ files cart keys first saved =
    (shelf_old shelf_new shelf_old₂ shelf_new₂ : F) (old new : T) (old₂ new₂ : U) (seat seat₂ : Option ConsoleState) (files₂ files₃ : List Named)
    (words words₂ : List (List ℕ)) (state cart₂ cart₃ : List ℕ) (keys₂ keys₃ : Option (List ℕ)) (later : ℕ) (keep : Keep) (named named₂ : List ℕ)
    (status status₂ : Status) →
    (let d : Call = around told shelf_faults tells taken out_faults shelf_old shelf_new old new seat in
    let e : Call = around told shelf_faults tells₂ taken₂ out_faults₂ shelf_old₂ shelf_new₂ old₂ new₂ seat₂ in
    d.files ≡ Some files₂ → e.files ≡ Some files₃ → HadNoFault d → HadNoFault e
    → Asks words (AskResume state cart₂ keys₂ later keep) → Asks words₂ (AskRun cart₃ keys₃ later keep) → first < later
    → file_of files₂ state ≡ Some saved
    → HaveSameFiles files cart keys files₂ cart₂ keys₂ → HaveSameFiles files cart keys files₃ cart₃ keys₃
    → status ≢ NoMemory → status₂ ≢ NoMemory → Gives d words named status → Gives e words₂ named₂ status₂
    → (status ≡ status₂) × FromBoot e cart₃ keys₃ (WroteTheRest d e first later keep saved))

-- so it is of what a call wrote that saved a console
abbrev pub ResumesGoOn : {F S T U : Type 0} → (told : F → Option Told) → (shelf_faults : F → ℕ) → (tells : S → Bool)
    → (taken : S → List ℕ → Type 0) → (out_faults : S → ℕ)
    → (tells₂ : T → Bool) → (taken₂ : T → List ℕ → Type 0) → (out_faults₂ : T → ℕ)
    → (tells₃ : U → Bool) → (taken₃ : U → List ℕ → Type 0) → (out_faults₃ : U → ℕ) → Type 0
ResumesGoOn {F} {S} {T} {U} told shelf_faults tells taken out_faults tells₂ taken₂ out_faults₂ tells₃ taken₃ out_faults₃ =
    (shelf_old shelf_new : F) (old new : S) (seat : Option ConsoleState) (files : List Named) (words : List (List ℕ)) (cart : List ℕ)
    (keys : Option (List ℕ)) (first : ℕ) (named : List ℕ) →
    (let c : Call = around told shelf_faults tells taken out_faults shelf_old shelf_new old new seat in
    c.files ≡ Some files → Asks words (AskSave cart keys first) → Gives c words named Done
    → (saved : List ℕ) × Appended tells taken old new saved
    × GoesOnFrom told shelf_faults tells₂ taken₂ out_faults₂ tells₃ taken₃ out_faults₃ files cart keys first saved)
