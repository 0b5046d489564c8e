use Rattle.std.specs.Prelude.{ℕ, ◌≡◌, ◌≤◌, ◌<◌, List, [], length, Option, Some, None, IfSome}
use Rattle.ds_base.specs.declared.keys.KeyLine.{KeyLine}
use Rattle.ds_header.specs.Rules.{IsAccepted, fault_of}
use Rattle.ds_io.specs.Shelves.{Named, file_of}
use Rattle.nds_words.specs.Scripts.{IsScript, IsFirstBadAt}
use Rattle.nds_answers.specs.declared.statuses.Status.{Status}
use Rattle.nds_answers.specs.declared.statuses.Status.TheVariants.{NoFile, ReadFault, TooLong, BadHeader, BadScript, NoMemory}

-- What the files of a command are, by the files of the shelf, where it tells them.

-- the file of a name is found, read and not too long, and its bytes are these
pub record IsFileRead (files : Option (List Named)) (name : List ℕ) (limit : ℕ) (bytes : List ℕ) : Type 0 where
  pub read : IfSome files (λ fs. file_of fs name ≡ Some bytes)
  pub short : length bytes ≤ limit

-- when each refusal of a file comes: no file has the name, or the one that has it has more bytes than the limit; `rose` says that the shelf's count
-- of faults rose, and want of memory is free
abbrev pub Refuses : Option (List Named) → Type 0 → List ℕ → ℕ → Status → Type 0
Refuses files rose name limit NoFile = IfSome files (λ fs. file_of fs name ≡ None)
Refuses files rose name limit ReadFault = rose
Refuses files rose name limit TooLong = IfSome files (λ fs. (bytes : List ℕ) × (file_of fs name ≡ Some bytes) × (limit < length bytes))
Refuses files rose name limit NoMemory = Unit {0}
Refuses files rose name limit other = ⊥

-- the greatest length of a cartridge, of a key script, of a listing's file and of a saved state's, in bytes
abbrev pub most_bytes : ℕ
most_bytes = 33554432

abbrev pub most_script : ℕ
most_script = 4194304

abbrev pub most_text : ℕ
most_text = 134217728

abbrev pub most_state : ℕ
most_state = 8388608

-- the words' cartridge is read and accepted, and its bytes are these
pub record IsCart (files : Option (List Named)) (name file : List ℕ) : Type 0 where
  pub whole : IsFileRead files name most_bytes file
  pub accepted : IsAccepted file

-- when each refusal of a cartridge comes
abbrev pub RefusesCart : Option (List Named) → Type 0 → List ℕ → Status → Type 0
RefusesCart files rose name (BadHeader fault) = (file : List ℕ) × IsFileRead files name most_bytes file × (fault_of file ≡ Some fault)
RefusesCart files rose name other = Refuses files rose name most_bytes other

-- the words' key script is read, and its lines are these; no script has none
abbrev pub AreKeys : Option (List Named) → Option (List ℕ) → List KeyLine → Type 0
AreKeys files None lines = lines ≡ []
AreKeys files (Some name) lines = (text : List ℕ) × IsFileRead files name most_script text × IsScript text lines

-- when each refusal of a key script comes
abbrev pub RefusesScript : Option (List Named) → Type 0 → List ℕ → Status → Type 0
RefusesScript files rose name (BadScript line column) = (text : List ℕ) × IsFileRead files name most_script text × IsFirstBadAt text line column
RefusesScript files rose name other = Refuses files rose name most_script other

-- when each refusal of a run's files comes, and of which file it speaks: of the cartridge; or, where that is accepted, of the key script
pub data RefusesRun (files : Option (List Named)) (rose : Type 0) (cart : List ℕ) (keys : Option (List ℕ)) (status : Status)
    (named : List ℕ) : Type 0 where
  cartridge : RefusesCart files rose cart status → named ≡ cart → RefusesRun files rose cart keys status named
  script : (file : List ℕ) → IsCart files cart file → keys ≡ Some named → RefusesScript files rose named status
      → RefusesRun files rose cart keys status named

-- when each refusal of the files of a run that goes on from a saved state comes, and of which file it speaks: of the state's; or, where that is
-- found, read and short enough, of the cartridge or of the key script. Whether the state is one is asked after that
pub data RefusesFiles (files : Option (List Named)) (rose : Type 0) (state cart : List ℕ) (keys : Option (List ℕ)) (status : Status)
    (named : List ℕ) : Type 0 where
  state_file : Refuses files rose state most_state status → named ≡ state → RefusesFiles files rose state cart keys status named
  run_files : (bytes : List ℕ) → IsFileRead files state most_state bytes → RefusesRun files rose cart keys status named
      → RefusesFiles files rose state cart keys status named
