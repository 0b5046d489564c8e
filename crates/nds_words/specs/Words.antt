use Rattle.std.specs.Prelude.{ℕ, ◌≡◌, ◌≢◌, ◌≤◌, ◌<◌, ◌+◌, List, [], ◌∷◌, length, codes, slice_index_or, Option, Some, None}
use Rattle.std.specs.Fmt.{decimal}
use Rattle.ds_base.specs.Memories.{memory_size}
use Rattle.ds_base.specs.declared.memories.Memory.{Memory}
use Rattle.ds_base.specs.declared.memories.Memory.TheVariants.{Main, Shared, Own7, Itcm, Dtcm, Palette, Vram, Oam}
use Rattle.ds_base.specs.declared.processors.Proc.{Proc}
use Rattle.ds_base.specs.declared.processors.Proc.TheVariants.{Nine, Seven}
use Rattle.asm_text.specs.declared.sets.Set.{Set}
use Rattle.asm_text.specs.declared.sets.Set.TheVariants.{Arm, Thumb}
use Rattle.nds_words.specs.declared.commands.Keep.{Keep}
use Rattle.nds_words.specs.declared.commands.Keep.TheVariants.{All, Last, Nothing}

-- Which words a command line may have. The rule is the writer: each thing that may be asked for has its one list of words, and
-- `decimal` writes a number in digits without a leading zero. (Our choice of commands.)

-- what may be asked for: to run a cartridge, with the keys of a script's file or with none, to a tick, and what to write; to list the
-- image of one of a cartridge's processors in an instruction set; to assemble a listing's file; to run so and write the first steps of
-- one processor; to run so and write some bytes of a memory; to run the cartridge that is made from a number, and write what came of it;
-- to run so and write the state at the tick; to go on from the state of a file, with the cartridge and the keys that it was saved with, to
-- a later tick, and what to write
pub data Asked : Type 0 where
  AskRun : (cart : List ℕ) → (keys : Option (List ℕ)) → (ticks : ℕ) → (keep : Keep) → Asked
  AskList : (cart : List ℕ) → (proc : Proc) → (set : Set) → Asked
  AskAsm : (file : List ℕ) → Asked
  AskTrace : (cart : List ℕ) → (keys : Option (List ℕ)) → (ticks : ℕ) → (proc : Proc) → (count : ℕ) → Asked
  AskPeek : (cart : List ℕ) → (keys : Option (List ℕ)) → (ticks : ℕ) → (memory : Memory) → (place : ℕ) → (count : ℕ) → Asked
  AskDemo : (number : ℕ) → (ticks : ℕ) → Asked
  AskSave : (cart : List ℕ) → (keys : Option (List ℕ)) → (ticks : ℕ) → Asked
  AskResume : (state : List ℕ) → (cart : List ℕ) → (keys : Option (List ℕ)) → (ticks : ℕ) → (keep : Keep) → Asked

-- the word for a run's keys: the script's file, or none
abbrev pub keys_word : Option (List ℕ) → List ℕ
keys_word None = codes "none"
keys_word (Some name) = name

abbrev pub keep_word : Keep → List ℕ
keep_word All = codes "all"
keep_word Last = codes "last"
keep_word Nothing = codes "none"

-- the word for a processor's image in an instruction set
abbrev pub image_word : Proc → Set → List ℕ
image_word Nine Arm = codes "9"
image_word Seven Arm = codes "7"
image_word Nine Thumb = codes "9t"
image_word Seven Thumb = codes "7t"

abbrev pub proc_word : Proc → List ℕ
proc_word Nine = codes "9"
proc_word Seven = codes "7"

abbrev pub memory_word : Memory → List ℕ
memory_word Main = codes "main"
memory_word Shared = codes "wram"
memory_word Own7 = codes "wram7"
memory_word Itcm = codes "itcm"
memory_word Dtcm = codes "dtcm"
memory_word Palette = codes "palette"
memory_word Vram = codes "vram"
memory_word Oam = codes "oam"

-- the words that ask for it: the command, and each of its words
abbrev pub asked_words : Asked → List (List ℕ)
asked_words (AskRun cart keys ticks keep) = codes "run" ∷ cart ∷ keys_word keys ∷ decimal ticks ∷ keep_word keep ∷ []
asked_words (AskList cart proc set) = codes "list" ∷ cart ∷ image_word proc set ∷ []
asked_words (AskAsm file) = codes "asm" ∷ file ∷ []
asked_words (AskTrace cart keys ticks proc count) = codes "trace" ∷ cart ∷ keys_word keys ∷ decimal ticks ∷ proc_word proc ∷ decimal count ∷ []
asked_words (AskPeek cart keys ticks memory place count) =
    codes "peek" ∷ cart ∷ keys_word keys ∷ decimal ticks ∷ memory_word memory ∷ decimal place ∷ decimal count ∷ []
asked_words (AskDemo number ticks) = codes "demo" ∷ decimal number ∷ decimal ticks ∷ []
asked_words (AskSave cart keys ticks) = codes "save" ∷ cart ∷ keys_word keys ∷ decimal ticks ∷ []
asked_words (AskResume state cart keys ticks keep) = codes "resume" ∷ state ∷ cart ∷ keys_word keys ∷ decimal ticks ∷ keep_word keep ∷ []

-- a word that may name a file: it isn't empty and doesn't begin with '-'
abbrev pub IsName : List ℕ → Type 0
IsName word = (0 < length word) × (slice_index_or word 0 0 ≢ 45)

-- no key script, or one whose file may have this name: a file called `none` can't be one
abbrev pub IsScriptName : Option (List ℕ) → Type 0
IsScriptName None = Unit {0}
IsScriptName (Some name) = IsName name × (name ≢ codes "none")

-- a tick to which a run may be asked for
abbrev pub IsEnd : ℕ → Type 0
IsEnd ticks = (1 ≤ ticks) × (ticks ≤ 100000000000)

-- the files of a run and its tick
abbrev pub IsRun : List ℕ → Option (List ℕ) → ℕ → Type 0
IsRun cart keys ticks = IsName cart × IsScriptName keys × IsEnd ticks

-- what is in its range; the bytes that are peeked at lie in their memory
abbrev pub IsAllowed : Asked → Type 0
IsAllowed (AskRun cart keys ticks keep) = IsRun cart keys ticks
IsAllowed (AskList cart proc set) = IsName cart
IsAllowed (AskAsm file) = IsName file
IsAllowed (AskTrace cart keys ticks proc count) = IsRun cart keys ticks × (1 ≤ count) × (count ≤ 1000000)
IsAllowed (AskPeek cart keys ticks memory place count) = IsRun cart keys ticks × (1 ≤ count) × (count ≤ 4096) × (place + count ≤ memory_size memory)
IsAllowed (AskDemo number ticks) = (number ≤ 4294967295) × IsEnd ticks
IsAllowed (AskSave cart keys ticks) = IsRun cart keys ticks
IsAllowed (AskResume state cart keys ticks keep) = IsName state × IsRun cart keys ticks

-- the words ask for this
abbrev pub Asks : List (List ℕ) → Asked → Type 0
Asks words asked = (words ≡ asked_words asked) × IsAllowed asked

-- they ask for nothing
abbrev pub AskNothing : List (List ℕ) → Type 0
AskNothing words = (asked : Asked) → ¬ Asks words asked

-- words ask for one thing at most
abbrev pub WordsAskForOne : Type 0
WordsAskForOne = (words : List (List ℕ)) (asked asked₂ : Asked) → Asks words asked → Asks words asked₂ → asked ≡ asked₂
