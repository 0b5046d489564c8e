use Rattle.std.specs.Prelude.{ℕ, ◌≡◌, ◌≤◌, ◌<◌, List, [], length, slice_index_or, Option}
use Rattle.std.specs.Fmt.{decimal}
use Rattle.nds_words.specs.Words.{IsRun, keys_word}

-- What the code's parts say of one another. No public clause speaks of it.

-- a word begins as numbers do
abbrev pub BeginsNumber : List ℕ → Type 0
BeginsNumber word = (0 < length word) × (48 ≤ slice_index_or word 0 0) × (slice_index_or word 0 0 ≡ 48 → length word ≤ 1)

-- words have a command's name and are as many as it has
abbrev pub AreOf : List ℕ → ℕ → List (List ℕ) → Type 0
AreOf name count words = (length words ≡ count) × (slice_index_or words 0 [] ≡ name)

-- three words ask for a run of a cartridge with these keys to this tick
abbrev pub AskForRun : (cart keys ticks : List ℕ) → List ℕ → Option (List ℕ) → ℕ → Type 0
AskForRun cart keys ticks file script end = (cart ≡ file) × (keys ≡ keys_word script) × (ticks ≡ decimal end) × IsRun file script end
