-- Reading the lines after the first one by one.
use Rattle.std.specs.Prelude.{ℕ, ◌≡◌, ◌≢◌, ◌<◌, ◌≤◌, ◌+◌, ◌/◌, ◌%◌, ◌^◌, List, [], ◌∷◌, ◌++◌, length, take, ◌⊎◌}
use Rattle.ds_base.specs.declared.processors.Arch.{Arch}
use Rattle.arm_words.specs.Spellings.{IsInRange}
use Rattle.arm_words.specs.declared.spellings.Spelling.{Spelling}
use Rattle.arm_words.specs.declared.spellings.Spelling.TheVariants.{Word, Half}
use Rattle.asm_text.specs.declared.sets.Set.{Set}
use Rattle.asm_text.specs.declared.sets.Set.TheVariants.{Arm, Thumb}
use Rattle.asm_text.specs.Listed.{listed, spelling}
use Rattle.asm_text.specs.Starts.{raw_byte}
use Rattle.asm_files.specs.declared.places.LinePlace.{LinePlace}
use Rattle.asm_files.specs.declared.places.Piece.{Piece}
use Rattle.asm_files.specs.declared.places.Piece.TheVariants.{Number, Byte}

-- where the lines after the first begin
abbrev pub first_place : ℕ → LinePlace
first_place at = record { at = at; left = 0 }

-- how many bytes a word or half has
abbrev pub size : Set → ℕ
size Arm = 4
size Thumb = 2

-- its bytes, the lowest first
unfoldable pub spelling_bytes : Spelling → List ℕ
spelling_bytes (Word w) = w % 2 ^ 8 ∷ w / 2 ^ 8 % 2 ^ 8 ∷ w / 2 ^ 16 % 2 ^ 8 ∷ w / 2 ^ 24 % 2 ^ 8 ∷ []
spelling_bytes (Half h) = h % 2 ^ 8 ∷ h / 2 ^ 8 % 2 ^ 8 ∷ []

-- what a line stands for, as bytes
abbrev pub piece_bytes : Piece → List ℕ
piece_bytes (Number s) = spelling_bytes s
piece_bytes (Byte b) = b ∷ []

-- a line is the statement of a word or half, after which comes the next; after a byte's line there is none
pub record IsStatement (arch : Arch) (set : Set) (from : LinePlace) (line bytes : List ℕ) (to : LinePlace) : Type 0 where
  pub whole : from.left ≡ 0
  pub number : ℕ
  pub in_range : IsInRange (spelling set number)
  pub text : line ≡ listed arch set from.at number
  pub its_bytes : bytes ≡ spelling_bytes (spelling set number)
  pub next : to ≡ record { at = (from.at + size set) % 2 ^ 32; left = 0 }

-- a line is that of a byte: fewer than a word or half has are left
pub record IsByteLine (set : Set) (from : LinePlace) (line bytes : List ℕ) (to : LinePlace) : Type 0 where
  pub few : from.left + 1 < size set
  pub number : ℕ
  pub in_range : number < 2 ^ 8
  pub text : line ≡ raw_byte number
  pub its_bytes : bytes ≡ number ∷ []
  pub next : to ≡ record { at = from.at; left = from.left + 1 }

-- a line may stand at a place, has these bytes, and leads to the next place
abbrev pub Leads : Arch → Set → LinePlace → List ℕ → List ℕ → LinePlace → Type 0
Leads arch set from line bytes to = IsStatement arch set from line bytes to ⊎ IsByteLine set from line bytes to

-- so do lines, one after the other
abbrev pub Path : Arch → Set → LinePlace → List (List ℕ) → List ℕ → LinePlace → Type 0
Path arch set from [] bytes to = (bytes ≡ []) × (to ≡ from)
Path arch set from (line ∷ lines) bytes to =
    (first : List ℕ) × (mid : LinePlace) × (rest : List ℕ) × (Leads arch set from line first mid) × (bytes ≡ first ++ rest)
    × (Path arch set mid lines rest to)

-- lines can stand after a listing's first line
pub record HasPath (arch : Arch) (set : Set) (from : LinePlace) (lines : List (List ℕ)) (bytes : List ℕ) : Type 0 where
  pub to : LinePlace
  pub path : Path arch set from lines bytes to

-- how many lines can stand there before one that can't, or that lacks its line feed
pub record EndsAt (arch : Arch) (set : Set) (from : LinePlace) (lines : List (List ℕ)) (tail : List ℕ) (count : ℕ) : Type 0 where
  pub within : count ≤ length lines
  pub bytes : List ℕ
  pub front : HasPath arch set from (take count lines) bytes
  pub bad : ((count < length lines) × ((bytes : List ℕ) → HasPath arch set from (take (count + 1) lines) bytes → ⊥))
      ⊎ ((count ≡ length lines) × (tail ≢ []))
