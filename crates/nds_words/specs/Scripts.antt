-- Key scripts (our choice of form; the keys are those of GBATEK, "DS Keypad").
use Rattle.std.specs.Prelude.{ℕ, ◌≡◌, ◌≢◌, ◌<◌, ◌≤◌, ◌+◌, ◌/◌, ◌%◌, ◌^◌, ◌==◌, List, [], ◌∷◌, ◌++◌, length, map, take, codes, All, if◌then◌else◌, ◌⊎◌}
use Rattle.std.specs.Fmt.{decimal}
use Rattle.ds_base.specs.Texts.{HasNoFeed, text_of}
use Rattle.ds_base.specs.KeyLines.{AreKeyLines, ComesAfter}
use Rattle.ds_base.specs.declared.keys.KeyLine.{KeyLine}
use Rattle.nds_words.specs.declared.faults.ScriptFault.{ScriptFault}
use Rattle.nds_words.specs.declared.faults.ScriptFault.TheVariants.{NoMemory, Bad}

-- the keys' names, from bit 0 of a line's `pressed` on
unfoldable pub key_names : List (List ℕ)
key_names =
    codes "A" ∷ codes "B" ∷ codes "SELECT" ∷ codes "START" ∷ codes "RIGHT" ∷ codes "LEFT"
    ∷ codes "UP" ∷ codes "DOWN" ∷ codes "R" ∷ codes "L" ∷ codes "X" ∷ codes "Y" ∷ []

-- of these names, those whose bits are 1; the first name's is bit 0
abbrev pub chosen : List (List ℕ) → ℕ → List (List ℕ)
chosen [] bits = []
chosen (name ∷ names) bits = if bits % 2 == 1 then name ∷ chosen names (bits / 2) else chosen names (bits / 2)

-- names, the first after a mark and each other one after a plus sign
abbrev pub marked : ℕ → List (List ℕ) → List ℕ
marked mark [] = []
marked mark (name ∷ names) = mark ∷ name ++ marked 43 names

-- the pressed keys, after a space; a minus sign stands for none
abbrev pub keys_text : ℕ → List ℕ
keys_text pressed = if pressed == 0 then codes " -" else marked 32 (chosen key_names pressed)

-- a line: its tick in decimal digits without a leading zero, and the keys that are pressed from then on
abbrev pub line_text : KeyLine → List ℕ
line_text line = decimal line.tick.0 ++ keys_text line.pressed

-- a script: its lines, each ended by a line feed
abbrev pub script_text : List KeyLine → List ℕ
script_text lines = text_of (map line_text lines)

-- what a line can tell: a tick of at most eleven digits, and twelve keys
pub record IsLine (line : KeyLine) : Type 0 where
  pub early : line.tick.0 < 10 ^ 11
  pub twelve : line.pressed < 2 ^ 12

-- lines one after another, whose ticks rise
pub record AreLines (lines : List KeyLine) : Type 0 where
  pub each : All IsLine lines
  pub rise : AreKeyLines lines

-- a text is the script of these lines; the last line may lack its line feed
pub record IsScript (text : List ℕ) (lines : List KeyLine) : Type 0 where
  pub good : AreLines lines
  pub is : (text ≡ script_text lines) ⊎ (text ++ 10 ∷ [] ≡ script_text lines)

-- some line begins so
pub record IsLineFront (front : List ℕ) : Type 0 where
  pub line : KeyLine
  pub good : IsLine line
  pub rest : List ℕ
  pub is : line_text line ≡ front ++ rest

-- so many bytes of a text are its longest front with which some line begins
pub record IsLongest (text : List ℕ) (count : ℕ) : Type 0 where
  pub within : count ≤ length text
  pub front : IsLineFront (take count text)
  pub longest : (more : ℕ) → more ≤ length text → IsLineFront (take more text) → more ≤ count

-- a text is no line; it is bad at the column after its longest front, counted from 1
pub record IsNoLine (text : List ℕ) (column : ℕ) : Type 0 where
  pub none : (line : KeyLine) → IsLine line → text ≢ line_text line
  pub count : ℕ
  pub longest : IsLongest text count
  pub is : column ≡ count + 1

-- a text is a line, whose tick doesn't rise; it is bad at column 1
pub record IsLate (before : List KeyLine) (text : List ℕ) (column : ℕ) : Type 0 where
  pub line : KeyLine
  pub good : IsLine line
  pub is : text ≡ line_text line
  pub late : ComesAfter before line → ⊥
  pub first : column ≡ 1

-- a line ends before a line feed, and at the end of the script where anything stands on it
abbrev pub EndsBefore : List ℕ → List ℕ → Type 0
EndsBefore line [] = line ≢ []
EndsBefore line (b ∷ bs) = b ≡ 10

-- Lines are counted from 1. The first bad line is no line, or its tick doesn't rise; the lines before it are those of a script.
pub record IsFirstBadAt (text : List ℕ) (line column : ℕ) : Type 0 where
  pub before : List KeyLine
  pub good : AreLines before
  pub bad : List ℕ
  pub plain : HasNoFeed bad
  pub rest : List ℕ
  pub ends : EndsBefore bad rest
  pub is : text ≡ script_text before ++ (bad ++ rest)
  pub number : line ≡ length before + 1
  pub why : IsNoLine bad column ⊎ IsLate before bad column

-- why a text isn't read as a script
abbrev pub IsCause : List ℕ → ScriptFault → Type 0
IsCause text NoMemory = Unit {0}
IsCause text (Bad line column) = IsFirstBadAt text line column
