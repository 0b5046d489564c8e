use Rattle.std.specs.Prelude.{ℕ, ◌%◌, ◌^◌, List, Option, Some, None}
use Rattle.arm_words.specs.Fields.{HasFields}
use Rattle.arm_words.specs.Spellings.{spelled}
use Rattle.asm_text.specs.Reader.ArmRows.{arm_row}
use Rattle.asm_text.specs.Listed.{number_in}
use Rattle.asm_text.specs.Reader.Names.{Filler, read}
use Rattle.asm_text.specs.Reader.ThumbRows.{thumb_row}
use Rattle.asm_text.specs.declared.reading.arm_stems.TheConstants.{ARM_STEMS}
use Rattle.asm_text.specs.declared.reading.names.Stem.{Stem}
use Rattle.asm_text.specs.declared.reading.names.Stem.TheVariants.{Row, Raw}
use Rattle.asm_text.specs.declared.reading.thumb_stems.TheConstants.{THUMB_STEMS}
use Rattle.asm_text.specs.declared.sets.Set.{Set}
use Rattle.asm_text.specs.declared.sets.Set.TheVariants.{Arm, Thumb}

-- The word or half of which a text may be the statement. No public clause speaks of it.

abbrev pub stems_in : Set → List (ℕ × Stem)
stems_in Arm = ARM_STEMS
stems_in Thumb = THUMB_STEMS

abbrev pub row_in : Set → Filler
row_in Arm = arm_row
row_in Thumb = thumb_row

abbrev pub read_in : Set → ℕ → List ℕ → Option Stem
read_in set at text = read (stems_in set) (row_in set) at text

-- an instruction that was read has its fields in their ranges
abbrev pub HasStem : Stem → Type 0
HasStem (Row instr) = HasFields instr
HasStem (Raw n) = Unit {0}

abbrev pub number_read : Stem → ℕ
number_read (Row instr) = number_in (spelled instr)
number_read (Raw n) = n

abbrev pub in_set : Set → ℕ → ℕ
in_set Arm n = n % 2 ^ 32
in_set Thumb n = n % 2 ^ 16

abbrev pub if_read : Set → Option Stem → Option ℕ
if_read set None = None
if_read set (Some stem) = Some (in_set set (number_read stem))

abbrev pub candidate : Set → ℕ → List ℕ → Option ℕ
candidate set at text = if_read set (read_in set at text)
