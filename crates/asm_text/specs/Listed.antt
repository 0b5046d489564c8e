use Rattle.std.specs.Prelude.{ℕ, List, ◌++◌, codes, Option, Some, None, if◌then◌else◌}
use Rattle.ds_base.specs.declared.processors.Arch.{Arch}
use Rattle.arm_words.specs.Spellings.{decoded}
use Rattle.arm_words.specs.declared.instructions.Instr.{Instr}
use Rattle.arm_words.specs.declared.spellings.Spelling.{Spelling}
use Rattle.arm_words.specs.declared.spellings.Spelling.TheVariants.{Word, Half}
use Rattle.asm_text.specs.declared.sets.Set.{Set}
use Rattle.asm_text.specs.declared.sets.Set.TheVariants.{Arm, Thumb}
use Rattle.ds_base.specs.Digits.{hex_digits}
use Rattle.asm_text.specs.Canonical.{is_canonical}
use Rattle.asm_text.specs.Statements.{statement}

-- a number as a word or half of a set
abbrev pub spelling : Set → ℕ → Spelling
spelling Arm word = Word word
spelling Thumb word = Half word

-- the number of a word or half
abbrev pub number_in : Spelling → ℕ
number_in (Word word) = word
number_in (Half half) = half

-- a word or half itself, with all its digits (our choice)
abbrev pub raw : Spelling → List ℕ
raw (Word word) = codes ".word 0x" ++ hex_digits 8 word
raw (Half half) = codes ".half 0x" ++ hex_digits 4 half

abbrev pub stated : ℕ → ℕ → Spelling → Option Instr → List ℕ
stated at number s None = raw s
stated at number s (Some instr) = if is_canonical number instr then statement at instr else raw s

-- the statement of a word or half at an address: that of its instruction where it is canonical, otherwise the number itself
abbrev pub listed : Arch → Set → ℕ → ℕ → List ℕ
listed arch set at word = stated at word (spelling set word) (decoded arch (spelling set word))
