use Rattle.std.specs.Prelude.{ℕ, List, ◌++◌, codes}
use Rattle.ds_base.specs.declared.processors.Arch.{Arch}
use Rattle.ds_base.specs.declared.processors.Arch.TheVariants.{V4, V5}
use Rattle.asm_text.specs.declared.sets.Set.{Set}
use Rattle.asm_text.specs.declared.sets.Set.TheVariants.{Arm, Thumb}
use Rattle.ds_base.specs.Digits.{hex_digits}
use Rattle.asm_text.specs.Text.{hex}

-- what a listing begins with: the instruction set and the processor (our choice)
abbrev pub start_name : Arch → Set → List ℕ
start_name V5 Arm = codes ".arm9 "
start_name V5 Thumb = codes ".thumb9 "
start_name V4 Arm = codes ".arm7 "
start_name V4 Thumb = codes ".thumb7 "

-- the first line of a listing: the name and the address of its first word or half (our choice)
abbrev pub start : Arch → Set → ℕ → List ℕ
start arch set at = start_name arch set ++ hex at

-- a byte itself, where no word or half is left (our choice)
abbrev pub raw_byte : ℕ → List ℕ
raw_byte b = codes ".byte 0x" ++ hex_digits 2 b
