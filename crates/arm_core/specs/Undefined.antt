use Rattle.std.specs.Prelude.{ℕ, ◌==◌, Bool, true, false, not, Option, Some, None}
use Rattle.ds_base.specs.declared.processors.Arch.{Arch}
use Rattle.ds_base.specs.declared.processors.Arch.TheVariants.{V4, V5}
use Rattle.arm_words.specs.declared.instructions.Instr.{Instr}
use Rattle.arm_words.specs.declared.instructions.Instr.TheVariants.{Coprocessor}

-- Which words and halves are undefined on a processor, whatever their condition.

-- the coprocessors that it has: ARM9 has CP15 (ARM946E-S manual, "Programmer's model"), ARM7 has none
abbrev pub has_coprocessor : Arch → ℕ → Bool
has_coprocessor V4 cp = false
has_coprocessor V5 cp = cp == 15

-- those that have no instruction, and the moves to or from a coprocessor that the processor hasn't
abbrev pub is_undefined : Arch → Option Instr → Bool
is_undefined arch None = true
is_undefined arch (Some (Coprocessor cond load op1 crn rd cp op2 crm)) = not (has_coprocessor arch cp)
is_undefined arch (Some instr) = false
