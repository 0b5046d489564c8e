use Rattle.std.specs.Prelude.{ℕ, ◌≡◌, true, if◌then◌else◌, Some}
use Rattle.ds_base.specs.declared.processors.Arch.{Arch}
use Rattle.arm_words.specs.declared.instructions.Instr.{Instr}
use Rattle.arm_core.specs.Conditions.{holds}
use Rattle.arm_core.specs.Exceptions.{undefined_meaning}
use Rattle.arm_core.specs.Meanings.{condition, meaning, skipped}
use Rattle.arm_core.specs.Registers.{RegisterState}
use Rattle.arm_core.specs.Undefined.{is_undefined}

-- an instruction that is undefined enters its vector where its condition holds, and otherwise has no effect
abbrev pub EntersUndefined : Type 0
EntersUndefined = (arch : Arch) (base : ℕ) (s : RegisterState) (instr : Instr) → is_undefined arch (Some instr) ≡ true
    → meaning arch base s instr ≡ (if holds (condition instr) s.cpsr then undefined_meaning base s else skipped s)
