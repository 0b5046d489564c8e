use Rattle.std.specs.Prelude.{Bool, true}
use Rattle.ds_base.specs.Accesses.{MemoryMachine}
use Rattle.ds_base.specs.declared.processors.Arch.TheVariants.{V4}
use Rattle.arm_core.specs.Registers.{RegisterState}
use Rattle.arm_core.specs.Effects.{Outcome}
use Rattle.arm_core.specs.Steps.{Setting, step_of}

-- ARM7 (GBATEK, "NDS Overview"; an ARM7TDMI): ARMv4T, whose vectors stand at 0, in its boot ROM
abbrev pub arm7 : Setting
arm7 = record { arch = V4; base = 0; in_rom = true }

-- its step on a memory machine
abbrev pub step7_of : {S : Type 0} → MemoryMachine S → Bool → RegisterState → S → Outcome S
step7_of memory line s state = step_of memory arm7 line s state
