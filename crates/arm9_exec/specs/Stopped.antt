use Rattle.std.specs.Prelude.{◌≡◌, Bool, true, false}
use Rattle.arm_core.specs.Registers.{RegisterState}
use Rattle.arm_core.specs.declared.outcomes.Stepped as stepped
use Rattle.arm_core.specs.declared.outcomes.Stepped.TheVariants.{Cost, Halted, Left}
use Rattle.cp15_tcm.specs.Registers.{Cp15State}

-- a step that needs what is left out leaves the registers and those of CP15 as they were
abbrev pub KeepsBothWhereStopped : RegisterState → Cp15State → stepped.Stepped → RegisterState → Cp15State → Type 0
KeepsBothWhereStopped s cp (Cost clocks) new_s new_cp = Unit {0}
KeepsBothWhereStopped s cp (Halted clocks) new_s new_cp = Unit {0}
KeepsBothWhereStopped s cp (Left stop) new_s new_cp = (new_s ≡ s) × (new_cp ≡ cp)

-- a step came to a halt
abbrev pub ends_halted : stepped.Stepped → Bool
ends_halted (Cost clocks) = false
ends_halted (Halted clocks) = true
ends_halted (Left stop) = false
