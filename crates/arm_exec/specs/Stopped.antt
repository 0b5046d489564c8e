use Rattle.std.specs.Prelude.{◌≡◌}
use Rattle.arm_core.specs.Registers.{RegisterState}
use Rattle.arm_core.specs.declared.outcomes.Stepped as stepped
use Rattle.arm_core.specs.declared.outcomes.Stepped.TheVariants.{Cost, Halted, Left}

-- an entry or an instruction that needs what is left out leaves the registers as they were, and none halts, but for a move to CP15
abbrev pub KeepsWhereStopped : RegisterState → stepped.Stepped → RegisterState → Type 0
KeepsWhereStopped old (Cost clocks) new = Unit {0}
KeepsWhereStopped old (Halted clocks) new = ⊥
KeepsWhereStopped old (Left stop) new = new ≡ old
