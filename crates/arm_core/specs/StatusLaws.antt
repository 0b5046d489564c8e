use Rattle.std.specs.Prelude.{ℕ, ◌≡◌, bit_and, All}
use Rattle.ds_base.specs.declared.processors.Arch.{Arch}
use Rattle.arm_core.specs.Registers.{RegisterState}
use Rattle.arm_core.specs.StatusRegisters.{kept_status_bits}

-- What holds of the status registers in every state that comes up.

-- a number that a status register can have: it has no bits but those that are kept
abbrev pub IsStatus : Arch → ℕ → Type 0
IsStatus arch number = bit_and number (kept_status_bits arch) ≡ number

-- CPSR and each SPSR have such numbers
pub record HasStatuses (arch : Arch) (s : RegisterState) : Type 0 where
  pub cpsr : IsStatus arch s.cpsr
  pub saved : All (IsStatus arch) s.saved
