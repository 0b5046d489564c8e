use Rattle.std.specs.Prelude.{ℕ, ◌≡◌, ◌<◌, ◌^◌, [], ◌∷◌, length, slice_index}
use Rattle.ds_base.specs.declared.processors.Arch.{Arch}
use Rattle.ds_state.specs.Formats.{Format, number_code, done, ◌>>=◌, one_field, each, any, keeps_mask, word_format}
use Rattle.ds_state.specs.FormatLaws.{OneSpelling, RoundTrips}
use Rattle.arm_core.specs.Registers.{RegisterState}
use Rattle.arm_core.specs.StatusRegisters.{kept_status_bits}
use Rattle.arm_core.specs.StatusLaws.{HasStatuses}

-- A core in bytes (our choice of form): its 37 registers in their order, each a word. CPSR and each SPSR have only the bits that a status
-- register of the architecture keeps (ARM manual, A2.5 "Program status registers"); r15 may have any.
unfoldable pub registers_format : Arch → Format RegisterState RegisterState
registers_format arch = do
  general ← each 30 word_format (λ s. s.general)
  pc ← one_field (number_code 4) (λ s. s.pc) any
  cpsr ← one_field (number_code 4) (λ s. s.cpsr) (keeps_mask (kept_status_bits arch))
  fiq ← one_field (number_code 4) (λ s. slice_index s.saved 0) (keeps_mask (kept_status_bits arch))
  supervisor ← one_field (number_code 4) (λ s. slice_index s.saved 1) (keeps_mask (kept_status_bits arch))
  abort ← one_field (number_code 4) (λ s. slice_index s.saved 2) (keeps_mask (kept_status_bits arch))
  irq ← one_field (number_code 4) (λ s. slice_index s.saved 3) (keeps_mask (kept_status_bits arch))
  undefined ← one_field (number_code 4) (λ s. slice_index s.saved 4) (keeps_mask (kept_status_bits arch))
  done (record { general = general; pc = pc; cpsr = cpsr; saved = fiq ∷ supervisor ∷ abort ∷ irq ∷ undefined ∷ [] })

-- there are 37, and each is a word
pub record AreRegisters (s : RegisterState) : Type 0 where
  pub thirty : length s.general ≡ 30
  pub general : (i : ℕ) → i < 30 → slice_index s.general i < 2 ^ 32
  pub pc : s.pc < 2 ^ 32
  pub five : length s.saved ≡ 5

-- their bytes are read as they were, and bytes that are read are theirs
pub record RegistersAreSaved : Type 0 where
  pub back : (arch : Arch) (at : ℕ) (s : RegisterState) → AreRegisters s → HasStatuses arch s → RoundTrips (registers_format arch) at s
  pub spelling : (arch : Arch) (at : ℕ) → OneSpelling (registers_format arch) at
