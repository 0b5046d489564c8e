use Rattle.std.specs.Prelude.{ℕ, ◌%◌, ◌^◌, ◌==◌, Bool, true, false, [], ◌∷◌, slice_index}
use Rattle.ds_base.specs.Accesses.{Read, Write}
use Rattle.ds_base.specs.Numbers.{cut_to}
use Rattle.ds_base.specs.declared.memories.Width.{Width}
use Rattle.ds_base.specs.declared.memories.Width.TheVariants.{Byte, Word}
use Rattle.arm_core.specs.Registers.{RegisterState, register, late_register, next, put}
use Rattle.arm_core.specs.Transfers.{rotated_word}
use Rattle.arm_core.specs.Effects.{Meaning}
use Rattle.arm_core.specs.declared.classes.Class.TheVariants.{Swap}

-- SWP and SWPB (ARM manual, A3.13 "Semaphore instructions"): rd has what was read where rm was then written. The word is rotated as
-- LDR's; the store is aligned.
abbrev pub swap_by : RegisterState → ℕ → ℕ → ℕ → Width → (ℕ → ℕ) → Meaning
swap_by s rd rm address width loaded = record {
  accesses = Read address width ∷ Write address width (cut_to width (late_register s rm)) ∷ [];
  after = λ values. put rd (loaded (slice_index values 0)) (next s);
  class = Swap;
  jumps = rd == 15;
}

abbrev pub swap_meaning : RegisterState → Bool → ℕ → ℕ → ℕ → Meaning
swap_meaning s true rd rm rn = swap_by s rd rm (register s rn) Byte (λ value. value % 2 ^ 8)
swap_meaning s false rd rm rn = swap_by s rd rm (register s rn) Word (rotated_word (register s rn))
