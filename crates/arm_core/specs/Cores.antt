use Rattle.std.specs.Prelude.{ℕ, List, [], ◌∷◌, slice_index}
use Rattle.arm_core.specs.Registers.{RegisterState}

-- the registers at boot: System mode with interrupts masked, in ARM state. r12, r14 and r15 are the entry, r13 of System, IRQ and
-- Supervisor the stacks in this order, and what isn't named is 0 (our choice of a direct boot)
abbrev pub booted : ℕ → List ℕ → RegisterState
booted entry stacks = record {
  general =
      -- r0 to r12
      0 ∷ 0 ∷ 0 ∷ 0 ∷ 0 ∷ 0 ∷ 0 ∷ 0 ∷ 0 ∷ 0 ∷ 0 ∷ 0 ∷ entry
      -- r8 to r12 of FIQ
      ∷ 0 ∷ 0 ∷ 0 ∷ 0 ∷ 0
      -- r13 and r14 of System, FIQ, Supervisor, Abort, IRQ, Undefined
      ∷ slice_index stacks 0 ∷ entry ∷ 0 ∷ 0 ∷ slice_index stacks 2 ∷ 0 ∷ 0 ∷ 0 ∷ slice_index stacks 1 ∷ 0 ∷ 0 ∷ 0 ∷ [];
  pc = entry;
  cpsr = 0xDF;
  saved = 0 ∷ 0 ∷ 0 ∷ 0 ∷ 0 ∷ [];
}
