use Rattle.std.proofs.Common.{ℕ, ◌≡◌, ◌<◌, slice_index}
use Rattle.arm_core.specs.Registers.{place}
use Rattle.arm_core.proofs.registers.bring.Given as goal

pub record AreBrought (done : ℕ) (now : ℕ → ℕ) (from : ℕ → ℕ) (last : ℕ) : Type 0 where
  pub each : (r : ℕ) → r < done → now r ≡ from r
  pub rest : now 15 ≡ last

abbrev pub invariant-loop-r : goal.invariant-loop-r
invariant-loop-r l = AreBrought l.r (slice_index l.present) (λ r. slice_index l.store (place l.bank r)) (slice_index l.initial.present 15)
