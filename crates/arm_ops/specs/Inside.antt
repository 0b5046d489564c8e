use Rattle.std.specs.Prelude.{◌<◌}
use Rattle.arm_core.specs.declared.outcomes.Stepped.{Stepped}
use Rattle.arm_core.specs.declared.outcomes.Stepped.TheVariants.{Cost, Halted, Left}

-- What the code's parts say of one another. No public clause speaks of it.

-- a step was taken, and costs
abbrev pub IsPaid : Stepped → Type 0
IsPaid (Cost clocks) = 0 < clocks
IsPaid (Halted clocks) = ⊥
IsPaid (Left stop) = ⊥
