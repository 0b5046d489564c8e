use Rattle.std.specs.Prelude.{◌<◌}
use Rattle.arm_core.specs.declared.outcomes.Stepped as stepped
use Rattle.arm_core.specs.declared.outcomes.Stepped.TheVariants.{Cost, Halted, Left}

-- What the proofs above need of each step. No public clause speaks of it.

-- a step that is taken costs a clock at least, so that time goes on (our choice of costs)
abbrev pub CostsSome : stepped.Stepped → Type 0
CostsSome (Cost clocks) = 0 < clocks
CostsSome (Halted clocks) = Unit {0}
CostsSome (Left stop) = Unit {0}
