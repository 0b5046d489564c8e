use Rattle.std.proofs.Common.{◌≡◌}
use Rattle.arm_core.specs.Registers.{general_of}
use Rattle.arm_core.proofs.registers.put_back.Given as goal

abbrev pub invariant-loop-r : goal.invariant-loop-r
invariant-loop-r l = l.store ≡ general_of l.bank l.r l.present l.initial.store
