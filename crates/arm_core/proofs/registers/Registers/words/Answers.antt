use Rattle.std.proofs.Common.{rules}
use Rattle.arm_core.proofs.Layouts.{laid}
use Rattle.arm_core.proofs.registers.Registers.words.Goals as goal

pub returns : goal.returns
returns c = search (rules, laid)
