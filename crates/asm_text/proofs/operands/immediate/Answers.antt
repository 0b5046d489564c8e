use Rattle.std.proofs.Common.{arith, ◌∙◌}
use Rattle.asm_text.proofs.Rotations.{rotated}
use Rattle.asm_text.proofs.operands.immediate.Goals as goal

pub returns : goal.returns
returns c = c.rotate_right.ensures ∙ rotated c.args.rotate c.args.immed c.requires (omega arith)
