use Rattle.std.proofs.Common.{◌/◌, ◌^◌, refl, sym, ◌∙◌, arith}
use Rattle.arm_words.proofs.Splits.{sum_leaf, middle_leaf, offset_leaf, stack_leaf, multiple_half_leaf, branch_leaf}
use Rattle.arm_words.proofs.thumb.by_tables.Goals as goal

pub returns-in-2 : goal.returns-in-2
returns-in-2 c = c.middles.ensures ∙ sym (middle_leaf c.args.arch c.args.half (omega arith) (omega arith))

pub returns-in-5 : goal.returns-in-5
returns-in-5 c = c.stacks.ensures ∙ sym (stack_leaf c.args.arch c.args.half (omega arith) (omega arith))

pub returns-in-6 : goal.returns-in-6
returns-in-6 c = c.multiples.ensures ∙ sym (multiple_half_leaf c.args.arch c.args.half (omega arith) (omega arith))

pub returns-in_default : goal.returns-in_default
returns-in_default c = c.branches.ensures ∙ sym (branch_leaf c.args.arch c.args.half (omega arith) (omega arith))

pub returns-in-3 : goal.returns-in-3
returns-in-3 c = c.offsets.ensures ∙ sym (offset_leaf c.args.arch c.args.half (omega arith) (omega arith) (omega arith))

pub returns-in-0 : goal.returns-in-0
returns-in-0 c = c.sums.ensures ∙ sym (sum_leaf c.args.arch c.args.half (c.args.half / 2 ^ 13) (omega arith) refl (omega arith))
