use Rattle.std.proofs.Common.{sym, ◌∙◌, arith}
use Rattle.arm_words.proofs.Splits.{transfer_leaf, multiple_leaf, coprocessor_leaf}
use Rattle.arm_words.proofs.arm.high.Goals as goal

pub returns-then-class-eq67108864 : goal.returns-then-class-eq67108864
returns-then-class-eq67108864 c =
    c.transfers.ensures ∙ sym (transfer_leaf c.args.arch c.args.word (omega arith))

pub returns-then-class-eq134217728 : goal.returns-then-class-eq134217728
returns-then-class-eq134217728 c =
    c.multiples.ensures ∙ sym (multiple_leaf c.args.arch c.args.word (omega arith))

pub returns-else-class-eq134217728 : goal.returns-else-class-eq134217728
returns-else-class-eq134217728 c =
    c.coprocessors.ensures ∙ sym (coprocessor_leaf c.args.arch c.args.word c.requires (omega arith) (omega arith))
