use Rattle.std.proofs.Common.{sym, ◌∙◌, arith}
use Rattle.arm_words.proofs.Splits.{immediate_leaf, extra_leaf, miscellaneous_leaf, data_leaf}
use Rattle.arm_words.proofs.arm.low.Goals as goal

pub returns-then-word-ne0 : goal.returns-then-word-ne0
returns-then-word-ne0 c =
    c.immediates.ensures ∙ sym (immediate_leaf c.args.arch c.args.word c.requires (omega arith))

pub returns-then-word-eq144 : goal.returns-then-word-eq144
returns-then-word-eq144 c =
    c.extras.ensures ∙ sym (extra_leaf c.args.arch c.args.word c.requires (omega arith) (omega arith))

pub returns-then-word-eq16777216 : goal.returns-then-word-eq16777216
returns-then-word-eq16777216 c =
    c.miscellaneous.ensures ∙ sym (miscellaneous_leaf c.args.arch c.args.word c.requires (omega arith) (omega arith))

pub returns-else-word-eq16777216 : goal.returns-else-word-eq16777216
returns-else-word-eq16777216 c =
    c.data.ensures ∙ sym (data_leaf c.args.arch c.args.word c.requires (omega arith) (omega arith) (omega arith))
