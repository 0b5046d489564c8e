use Rattle.std.proofs.Common.{arith}
use Rattle.nds_words.proofs.LoopLaws.{common_ended}
use Rattle.nds_words.proofs.names.common.Goals as goal

pub returns-else-count-text-clause-count : goal.returns-else-count-text-clause-count
returns-else-count-text-clause-count c = common_ended c.args.piece.now c.args.text.now c.loop-count.count (omega arith) c.loop-count.invariant.same
