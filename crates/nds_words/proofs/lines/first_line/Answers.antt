use Rattle.std.proofs.Common.{arith}
use Rattle.nds_words.proofs.LoopLaws.{plain_more}
use Rattle.nds_words.proofs.lines.first_line.Goals as goal

pub loop-end-preserved : goal.loop-end-preserved
loop-end-preserved c = record {
  within = omega arith;
  plain = plain_more c.args.text.now c.loop-end.end (omega arith) c.loop-end.invariant.plain (λ e. absurd (first_of (omega (arith, e), grind (arith, e))));
}
