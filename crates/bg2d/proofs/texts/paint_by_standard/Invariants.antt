use Rattle.bg2d.proofs.Words.{ArePainted}
use Rattle.bg2d.proofs.texts.paint_by_standard.Given as goal

abbrev pub invariant-loop-k : goal.invariant-loop-k
invariant-loop-k l = ArePainted l.vram l.palette l.layer l.entries l.indices l.into l.k
