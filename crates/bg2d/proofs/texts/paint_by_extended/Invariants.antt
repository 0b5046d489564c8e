use Rattle.bg2d.proofs.Words.{ArePainted, IsKept}
use Rattle.bg2d.proofs.texts.paint_by_extended.Given as goal

abbrev pub invariant-loop-k : goal.invariant-loop-k
invariant-loop-k l = record {
  kept : IsKept l.vram l.layer l.kept;
  so_far : ArePainted l.vram l.palette l.layer l.entries l.indices l.into l.k;
}
