use Rattle.bg2d.specs.rows.Tiling.{AreTiles}
use Rattle.bg2d.proofs.texts.paint_narrow.Given as goal

abbrev pub invariant-loop-k : goal.invariant-loop-k
invariant-loop-k l = AreTiles l.vram l.palette l.layer l.y l.entries l.into l.k
