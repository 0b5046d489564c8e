use Rattle.obj2d.specs.rows.Strips.{AreObjectPixels}
use Rattle.obj2d.proofs.strips.paint_narrow.Given as goal

abbrev pub invariant-loop-k : goal.invariant-loop-k
invariant-loop-k l = AreObjectPixels l.vram l.palette l.display l.object l.y l.into l.k
