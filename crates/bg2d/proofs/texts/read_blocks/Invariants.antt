use Rattle.bg2d.specs.rows.Tiling.{AreBlockLines}
use Rattle.bg2d.proofs.texts.read_blocks.Given as goal

abbrev pub invariant-loop-h : goal.invariant-loop-h
invariant-loop-h l = AreBlockLines l.vram l.layer l.y l.into l.h
