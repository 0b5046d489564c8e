use Rattle.obj2d.proofs.Words.{get_or, ℕ, ◌<◌, ◌≡◌}
use Rattle.obj2d.specs.ObjectPixels.{turned_pixel}
use Rattle.obj2d.proofs.strips.affine_strip.Given as goal

abbrev pub invariant-loop-x : goal.invariant-loop-x
invariant-loop-x l = (x : ℕ) → x < l.x → get_or l.into x 0 ≡ turned_pixel l.vram l.palette l.display l.object l.turn x l.y
