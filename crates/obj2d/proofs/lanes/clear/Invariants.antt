use Rattle.obj2d.proofs.Words.{blank_pixel, lanes_pixel, ℕ, ◌<◌, ◌≡◌}
use Rattle.obj2d.proofs.lanes.clear.Given as goal

abbrev pub invariant-loop-x : goal.invariant-loop-x
invariant-loop-x l = (x : ℕ) → x < l.x → lanes_pixel l.into x ≡ blank_pixel
