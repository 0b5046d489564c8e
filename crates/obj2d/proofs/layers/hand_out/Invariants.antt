use Rattle.obj2d.proofs.Words.{lanes_pixel, pixel_at, ℕ, ◌<◌, ◌≡◌}
use Rattle.obj2d.proofs.layers.hand_out.Given as goal

abbrev pub invariant-loop-x : goal.invariant-loop-x
invariant-loop-x l = (x : ℕ) → x < l.x → pixel_at l.into.pixels x ≡ lanes_pixel l.row x
