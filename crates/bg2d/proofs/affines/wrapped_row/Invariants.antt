use Rattle.bg2d.proofs.Words.{affine_pixel, get_or, ℕ, ◌<◌, ◌≡◌}
use Rattle.bg2d.proofs.affines.wrapped_row.Given as goal

abbrev pub invariant-loop-x : goal.invariant-loop-x
invariant-loop-x l = (x : ℕ) → x < l.x → get_or l.into.pixels x 0 ≡ affine_pixel l.vram l.palette l.layer x
