use Rattle.video2d.proofs.Words.{get_or, ℕ, ◌<◌, ◌≡◌}
use Rattle.video2d.proofs.backgrounds.clear.Given as goal

abbrev pub invariant-loop-x : goal.invariant-loop-x
invariant-loop-x l = (x : ℕ) → x < l.x → get_or l.into.pixels x 0 ≡ 0
