use Rattle.video2d.proofs.Words.{get_or, ℕ, ◌%◌, ◌<◌, ◌^◌, ◌≡◌}
use Rattle.video2d.proofs.rows.colours_of.Given as goal

abbrev pub invariant-loop-x : goal.invariant-loop-x
invariant-loop-x l = (x : ℕ) → x < l.x → get_or l.into x 0 ≡ get_or l.pixels x 0 % 2 ^ 15
