use Rattle.video2d.proofs.Words.{front_at, front_kind, get_or, ℕ, ◌<◌, ◌≡◌}
use Rattle.video2d.proofs.fronts.kinds_of.Given as goal

abbrev pub invariant-loop-x : goal.invariant-loop-x
invariant-loop-x l = (x : ℕ) → x < l.x → get_or l.into x 0 ≡ front_kind (front_at l.fronts x)
