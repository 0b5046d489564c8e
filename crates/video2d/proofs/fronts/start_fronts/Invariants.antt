use Rattle.video2d.proofs.Words.{front_at, started, ℕ, ◌<◌, ◌≡◌}
use Rattle.video2d.proofs.fronts.start_fronts.Given as goal

abbrev pub invariant-loop-x : goal.invariant-loop-x
invariant-loop-x l = (x : ℕ) → x < l.x → front_at l.into x ≡ started l.backdrop l.laid
