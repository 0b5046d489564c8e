use Rattle.video2d.proofs.Words.{front_at, front_over, get_or, ℕ, ◌<◌, ◌≡◌, ◌≤◌}
use Rattle.video2d.proofs.fronts.lay_front.Given as goal

abbrev pub invariant-loop-x : goal.invariant-loop-x
invariant-loop-x l = record {
  done : (x : ℕ) → x < l.x → front_at l.into x ≡ front_over (get_or l.row x 0) l.laid (front_at l.fn.into x);
  left : (x : ℕ) → l.x ≤ x → front_at l.into x ≡ front_at l.fn.into x;
}
