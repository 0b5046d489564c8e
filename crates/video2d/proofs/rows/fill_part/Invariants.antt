use Rattle.video2d.proofs.Words.{get_or, ℕ, ◌<◌, ◌≡◌, ◌≤◌}
use Rattle.video2d.proofs.rows.fill_part.Given as goal

abbrev pub invariant-loop-x : goal.invariant-loop-x
invariant-loop-x l = record {
  done : (x : ℕ) → l.first ≤ x → x < l.x → get_or l.into x 0 ≡ l.number;
  before : (x : ℕ) → x < l.first → get_or l.into x 0 ≡ get_or l.fn.into x 0;
  left : (x : ℕ) → l.x ≤ x → get_or l.into x 0 ≡ get_or l.fn.into x 0;
}
