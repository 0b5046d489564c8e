use Rattle.video2d.proofs.Words.{get_or, laid_over, ℕ, ◌<◌, ◌≡◌, ◌≤◌}
use Rattle.video2d.proofs.plains.lay_row.Given as goal

abbrev pub invariant-loop-x : goal.invariant-loop-x
invariant-loop-x l = record {
  done : (x : ℕ) → x < l.x → get_or l.into x 0 ≡ laid_over (get_or l.row.pixels x 0) (get_or l.fn.into x 0);
  left : (x : ℕ) → l.x ≤ x → get_or l.into x 0 ≡ get_or l.fn.into x 0;
}
