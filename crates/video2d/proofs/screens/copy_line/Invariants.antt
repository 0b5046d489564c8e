use Rattle.video2d.proofs.Words.{get_or, length, ℕ, ◌*◌, ◌<◌, ◌≡◌, ◌≤◌}
use Rattle.video2d.proofs.screens.copy_line.Given as goal

abbrev pub invariant-loop-i : goal.invariant-loop-i
invariant-loop-i l = record {
  done : (x : ℕ) → 256 * l.number ≤ x → x < l.i → get_or l.into x 0 ≡ get_or l.from x 0;
  before : (x : ℕ) → x < 256 * l.number → get_or l.into x 0 ≡ get_or l.fn.into x 0;
  left : (x : ℕ) → l.i ≤ x → get_or l.into x 0 ≡ get_or l.fn.into x 0;
  long : length l.into ≡ 98304;
}
