use Rattle.video2d.proofs.Words.{bit, get_or, if◌then◌else◌, ℕ, ◌<◌, ◌≡◌, ◌≤◌}
use Rattle.video2d.proofs.windows.hide.Given as goal

abbrev pub invariant-loop-x : goal.invariant-loop-x
invariant-loop-x l = record {
  done : (x : ℕ) → x < l.x → get_or l.row x 0 ≡ (if bit l.n (get_or l.shown.bits x 0) then get_or l.fn.row x 0 else 0);
  left : (x : ℕ) → l.x ≤ x → get_or l.row x 0 ≡ get_or l.fn.row x 0;
}
