use Rattle.video2d.proofs.Words.{get_or, if◌then◌else◌, ℕ, ◌<◌, ◌==◌, ◌≡◌, ◌≤◌}
use Rattle.video2d.proofs.rows.choose.Given as goal

abbrev pub invariant-loop-x : goal.invariant-loop-x
invariant-loop-x l = record {
  done : (x : ℕ) → x < l.x → get_or l.into x 0 ≡ (if get_or l.marks x 0 == l.mark then get_or l.other x 0 else get_or l.fn.into x 0);
  left : (x : ℕ) → l.x ≤ x → get_or l.into x 0 ≡ get_or l.fn.into x 0;
}
