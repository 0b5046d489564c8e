use Rattle.video2d.proofs.Words.{get_or, lanes_pixel, over_at, seen_objects, ℕ, ◌<◌, ◌≡◌, ◌≤◌}
use Rattle.video2d.proofs.plains.lay_objects.Given as goal

abbrev pub invariant-loop-x : goal.invariant-loop-x
invariant-loop-x l = record {
  done : (x : ℕ) → x < l.x → get_or l.into x 0 ≡ over_at l.turn (seen_objects (lanes_pixel l.objects x)) (get_or l.fn.into x 0);
  left : (x : ℕ) → l.x ≤ x → get_or l.into x 0 ≡ get_or l.fn.into x 0;
}
