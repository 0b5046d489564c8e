use Rattle.video2d.proofs.Words.{front_at, lanes_pixel, objects_over, ℕ, ◌<◌, ◌≡◌, ◌≤◌}
use Rattle.video2d.proofs.fronts.lay_front_objects.Given as goal

abbrev pub invariant-loop-x : goal.invariant-loop-x
invariant-loop-x l = record {
  done : (x : ℕ) → x < l.x → front_at l.into x
      ≡ (let p = lanes_pixel l.objects x in objects_over p.colour p.priority p.blended l.turn l.laid (front_at l.fn.into x));
  left : (x : ℕ) → l.x ≤ x → front_at l.into x ≡ front_at l.fn.into x;
}
