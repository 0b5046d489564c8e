use Rattle.video2d.proofs.Words.{frame_pixel, get_or, length, ℕ, ◌*◌, ◌<◌, ◌≡◌, ◌≤◌}
use Rattle.video2d.proofs.screens.fill_rest.Given as goal

abbrev pub invariant-loop-number : goal.invariant-loop-number
invariant-loop-number l = record {
  done : (x : ℕ) → x < 256 * l.number → get_or l.drawn x 0 ≡ frame_pixel l.fresh l.fn.drawn l.whole x;
  left : (x : ℕ) → 256 * l.number ≤ x → x < 98304 → get_or l.drawn x 0 ≡ get_or l.fn.drawn x 0;
  long : length l.drawn ≡ 98304;
}
