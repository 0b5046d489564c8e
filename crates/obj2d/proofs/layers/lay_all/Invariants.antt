use Rattle.obj2d.proofs.Words.{AreInSpans, lanes_pixel, pixel_below, seen_at, ℕ, ◌<◌, ◌≡◌}
use Rattle.obj2d.proofs.layers.lay_all.Given as goal

abbrev pub invariant-loop-number : goal.invariant-loop-number
invariant-loop-number l = record {
  row : (x : ℕ) → x < 256 → lanes_pixel l.into x ≡ pixel_below (seen_at l.vram l.palette l.oam l.display l.line x) l.number;
  within : AreInSpans l.into l.spans;
}
