use Rattle.bg_ext.proofs.Words.{Half, direct_pixel, get_or, vram_value, ℕ, ◌*◌, ◌+◌, ◌<◌, ◌≡◌}
use Rattle.bg_ext.proofs.lines.straight_halves.Given as goal

abbrev pub invariant-loop-x : goal.invariant-loop-x
invariant-loop-x l = (j : ℕ) → j < l.x → get_or l.into j 0 ≡ direct_pixel (vram_value l.vram l.space (l.at + 2 * j) Half)
