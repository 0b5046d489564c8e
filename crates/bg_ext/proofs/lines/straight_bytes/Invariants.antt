use Rattle.bg_ext.proofs.Words.{get_or, indexed_pixel, palette_colour, ℕ, ◌<◌, ◌≡◌}
use Rattle.bg_ext.proofs.lines.straight_bytes.Given as goal

abbrev pub invariant-loop-x : goal.invariant-loop-x
invariant-loop-x l = (j : ℕ) → j < l.x → get_or l.into j 0 ≡ indexed_pixel (palette_colour l.palette) (get_or l.part j 0)
