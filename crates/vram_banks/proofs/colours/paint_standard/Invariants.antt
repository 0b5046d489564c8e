use Rattle.vram_banks.proofs.Words.{flipped, get_or, indexed_pixel, palette_colour, ℕ, ◌+◌, ◌<◌, ◌≡◌}
use Rattle.vram_banks.proofs.colours.paint_standard.Given as goal

abbrev pub invariant-loop-i : goal.invariant-loop-i
invariant-loop-i l = (j : ℕ) → j < l.i → get_or l.into j 0 ≡ indexed_pixel (λ c. palette_colour l.palette (l.start + c)) (get_or l.indices (flipped l.flip j) 0)
