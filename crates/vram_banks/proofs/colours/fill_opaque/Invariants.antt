use Rattle.vram_banks.proofs.Words.{get_or, opaque_pixel, palette_colour, ℕ, ◌*◌, ◌+◌, ◌<◌, ◌≡◌}
use Rattle.vram_banks.proofs.colours.fill_opaque.Given as goal

abbrev pub invariant-loop-k : goal.invariant-loop-k
invariant-loop-k l = (m i : ℕ) → m < l.k → i < 8 → get_or l.into (8 * m + i) 0 ≡ opaque_pixel (palette_colour l.palette (8 * m + i))
