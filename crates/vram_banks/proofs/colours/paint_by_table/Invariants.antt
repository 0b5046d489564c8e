use Rattle.vram_banks.proofs.Words.{flipped, get_or, ℕ, ◌<◌, ◌≡◌}
use Rattle.vram_banks.proofs.colours.paint_by_table.Given as goal

abbrev pub invariant-loop-i : goal.invariant-loop-i
invariant-loop-i l = (j : ℕ) → j < l.i → get_or l.into j 0 ≡ get_or l.pixels (get_or l.indices (flipped l.flip j) 0) 0
