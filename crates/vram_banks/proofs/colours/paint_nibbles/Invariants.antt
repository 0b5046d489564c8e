use Rattle.vram_banks.proofs.Words.{get_or, ℕ, ◌%◌, ◌*◌, ◌-◌, ◌/◌, ◌<◌, ◌^◌, ◌≡◌}
use Rattle.vram_banks.proofs.colours.paint_nibbles.Given as goal

abbrev pub invariant-loop-i : goal.invariant-loop-i
invariant-loop-i l = (k : ℕ) → k < l.i → get_or l.into k 0 ≡ get_or l.pixels (l.word / 2 ^ (4 * (7 - k)) % 16) 0

abbrev pub invariant-loop-j : goal.invariant-loop-j
invariant-loop-j l = (k : ℕ) → k < l.j → get_or l.into k 0 ≡ get_or l.pixels (l.word / 2 ^ (4 * k) % 16) 0
