use Rattle.vram_banks.proofs.Words.{get_or, or_at, ℕ, ◌+◌, ◌<◌, ◌≡◌}
use Rattle.vram_banks.proofs.banks.Vram.part_of_several.Given as goal

abbrev pub invariant-loop-i : goal.invariant-loop-i
invariant-loop-i l = (k : ℕ) → k < l.i → get_or l.into k 0 ≡ or_at l.self.controls l.self.bytes (l.x + k)
