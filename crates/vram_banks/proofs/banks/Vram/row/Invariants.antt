use Rattle.vram_banks.proofs.Words.{get_or, length, or_at, origin_of, space_size, ℕ, ◌%◌, ◌+◌, ◌-◌, ◌<◌, ◌≡◌, ◌≤◌}
use Rattle.vram_banks.proofs.banks.Vram.row.Given as goal

abbrev pub invariant-loop-done : goal.invariant-loop-done
invariant-loop-done l = record {
  within : l.done ≤ length l.into;
  so_far : (k : ℕ) → k < l.done → get_or l.into k 0 ≡ or_at l.self.controls l.self.bytes (origin_of l.space + (l.at + k) % space_size l.space);
}

abbrev pub decreases-loop-done : goal.decreases-loop-done
decreases-loop-done l = length l.into - l.done
