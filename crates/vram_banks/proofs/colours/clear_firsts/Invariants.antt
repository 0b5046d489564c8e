use Rattle.vram_banks.proofs.Words.{get_or, if◌then◌else◌, nat_lt, ℕ, ◌%◌, ◌&&◌, ◌*◌, ◌<◌, ◌==◌, ◌≡◌}
use Rattle.vram_banks.proofs.colours.clear_firsts.Given as goal

abbrev pub invariant-loop-k : goal.invariant-loop-k
invariant-loop-k l = (i : ℕ) → i < 256 → get_or l.into i 0 ≡ (if (i % 16 == 0) && nat_lt i (16 * l.k) then 0 else get_or l.fn.into i 0)
