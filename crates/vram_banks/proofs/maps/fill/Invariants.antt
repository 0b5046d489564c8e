use Rattle.vram_banks.proofs.Words.{ArePages, length, ◌≡◌}
use Rattle.vram_banks.proofs.maps.fill.Given as goal

abbrev pub invariant-loop-k : goal.invariant-loop-k
invariant-loop-k l = record { long : length l.pages ≡ 298; done : ArePages l.windows l.pages l.k }
