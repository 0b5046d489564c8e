use Rattle.vram_banks.proofs.Words.{byte_or_0, cell_of, or_below, ◌≡◌}
use Rattle.vram_banks.proofs.banks.Vram.byte_of_several.Given as goal

abbrev pub invariant-loop-bank : goal.invariant-loop-bank
invariant-loop-bank l = l.all ≡ or_below l.bank (λ b. byte_or_0 l.self.bytes (cell_of l.self.controls b l.x))
