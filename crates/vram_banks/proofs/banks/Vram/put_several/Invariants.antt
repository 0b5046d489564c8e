use Rattle.vram_banks.proofs.Words.{cell_of, put_below, ◌≡◌}
use Rattle.vram_banks.proofs.banks.Vram.put_several.Given as goal

abbrev pub invariant-loop-bank : goal.invariant-loop-bank
invariant-loop-bank l = l.self ≡ record l.initial.self { bytes = put_below l.bank (λ b. cell_of l.initial.self.controls b l.x) l.value l.initial.self.bytes }
