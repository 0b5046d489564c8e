use Rattle.vram_banks.proofs.PageLemmas.{windows-blank, controls-blank}
use Rattle.vram_banks.proofs.maps.BankMap.new.Goals as goal

pub invariant_of-result : goal.invariant_of-result
invariant_of-result c = (c.fill.ensures.long, rw c.nowhere-windows.ensures windows-blank, c.fill.ensures.done, controls-blank)
