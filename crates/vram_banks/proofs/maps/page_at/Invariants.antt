use Rattle.vram_banks.proofs.Words.{IsPageBelow, cell_among}
use Rattle.vram_banks.proofs.maps.page_at.Given as goal

abbrev pub invariant-loop-bank : goal.invariant-loop-bank
invariant-loop-bank l = IsPageBelow (cell_among l.windows l.x) l.bank l.page
