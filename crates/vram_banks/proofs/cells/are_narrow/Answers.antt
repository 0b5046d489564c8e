use Rattle.vram_banks.proofs.Words.{arith}
use Rattle.vram_banks.proofs.cells.are_narrow.Goals as goal

pub returns : goal.returns
returns c = λ i. omega (arith, c.type_inv.bytes i)
