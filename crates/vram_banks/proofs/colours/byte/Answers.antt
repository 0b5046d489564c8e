use Rattle.vram_banks.proofs.Words.{ap, arith, vram_byte, ◌∙◌}
use Rattle.vram_banks.proofs.colours.byte.Goals as goal

pub returns : goal.returns
returns c = c.read_in_line.ensures.value ∙ ap (vram_byte c.args.vram.now c.args.space) (omega arith)
