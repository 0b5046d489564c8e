use Rattle.std.proofs.lemmas.Simd.{zip2_splat}
use Rattle.vram_banks.proofs.colours.eight_low.Goals as goal

pub returns : goal.returns
returns c = zip2_splat _ c.args.colours 8 0x7FFF c.requires
