use Rattle.std.proofs.lemmas.Simd.{zip2_splat}
use Rattle.vram_banks.proofs.colours.eight_raised.Goals as goal

pub returns : goal.returns
returns c = zip2_splat _ c.args.numbers 8 0x8000 c.requires
