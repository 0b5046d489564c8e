use Rattle.std.proofs.lemmas.Simd.{zip2_splat}
use Rattle.line_lanes.proofs.nibbles.high_nibbles.Goals as goal

pub returns : goal.returns
returns c = zip2_splat _ c.args.bytes 16 4 c.requires
