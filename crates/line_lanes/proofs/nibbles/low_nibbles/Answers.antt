use Rattle.std.proofs.Common.{◌∙◌}
use Rattle.std.proofs.lemmas.Simd.{zip2_splat}
use Rattle.line_lanes.proofs.NibbleLemmas.{map-low_nibble}
use Rattle.line_lanes.proofs.nibbles.low_nibbles.Goals as goal

pub returns : goal.returns
returns c = zip2_splat _ c.args.bytes 16 15 c.requires ∙ map-low_nibble c.args.bytes
