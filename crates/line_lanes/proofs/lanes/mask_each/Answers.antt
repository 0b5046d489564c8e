use Rattle.std.proofs.lemmas.Simd.{zip2_splat}
use Rattle.line_lanes.proofs.lanes.mask_each.Goals as goal

pub returns : goal.returns
returns c = zip2_splat _ c.args.lanes 8 c.args.mask c.requires
