use Rattle.std.proofs.Common.{ap, ◌∙◌, List, Bool}
use Rattle.std.proofs.Math.Dec.{ltb}
use Rattle.std.specs.Prelude.{replicate}
use Rattle.std.specs.Int.{w16}
use Rattle.std.specs.Simd.Lanes.{sel_l}
use Rattle.std.proofs.lemmas.Simd.{tops_compared}
use Rattle.line_lanes.proofs.LaneLemmas.{sel_l-lesser}
use Rattle.line_lanes.proofs.lanes.cap_each.Goals as goal

pub returns : goal.returns
returns c =
    ap (λ (ms : List Bool). sel_l ms c.args.lanes (replicate 8 c.args.most)) (tops_compared w16 ltb c.args.lanes (replicate 8 c.args.most))
    ∙ sel_l-lesser c.args.lanes 8 c.args.most c.requires
