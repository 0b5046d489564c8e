use Rattle.line_lanes.proofs.LaneLemmas.{zip2-joined}
use Rattle.line_lanes.proofs.lanes.joined.Goals as goal

pub returns : goal.returns
returns c =
    rw (c.add_each.ensures, c.add_each-low.ensures, c.add_each-high.ensures, c.scale_each.ensures, c.scale_each-2.ensures, c.scale_each-3.ensures, c.shift_each.ensures)
    (zip2-joined c.args.red c.args.green c.args.blue c.args.old)
