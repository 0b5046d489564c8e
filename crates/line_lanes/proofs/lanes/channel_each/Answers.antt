use Rattle.line_lanes.proofs.LaneLemmas.{map-channel}
use Rattle.line_lanes.proofs.lanes.channel_each.Goals as goal

pub returns : goal.returns
returns c = rw (c.mask_each.ensures, c.shift_each.ensures) (map-channel c.args.from c.args.pixels)
