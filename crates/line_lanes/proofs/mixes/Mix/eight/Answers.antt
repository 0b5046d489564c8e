use Rattle.line_lanes.proofs.LaneLemmas.{joined-mixed}
use Rattle.line_lanes.proofs.mixes.Mix.eight.Goals as goal

pub returns : goal.returns
returns c =
    rw (c.joined.ensures, c.channel_of_eight-red.ensures, c.channel_of_eight-green.ensures, c.channel_of_eight-blue.ensures)
    (joined-mixed c.args.self.eva c.args.self.evb c.args.self.rounding c.args.top c.args.second)
