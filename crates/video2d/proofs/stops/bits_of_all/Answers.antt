use Rattle.video2d.proofs.StopLemmas.{bits_more}
use Rattle.video2d.proofs.stops.bits_of_all.Goals as goal

pub loop-n-preserved : goal.loop-n-preserved
loop-n-preserved c = bits_more c.args.oam.now c.loop-n.n c.loop-n.all c.entry_at-all.result c.loop-n.invariant c.entry_at-all.ensures
