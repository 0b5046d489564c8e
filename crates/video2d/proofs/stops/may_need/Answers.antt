use Rattle.video2d.proofs.StopLemmas.{none_needs}
use Rattle.video2d.proofs.stops.may_need.Goals as goal

pub returns : goal.returns
returns c = λ none. none_needs c.args.oam.now c.bits_of_all-all.result c.bits_of_all-all.ensures none
