use Rattle.ds_machine.proofs.Ranks.{processor_ranked}
use Rattle.ds_machine.proofs.fences.rank_of.Goals as goal

pub returns : goal.returns
returns c = processor_ranked c.args.proc _ c.rank.ensures.within c.rank.ensures.rank
