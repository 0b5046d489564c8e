use Rattle.ds_machine.proofs.Ranks.{geometry_ranked}
use Rattle.ds_machine.proofs.catching_up.geometry_rank.Goals as goal

pub returns : goal.returns
returns c = geometry_ranked _ c.rank.ensures.within c.rank.ensures.rank
