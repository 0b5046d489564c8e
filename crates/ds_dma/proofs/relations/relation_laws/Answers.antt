use Rattle.ds_dma.proofs.Plans.{takes}
use Rattle.ds_dma.proofs.ByCases.{changes, finds_least}
use Rattle.ds_dma.proofs.Turns.{due_has_some}
use Rattle.ds_dma.proofs.relations.relation_laws.Goals as goal

pub returns : goal.returns
returns c = record {
  change = changes;
  takes = takes;
  some = due_has_some;
  least = finds_least;
}
