use Rattle.obj2d.proofs.Words.{get_or-replicate}
use Rattle.obj2d.proofs.layers.no_spans.Goals as goal

pub returns : goal.returns
returns c = λ priority small. get_or-replicate 4 priority 0 0 small
