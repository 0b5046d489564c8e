use Rattle.nds_plays.proofs.LinesOnce.{lines_are_one}
use Rattle.nds_plays.proofs.laws.trace_laws.Goals as goal

pub returns : goal.returns
returns c = lines_are_one
