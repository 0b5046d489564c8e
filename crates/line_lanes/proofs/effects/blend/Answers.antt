use Rattle.line_lanes.proofs.ClearLemmas.{row_clear}
use Rattle.line_lanes.proofs.effects.blend.Goals as goal

pub returns-clause-clear : goal.returns-clause-clear
returns-clause-clear c = row_clear _ _ _ c.args.top.now _ _ c.row.ensures
