use Rattle.std.proofs.Common.{◌∙◌}
use Rattle.line_lanes.proofs.ClearLemmas.{row_clear}
use Rattle.line_lanes.proofs.EffectLemmas.{zip2-white}
use Rattle.line_lanes.proofs.effects.brighten.Goals as goal

pub returns-clause-row : goal.returns-clause-row
returns-clause-row c = let mixed = rw c.held_factor-evb.ensures at c.row.ensures in mixed ∙ zip2-white c.args.evy c.args.row.now

pub returns-clause-clear : goal.returns-clause-clear
returns-clause-clear c = row_clear _ _ _ c.args.row.now _ _ c.row.ensures
