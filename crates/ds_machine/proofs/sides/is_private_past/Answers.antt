use Rattle.ds_machine.proofs.Words.{arith, sym}
use Rattle.ds_machine.proofs.PlacesByWords.{shown_private}
use Rattle.ds_machine.proofs.sides.is_private_past.Goals as goal

pub returns-in-5 : goal.returns-in-5
returns-in-5 c = λ controls. sym (shown_private controls c.args.wramcnt c.args.at (omega arith) (omega arith))
