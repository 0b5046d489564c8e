use Rattle.ds_card.proofs.Begins.{begins}
use Rattle.ds_card.proofs.InOrder.{in_order}
use Rattle.ds_card.proofs.orders.transfer_laws.Goals as goal

pub returns-clause-order : goal.returns-clause-order
returns-clause-order c = in_order

pub returns-clause-begins : goal.returns-clause-begins
returns-clause-begins c = begins
