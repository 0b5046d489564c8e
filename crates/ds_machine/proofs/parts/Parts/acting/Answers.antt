use Rattle.ds_machine.proofs.Words.{refl}
use Rattle.ds_machine.proofs.ActingDues.{first_acting_found}
use Rattle.ds_machine.proofs.parts.Parts.acting.Goals as goal

pub returns : goal.returns
returns c = first_acting_found c.args.self.now c.earlier_than.result (rw (c.earlier_than.ensures, c.acting_event.ensures, c.first_processor.ensures) refl)
