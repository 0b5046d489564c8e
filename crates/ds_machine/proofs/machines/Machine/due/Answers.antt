use Rattle.ds_machine.proofs.Words.{IsDue, MachineState, first_found, refl, subst}
use Rattle.ds_machine.proofs.machines.Machine.due.Goals as goal

pub returns : goal.returns
returns c =
    subst (λ (s : MachineState). IsDue s c.earlier_than.result) c.self.view_is
    (first_found c.self.inside.parts c.earlier_than.result (rw (
      c.earlier_than.ensures,
      c.first_event.ensures,
      c.first_processor.ensures,
    ) refl))
