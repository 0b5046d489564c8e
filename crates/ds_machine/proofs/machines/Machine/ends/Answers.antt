use Rattle.ds_machine.proofs.Words.{Ends, HasEnds, MachineState, subst}
use Rattle.ds_machine.proofs.EndTicks.{ends_kept}
use Rattle.ds_machine.proofs.machines.Machine.ends.Goals as goal

pub returns : goal.returns
returns c =
    let ends : Ends = record { end = c.min.result; nine = c.waits_until.result; seven = c.waits_until-2.result } in
    subst (λ (m : MachineState). HasEnds c.args.until.0 m ends) c.self.view_is
    (ends_kept c.self.inside.next_event c.self.inside.parts c.args.until.0 ends c.self.invariant.0 c.min.ensures c.waits_until.ensures c.waits_until-2.ensures)
