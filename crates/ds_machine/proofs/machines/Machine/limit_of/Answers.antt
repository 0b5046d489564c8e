use Rattle.ds_machine.proofs.Words.{HasLimit, MachineState, arith, subst}
use Rattle.ds_machine.proofs.EndTicks.{limit_so}
use Rattle.ds_machine.proofs.machines.Machine.limit_of.Goals as goal

pub returns : goal.returns
returns c =
    let some = c.if-next_event-eq0.false in
    let none = c.if-least-ne0.false in
    let kept = c.least.ensures in
    subst (λ (m : MachineState). HasLimit c.args.until.0 m c.args.proc c.limit_by.result) c.self.view_is
    (limit_so c.self.inside.next_event c.self.inside.parts c.args.proc c.args.until.0 c.limit_by.result c.self.invariant.0 (omega (arith, some)) c.requires
    (omega (arith, none, kept)) c.limit_by.ensures)
