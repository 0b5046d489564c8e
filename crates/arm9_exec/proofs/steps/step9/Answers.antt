use Rattle.arm9_exec.proofs.Kept.{step_ends}
use Rattle.arm9_exec.proofs.Statuses.{step9_has}
use Rattle.arm9_exec.proofs.steps.step9.Goals as goal

pub returns-clause-left : goal.returns-clause-left
returns-clause-left g c =
    rw (c.step.ensures.stepped, c.step.ensures.registers, c.step.ensures.cp)
    (step_ends g.B.Bus.memory c.args.core.now.registers c.args.cp.now c.args.line (g.B.Bus.state c.args.bus.now)).0

pub returns-clause-halted : goal.returns-clause-halted
returns-clause-halted g c =
    rw c.step.ensures.stepped
    (step_ends g.B.Bus.memory c.args.core.now.registers c.args.cp.now c.args.line (g.B.Bus.state c.args.bus.now)).1

pub returns-clause-statuses : goal.returns-clause-statuses
returns-clause-statuses g c =
    rw (c.step.ensures.registers, c.step.ensures.cp)
    (λ h. step9_has c.args.core.now.registers c.args.cp.now h g.B.Bus.memory c.args.line (g.B.Bus.state c.args.bus.now))
