use Rattle.arm7_exec.specs.Arm7.{arm7}
use Rattle.arm_exec.proofs.Kept.{step_keeps}
use Rattle.arm_exec.proofs.StatusSteps.{step_has}
use Rattle.arm7_exec.proofs.steps.step7.Goals as goal

pub returns-clause-left : goal.returns-clause-left
returns-clause-left g c =
    rw (c.step.ensures.stepped, c.step.ensures.registers)
    (step_keeps g.B.Bus.memory arm7 c.args.core.now.registers c.args.line (g.B.Bus.state c.args.bus.now))

pub returns-clause-statuses : goal.returns-clause-statuses
returns-clause-statuses g c =
    rw c.step.ensures.registers
    (λ h. step_has g.B.Bus.memory arm7 c.args.core.now.registers h c.args.line (g.B.Bus.state c.args.bus.now))
