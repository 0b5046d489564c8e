use Rattle.arm_core.specs.Meanings.{meaning}
use Rattle.arm_core.proofs.Footprints.{covers_over, nothing_over, order_over}
use Rattle.arm_core.proofs.touches.reach_of.Goals as goal

pub returns-clause-covers : goal.returns-clause-covers
returns-clause-covers c = λ base.
    covers_over c.touched.result.touch (meaning c.args.core.now.arch base c.args.core.now.registers c.args.instr.now).accesses (c.touched.ensures.over base)

pub returns-clause-order : goal.returns-clause-order
returns-clause-order c = λ base is_there.
    order_over c.touched.result.touch (meaning c.args.core.now.arch base c.args.core.now.registers c.args.instr.now).accesses is_there (c.touched.ensures.over base)

pub returns-clause-nothing : goal.returns-clause-nothing
returns-clause-nothing c = λ base.
    nothing_over c.touched.result.touch (meaning c.args.core.now.arch base c.args.core.now.registers c.args.instr.now).accesses
    c.touched.ensures.some (c.touched.ensures.over base)
