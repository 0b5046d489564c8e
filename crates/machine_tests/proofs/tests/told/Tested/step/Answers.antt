use Rattle.std.proofs.Common.{inl, arith}
use Rattle.machine_tests.proofs.tests.told.Tested.step.Goals as goal

pub step_inserted-requires-clause-running : goal.step_inserted-requires-clause-running
step_inserted-requires-clause-running c = c.self.invariant c.if-self.false

pub step_inserted-requires-clause-may : goal.step_inserted-requires-clause-may
step_inserted-requires-clause-may c =
    let low = c.if-due-gt1048576.false in
    record { tick = c.due-due.result.tick; due = c.due-due.ensures.there; early = omega (arith, low); may = inl c.due-due.ensures }

pub invariant_of-self : goal.invariant_of-self
invariant_of-self c = λ going. c.in-Made.ensures.running

pub invariant_of-self-in-Frame : goal.invariant_of-self-in-Frame
invariant_of-self-in-Frame c = λ going. c.in-Frame.ensures.running
