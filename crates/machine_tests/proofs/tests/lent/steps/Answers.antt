use Rattle.std.proofs.Common.{inl, arith}
use Rattle.ds_machine.specs.CountingLaws.{last_limit}
use Rattle.ds_machine.specs.States.{with_file}
use Rattle.machine_tests.proofs.tests.lent.steps.Goals as goal

pub step-requires-clause-running : goal.step-requires-clause-running
step-requires-clause-running c =
    c.running_laws.ensures.rise 0 last_limit (with_file c.args.cart.now c.in_ok-machine.machine) (omega arith) c.in_ok-machine.ensures.running

pub step-requires-clause-may : goal.step-requires-clause-may
step-requires-clause-may c =
    let low = c.if-due-gt1048576.false in
    record { tick = c.due-due.result.tick; due = c.due-due.ensures.there; early = omega (arith, low); may = inl c.due-due.ensures }
