use Rattle.std.proofs.Common.{sym, subst, arith}
use Rattle.ds_machine.specs.CountingLaws.{IsRunning, last_limit}
use Rattle.machine_tests.proofs.tests.told.Tested.new.Goals as goal

pub invariant_of-result : goal.invariant_of-result
invariant_of-result c = λ going.
    c.running_laws.ensures.rise 0 last_limit c.insert.new.self (omega arith)
    (subst (IsRunning 0) (sym c.insert.ensures) c.in_ok-machine.ensures.running)
