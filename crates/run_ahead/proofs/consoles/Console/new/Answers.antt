use Rattle.run_ahead.proofs.Words.{IsRunning, IsWithinTick, arith, counts_add_up, refl, subst, sym, with_file}
use Rattle.run_ahead.proofs.consoles.Console.new.Goals as goal

pub invariant_of-result : goal.invariant_of-result
invariant_of-result c =
    let running = subst (IsRunning 0) (sym c.insert.ensures) c.in_ok-machine.ensures.running in
    (counts_add_up 0 c.insert.new.self running, omega arith, refl, λ none. running, omega arith)

pub returns-clause-within : goal.returns-clause-within
returns-clause-within c =
    let booted = c.in_ok-machine.ensures in
    subst (IsWithinTick 0) (sym c.insert.ensures)
    (c.time_laws.ensures.boot (with_file c.args.cart c.in_ok-machine.machine) c.args.keys booted.booted booted.units)

pub returns-clause-parts : goal.returns-clause-parts
returns-clause-parts c = (subst (IsRunning 0) (sym c.insert.ensures) c.in_ok-machine.ensures.running).sound.parts
