use Rattle.run_ahead.proofs.Words.{arith, ◌^◌}
use Rattle.run_ahead.proofs.StepTurns.{first_acts}
use Rattle.run_ahead.proofs.machine_turns.first_processor.Goals as goal

pub returns-in-Some : goal.returns-in-Some
returns-in-Some c =
    let s = c.args.machine.now in
    let is = c.in-Some.ensures.known (2 ^ 56) s (omega arith) c.ends.ensures in
    rw c.tick_of.ensures (rw c.rank_of.ensures (first_acts (2 ^ 56) s c.in-Some.first.proc is.least))
