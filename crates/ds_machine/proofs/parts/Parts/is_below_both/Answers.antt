use Rattle.ds_machine.proofs.Words.{arith}
use Rattle.ds_machine.proofs.EndTicks.{below_end}
use Rattle.ds_machine.proofs.parts.Parts.is_below_both.Goals as goal

pub returns-then-tick-end-clause-yes : goal.returns-then-tick-end-clause-yes
returns-then-tick-end-clause-yes c =
    let below = c.if-tick-end.true in
    λ yes. below_end c.args.until.0 c.args.end c.args.self.now c.args.proc c.args.tick (c.requires (omega (arith, below))) (omega (arith, below))
