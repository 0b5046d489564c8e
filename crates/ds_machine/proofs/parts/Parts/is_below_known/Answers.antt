use Rattle.ds_machine.proofs.Words.{arith}
use Rattle.ds_machine.proofs.EndTicks.{below_kept}
use Rattle.ds_machine.proofs.parts.Parts.is_below_known.Goals as goal

pub returns-then-tick-next_event : goal.returns-then-tick-next_event
returns-then-tick-next_event c =
    let below = c.if-tick-next_event.true in
    (λ h. below_kept c.args.next_event c.args.self.now c.args.proc c.args.tick c.requires (omega (arith, below)), λ k. grind (arith, below))
