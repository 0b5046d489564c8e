use Rattle.ds_machine.proofs.Words.{arith}
use Rattle.ds_machine.proofs.FenceFirsts.{ahead_where, below_where}
use Rattle.ds_machine.proofs.parts.Parts.is_ahead.Goals as goal

pub returns-then-is_below_known : goal.returns-then-is_below_known
returns-then-is_below_known c =
    let below = c.is_below_known.ensures.0 c.if-is_below_known.true in (
      λ h. ahead_where c.args.self.now c.args.proc c.args.tick below c.requires.due (c.is_step_private.ensures.0 h),
      λ k. c.is_step_private.ensures.1 k.private,
    )

pub returns-else-is_below_known : goal.returns-else-is_below_known
returns-else-is_below_known c =
    let no = c.if-is_below_known.false in (
      λ h. absurd (grind (arith, no, h)),
      λ k.
          (let yes = c.is_below_known.ensures.1 (below_where c.args.self.now c.args.proc c.args.tick c.requires.due k) in
          absurd (grind (arith, no, yes))),
    )
