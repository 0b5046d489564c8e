use Rattle.std.proofs.Common.{sym, ◌∙◌}
use Rattle.arm_core.proofs.ThumbKinds.{processing_else}
use Rattle.arm_core.proofs.thumb.equivalent.Goals as goal

pub returns-in_default : goal.returns-in_default
returns-in_default c =
    let n = c.in_default in
    record {
      instr = c.transferring.ensures.instr ∙ sym (processing_else c.args.instr.now n.not-ThumbAddSub n.not-ThumbShift n.not-ThumbImmediate n.not-ThumbData
          n.not-ThumbHigh n.not-ThumbAddress n.not-ThumbAdjustStack);
      fields = c.transferring.ensures.fields;
    }
