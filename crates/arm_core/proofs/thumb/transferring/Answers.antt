use Rattle.std.proofs.Common.{sym, ◌∙◌}
use Rattle.arm_core.proofs.ThumbKinds.{transfer_else}
use Rattle.arm_core.proofs.thumb.transferring.Goals as goal

pub returns-in_default : goal.returns-in_default
returns-in_default c =
    let n = c.in_default in
    record {
      instr = c.branching.ensures.instr ∙ sym (transfer_else c.args.instr.now n.not-ThumbRegisterOffset n.not-ThumbImmediateOffset n.not-ThumbHalfOffset
          n.not-ThumbStackOffset n.not-ThumbPushPop n.not-ThumbMultiple);
      fields = c.branching.ensures.fields;
    }
