use Rattle.std.proofs.Common.{◌∙◌, false, ap}
use Rattle.ds_base.specs.declared.processors.Arch.{Arch}
use Rattle.ds_base.proofs.Choices.{is_unequal}
use Rattle.arm_words.specs.ArmTable.{decoded_arm}
use Rattle.decode_cache.specs.Known.{known}
use Rattle.decode_cache.proofs.caches.decoded.Goals as goal

pub returns-else-this-eq16 : goal.returns-else-this-eq16
unfolding known
returns-else-this-eq16 g c = record {
  instr = rw (is_unequal g.row.BITS 16 c.if-this-eq16.false) (c.decode_arm.ensures.row ∙ ap (λ (arch : Arch). decoded_arm arch c.args.number) c.arch_of-arch.ensures);
  fields = c.decode_arm.ensures.fields;
}
