use Rattle.std.proofs.Common.{refl}
use Rattle.arm_ops.specs.Operations.{compare_op, data_op, mla_op, move_op, mul_op}
use Rattle.arm_ops.proofs.Fields.{found}
use Rattle.arm_ops.proofs.making.op_of.Goals as goal

pub returns-in-Data-clause-fields : goal.returns-in-Data-clause-fields
returns-in-Data-clause-fields c =
    found (λ i. data_op i c.in-Data.op c.in-Data.set_flags c.in-Data.rd c.in-Data.rn c.in-Data.operand) c.data_op.result c.in-Data.is c.data_op.ensures refl c.requires

pub returns-in-Compare-clause-fields : goal.returns-in-Compare-clause-fields
returns-in-Compare-clause-fields c = found (λ i. compare_op i c.in-Compare.op c.in-Compare.rn c.in-Compare.operand) c.compare_op.result c.in-Compare.is c.compare_op.ensures refl c.requires

pub returns-in-Move-clause-fields : goal.returns-in-Move-clause-fields
returns-in-Move-clause-fields c =
    found (λ i. move_op i c.in-Move.op c.in-Move.set_flags c.in-Move.rd c.in-Move.operand) c.move_op.result c.in-Move.is c.move_op.ensures refl c.requires

pub returns-in-Transfer-clause-fields : goal.returns-in-Transfer-clause-fields
returns-in-Transfer-clause-fields c = found (λ i. c.transfer_op.result) c.transfer_op.result c.in-Transfer.is refl c.transfer_op.ensures c.requires

pub returns-in-HalfTransfer-clause-fields : goal.returns-in-HalfTransfer-clause-fields
returns-in-HalfTransfer-clause-fields c = found (λ i. c.short_transfer_op.result) c.short_transfer_op.result c.in-HalfTransfer.is refl c.short_transfer_op.ensures c.requires

pub returns-in-Mul-clause-fields : goal.returns-in-Mul-clause-fields
returns-in-Mul-clause-fields c = found (λ i. mul_op i c.in-Mul.set_flags c.in-Mul.rd c.in-Mul.rm c.in-Mul.rs) c.mul_op.result c.in-Mul.is c.mul_op.ensures refl c.requires

pub returns-in-Mla-clause-fields : goal.returns-in-Mla-clause-fields
returns-in-Mla-clause-fields c =
    found (λ i. mla_op i c.in-Mla.set_flags c.in-Mla.rd c.in-Mla.rm c.in-Mla.rs c.in-Mla.rn) c.mla_op.result c.in-Mla.is c.mla_op.ensures refl c.requires
