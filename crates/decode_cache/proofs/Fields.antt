use Rattle.std.proofs.Common.{ℕ, ◌≡◌, ◌<◌, ◌%◌, ◌^◌, arith}
use Rattle.ds_base.specs.declared.processors.Arch.{Arch}
use Rattle.arm_words.specs.ArmTable.{decoded_arm}
use Rattle.arm_words.specs.ThumbTable.{decoded_thumb}
use Rattle.arm_ops.specs.Operations.{operation_of, HasOperation}
use Rattle.arm_ops.proofs.Fields.{operation_fields}
use Rattle.arm_words.proofs.Laws.{decoded_arm_fields, decoded_thumb_fields}

pub half_itself : (half : ℕ) → half < 2 ^ 16 → half % 2 ^ 16 ≡ half
half_itself half below = omega (arith, below)

-- the fields of what is decoded are in their ranges, by the tables

pub word_operation : (arch : Arch) (word : ℕ) → word < 2 ^ 32 → HasOperation (operation_of (decoded_arm arch word))
word_operation arch word below = operation_fields (decoded_arm arch word) (decoded_arm_fields arch word below)

pub half_operation : (arch : Arch) (half : ℕ) → half < 2 ^ 16 → HasOperation (operation_of (decoded_thumb arch half))
half_operation arch half below = operation_fields (decoded_thumb arch half) (decoded_thumb_fields arch half below)
