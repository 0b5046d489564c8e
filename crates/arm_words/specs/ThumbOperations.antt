use Rattle.std.specs.Prelude.{ℕ, [], ◌∷◌, slice_index_or}
use Rattle.arm_words.specs.declared.operations.ThumbDataOp.{ThumbDataOp}
use Rattle.arm_words.specs.declared.operations.ThumbDataOp.TheVariants.{And, Eor, Lsl, Lsr, Asr, Adc, Sbc, Ror, Tst, Neg, Cmp, Cmn, Orr, Mul, Bic, Mvn}
use Rattle.arm_words.specs.declared.operations.ThumbTransferOp.{ThumbTransferOp}
use Rattle.arm_words.specs.declared.operations.ThumbTransferOp.TheVariants.{Str, Strh, Strb, Ldrsb, Ldr, Ldrh, Ldrb, Ldrsh}

-- Thumb's data processing by bits 9 to 6 (ARM manual, "Thumb instruction set encoding")
abbrev pub thumb_data_op_of : ℕ → ThumbDataOp
thumb_data_op_of n = slice_index_or (And ∷ Eor ∷ Lsl ∷ Lsr ∷ Asr ∷ Adc ∷ Sbc ∷ Ror ∷ Tst ∷ Neg ∷ Cmp ∷ Cmn ∷ Orr ∷ Mul ∷ Bic ∷ []) n Mvn

abbrev pub thumb_data_op_number : ThumbDataOp → ℕ
thumb_data_op_number And = 0
thumb_data_op_number Eor = 1
thumb_data_op_number Lsl = 2
thumb_data_op_number Lsr = 3
thumb_data_op_number Asr = 4
thumb_data_op_number Adc = 5
thumb_data_op_number Sbc = 6
thumb_data_op_number Ror = 7
thumb_data_op_number Tst = 8
thumb_data_op_number Neg = 9
thumb_data_op_number Cmp = 10
thumb_data_op_number Cmn = 11
thumb_data_op_number Orr = 12
thumb_data_op_number Mul = 13
thumb_data_op_number Bic = 14
thumb_data_op_number Mvn = 15

-- Thumb's transfers with a register as offset, by bits 11 to 9
abbrev pub thumb_transfer_op_of : ℕ → ThumbTransferOp
thumb_transfer_op_of n = slice_index_or (Str ∷ Strh ∷ Strb ∷ Ldrsb ∷ Ldr ∷ Ldrh ∷ Ldrb ∷ []) n Ldrsh

abbrev pub thumb_transfer_op_number : ThumbTransferOp → ℕ
thumb_transfer_op_number Str = 0
thumb_transfer_op_number Strh = 1
thumb_transfer_op_number Strb = 2
thumb_transfer_op_number Ldrsb = 3
thumb_transfer_op_number Ldr = 4
thumb_transfer_op_number Ldrh = 5
thumb_transfer_op_number Ldrb = 6
thumb_transfer_op_number Ldrsh = 7
