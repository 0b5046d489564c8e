use Rattle.std.specs.Prelude.{ℕ, [], ◌∷◌, slice_index_or}
use Rattle.arm_words.specs.declared.operations.DataOp.{DataOp}
use Rattle.arm_words.specs.declared.operations.DataOp.TheVariants.{And, Eor, Sub, Rsb, Add, Adc, Sbc, Rsc, Orr, Bic}
use Rattle.arm_words.specs.declared.operations.CompareOp.{CompareOp}
use Rattle.arm_words.specs.declared.operations.CompareOp.TheVariants.{Tst, Teq, Cmp, Cmn}
use Rattle.arm_words.specs.declared.operations.MoveOp.{MoveOp}
use Rattle.arm_words.specs.declared.operations.MoveOp.TheVariants.{Mov, Mvn}
use Rattle.arm_words.specs.declared.operations.HalfOp.{HalfOp}
use Rattle.arm_words.specs.declared.operations.HalfOp.TheVariants.{Strh, Ldrh, Ldrsb, Ldrsh}

-- data processing by the number of bits 24 to 21 (ARM manual, "Data-processing instructions"); the other numbers have rows of
-- their own
abbrev pub data_op_of : ℕ → DataOp
data_op_of n = slice_index_or (And ∷ Eor ∷ Sub ∷ Rsb ∷ Add ∷ Adc ∷ Sbc ∷ Rsc ∷ Orr ∷ Orr ∷ Orr ∷ Orr ∷ Orr ∷ []) n Bic

abbrev pub data_op_number : DataOp → ℕ
data_op_number And = 0
data_op_number Eor = 1
data_op_number Sub = 2
data_op_number Rsb = 3
data_op_number Add = 4
data_op_number Adc = 5
data_op_number Sbc = 6
data_op_number Rsc = 7
data_op_number Orr = 12
data_op_number Bic = 14

-- operations 8 to 11, by bits 22 and 21
abbrev pub compare_op_of : ℕ → CompareOp
compare_op_of n = slice_index_or (Tst ∷ Teq ∷ Cmp ∷ []) n Cmn

abbrev pub compare_op_number : CompareOp → ℕ
compare_op_number Tst = 0
compare_op_number Teq = 1
compare_op_number Cmp = 2
compare_op_number Cmn = 3

-- operations 13 and 15, by bit 22
abbrev pub move_op_of : ℕ → MoveOp
move_op_of n = slice_index_or (Mov ∷ []) n Mvn

abbrev pub move_op_number : MoveOp → ℕ
move_op_number Mov = 0
move_op_number Mvn = 1

-- transfers by L (bit 20), S and H (bits 6 and 5) as one number
abbrev pub half_op_of : ℕ → HalfOp
half_op_of n = slice_index_or (Strh ∷ Strh ∷ Strh ∷ Strh ∷ Strh ∷ Ldrh ∷ Ldrsb ∷ []) n Ldrsh

-- L, S and H at their places
abbrev pub half_op_bits : HalfOp → ℕ
half_op_bits Strh = 0x00000020
half_op_bits Ldrh = 0x00100020
half_op_bits Ldrsb = 0x00100040
half_op_bits Ldrsh = 0x00100060
