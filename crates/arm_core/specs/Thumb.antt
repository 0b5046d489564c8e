use Rattle.std.specs.Prelude.{ℕ, ◌+◌, ◌*◌, Bool, true, false, ◌&&◌, not, if◌then◌else◌}
use Rattle.ds_base.specs.Bits.{bit, flag}
use Rattle.arm_words.specs.declared.parts.Condition.TheVariants.{Al}
use Rattle.arm_words.specs.declared.parts.Shift.TheVariants.{Lsl, Lsr, Asr, Ror}
use Rattle.arm_words.specs.declared.parts.Operand.{Operand}
use Rattle.arm_words.specs.declared.parts.Operand.TheVariants.{Immediate, Shifted, ShiftedByRegister}
use Rattle.arm_words.specs.declared.parts.Offset.{Offset}
use Rattle.arm_words.specs.declared.parts.Offset.TheVariants as offsets
use Rattle.arm_words.specs.declared.parts.ShortOffset.TheVariants as short_offsets
use Rattle.arm_words.specs.declared.parts.ThumbOperand.{ThumbOperand}
use Rattle.arm_words.specs.declared.parts.ThumbOperand.TheVariants.{LowRegister, Small}
use Rattle.arm_words.specs.declared.operations.DataOp.TheVariants as data_ops
use Rattle.arm_words.specs.declared.operations.CompareOp.TheVariants as compare_ops
use Rattle.arm_words.specs.declared.operations.MoveOp.TheVariants as move_ops
use Rattle.arm_words.specs.declared.operations.HalfOp.TheVariants as half_ops
use Rattle.arm_words.specs.declared.operations.ThumbImmediateOp.{ThumbImmediateOp}
use Rattle.arm_words.specs.declared.operations.ThumbImmediateOp.TheVariants as immediate_ops
use Rattle.arm_words.specs.declared.operations.ThumbDataOp.{ThumbDataOp}
use Rattle.arm_words.specs.declared.operations.ThumbDataOp.TheVariants as thumb_ops
use Rattle.arm_words.specs.declared.operations.HighOp.{HighOp}
use Rattle.arm_words.specs.declared.operations.HighOp.TheVariants as high_ops
use Rattle.arm_words.specs.declared.operations.ThumbTransferOp.{ThumbTransferOp}
use Rattle.arm_words.specs.declared.operations.ThumbTransferOp.TheVariants as transfer_ops
use Rattle.arm_words.specs.declared.instructions.Instr.{Instr}
use Rattle.arm_words.specs.declared.instructions.Instr.TheVariants.{Bx, BlxRegister, Bkpt, Mul, HalfTransfer, Compare, Move, Data, Transfer, Multiple, Swi, ThumbAddSub, ThumbShift, ThumbImmediate, ThumbData, ThumbBx, ThumbBlxRegister, ThumbHigh, ThumbRegisterOffset, ThumbImmediateOffset, ThumbHalfOffset, ThumbStackOffset, ThumbAddress, ThumbAdjustStack, ThumbPushPop, ThumbBkpt, ThumbMultiple, ThumbSwi}

-- Thumb instructions as ARM instructions (ARM manual, A7.1, under each name: "Equivalent ARM syntax and encoding").

-- a register as it is
abbrev pub plain_register : ℕ → Operand
plain_register rm = Shifted rm Lsl 0

abbrev pub plain_offset : ℕ → Offset
plain_offset rm = offsets.Register rm Lsl 0

-- a number of words below 256, as bytes
abbrev pub words_immediate : ℕ → Operand
words_immediate immed = Immediate 15 immed

-- "ADD (1)", "ADD (3)", "SUB (1)", "SUB (3)"
abbrev pub low_operand : ThumbOperand → Operand
low_operand (LowRegister rm) = plain_register rm
low_operand (Small immed) = Immediate 0 immed

-- "MOV (1)", "CMP (1)", "ADD (2)", "SUB (2)"
abbrev pub immediate_instr : ThumbImmediateOp → ℕ → ℕ → Instr
immediate_instr immediate_ops.Mov rd immed = Move Al move_ops.Mov true rd (Immediate 0 immed)
immediate_instr immediate_ops.Cmp rd immed = Compare Al compare_ops.Cmp rd (Immediate 0 immed)
immediate_instr immediate_ops.Add rd immed = Data Al data_ops.Add true rd rd (Immediate 0 immed)
immediate_instr immediate_ops.Sub rd immed = Data Al data_ops.Sub true rd rd (Immediate 0 immed)

-- "AND" to "MVN"
abbrev pub register_instr : ThumbDataOp → ℕ → ℕ → Instr
register_instr thumb_ops.And rm rd = Data Al data_ops.And true rd rd (plain_register rm)
register_instr thumb_ops.Eor rm rd = Data Al data_ops.Eor true rd rd (plain_register rm)
register_instr thumb_ops.Lsl rm rd = Move Al move_ops.Mov true rd (ShiftedByRegister rd Lsl rm)
register_instr thumb_ops.Lsr rm rd = Move Al move_ops.Mov true rd (ShiftedByRegister rd Lsr rm)
register_instr thumb_ops.Asr rm rd = Move Al move_ops.Mov true rd (ShiftedByRegister rd Asr rm)
register_instr thumb_ops.Adc rm rd = Data Al data_ops.Adc true rd rd (plain_register rm)
register_instr thumb_ops.Sbc rm rd = Data Al data_ops.Sbc true rd rd (plain_register rm)
register_instr thumb_ops.Ror rm rd = Move Al move_ops.Mov true rd (ShiftedByRegister rd Ror rm)
register_instr thumb_ops.Tst rm rd = Compare Al compare_ops.Tst rd (plain_register rm)
register_instr thumb_ops.Neg rm rd = Data Al data_ops.Rsb true rm rd (Immediate 0 0)
register_instr thumb_ops.Cmp rm rd = Compare Al compare_ops.Cmp rd (plain_register rm)
register_instr thumb_ops.Cmn rm rd = Compare Al compare_ops.Cmn rd (plain_register rm)
register_instr thumb_ops.Orr rm rd = Data Al data_ops.Orr true rd rd (plain_register rm)
register_instr thumb_ops.Mul rm rd = Mul Al true rd rm rd
register_instr thumb_ops.Bic rm rd = Data Al data_ops.Bic true rd rd (plain_register rm)
register_instr thumb_ops.Mvn rm rd = Move Al move_ops.Mvn true rd (plain_register rm)

-- "ADD (4)", "CMP (3)", "MOV (3)"
abbrev pub high_instr : HighOp → ℕ → ℕ → Instr
high_instr high_ops.Add rm rd = Data Al data_ops.Add false rd rd (plain_register rm)
high_instr high_ops.Cmp rm rd = Compare Al compare_ops.Cmp rd (plain_register rm)
high_instr high_ops.Mov rm rd = Move Al move_ops.Mov false rd (plain_register rm)

-- a transfer of a word or byte (B), or of a half or a signed byte, at a base with an offset
abbrev pub word_at : Bool → Bool → ℕ → ℕ → Offset → Instr
word_at byte load rn rd offset = Transfer Al true true byte false load rn rd offset

-- "STR (2)", "STRH (2)", "STRB (2)", "LDRSB", "LDR (2)", "LDRH (2)", "LDRB (2)", "LDRSH"
abbrev pub offset_instr : ThumbTransferOp → ℕ → ℕ → ℕ → Instr
offset_instr transfer_ops.Str rm rn rd = word_at false false rn rd (plain_offset rm)
offset_instr transfer_ops.Strh rm rn rd = HalfTransfer Al half_ops.Strh true true false rn rd (short_offsets.ShortRegister rm)
offset_instr transfer_ops.Strb rm rn rd = word_at true false rn rd (plain_offset rm)
offset_instr transfer_ops.Ldrsb rm rn rd = HalfTransfer Al half_ops.Ldrsb true true false rn rd (short_offsets.ShortRegister rm)
offset_instr transfer_ops.Ldr rm rn rd = word_at false true rn rd (plain_offset rm)
offset_instr transfer_ops.Ldrh rm rn rd = HalfTransfer Al half_ops.Ldrh true true false rn rd (short_offsets.ShortRegister rm)
offset_instr transfer_ops.Ldrb rm rn rd = word_at true true rn rd (plain_offset rm)
offset_instr transfer_ops.Ldrsh rm rn rd = HalfTransfer Al half_ops.Ldrsh true true false rn rd (short_offsets.ShortRegister rm)

-- "PUSH", "POP"
abbrev pub stack_instr : Bool → Bool → ℕ → Instr
stack_instr false extra list = Multiple Al true false false true false 13 (list + flag 14 extra)
stack_instr true extra list = Multiple Al false true false true true 13 (list + flag 15 extra)

-- "ADD (6)"; "ADD (5)", of r15, has a meaning of its own
abbrev pub address_instr : Bool → ℕ → ℕ → Instr
address_instr true rd immed = Data Al data_ops.Add false 13 rd (words_immediate immed)
address_instr false rd immed = ThumbAddress false rd immed

-- the ARM instruction of a Thumb branch or exception that has one; any other instruction is its own
abbrev pub branch_equivalent : Instr → Instr
branch_equivalent (ThumbBx rm) = Bx Al rm
branch_equivalent (ThumbBlxRegister rm) = BlxRegister Al rm
branch_equivalent (ThumbBkpt immed) = Bkpt immed
branch_equivalent (ThumbSwi immed) = Swi Al immed
branch_equivalent instr = instr

-- that of a Thumb load or store too
abbrev pub transfer_equivalent : Instr → Instr
transfer_equivalent (ThumbRegisterOffset op rm rn rd) = offset_instr op rm rn rd
transfer_equivalent (ThumbImmediateOffset byte load immed rn rd) = word_at byte load rn rd (offsets.Number (if byte then immed else 4 * immed))
transfer_equivalent (ThumbHalfOffset load immed rn rd) =
    HalfTransfer Al (if load then half_ops.Ldrh else half_ops.Strh) true true false rn rd (short_offsets.ShortNumber (2 * immed))
transfer_equivalent (ThumbStackOffset load rd immed) = word_at false load 13 rd (offsets.Number (4 * immed))
transfer_equivalent (ThumbPushPop load extra list) = stack_instr load extra list
-- LDMIA with its base in the list doesn't write it back
transfer_equivalent (ThumbMultiple load rn list) = Multiple Al false true false (not (load && bit rn list)) load rn list
transfer_equivalent instr = branch_equivalent instr

-- the ARM instruction of any Thumb instruction that has one; any other instruction is its own
abbrev pub equivalent : Instr → Instr
equivalent (ThumbAddSub subtract operand rn rd) = Data Al (if subtract then data_ops.Sub else data_ops.Add) true rn rd (low_operand operand)
equivalent (ThumbShift shift amount rm rd) = Move Al move_ops.Mov true rd (Shifted rm shift amount)
equivalent (ThumbImmediate op rd immed) = immediate_instr op rd immed
equivalent (ThumbData op rm rd) = register_instr op rm rd
equivalent (ThumbHigh op rm rd) = high_instr op rm rd
equivalent (ThumbAddress stack rd immed) = address_instr stack rd immed
equivalent (ThumbAdjustStack subtract immed) = Data Al (if subtract then data_ops.Sub else data_ops.Add) false 13 13 (words_immediate immed)
equivalent instr = transfer_equivalent instr
