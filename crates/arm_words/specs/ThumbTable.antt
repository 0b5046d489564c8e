use Rattle.std.specs.Prelude.{ℕ, ◌+◌, ◌*◌, ◌^◌, nat_lt, Bool, Option, List, [], ◌∷◌}
use Rattle.ds_base.specs.declared.processors.Arch.{Arch}
use Rattle.ds_base.specs.Bits.{bits, bit}
use Rattle.arm_words.specs.Parts.{condition_of, shift_of, thumb_operand_of}
use Rattle.arm_words.specs.ThumbOperations.{thumb_data_op_of, thumb_transfer_op_of}
use Rattle.arm_words.specs.ThumbImmediates.{thumb_immediate_op_of}
use Rattle.arm_words.specs.HighOperations.{high_op_of}
use Rattle.arm_words.specs.Rows.{InstructionRow, row, both, v5, always, first, or_else}
use Rattle.arm_words.specs.declared.instructions.Instr.{Instr}
use Rattle.arm_words.specs.declared.instructions.Instr.TheVariants.{ThumbAddSub, ThumbShift, ThumbImmediate, ThumbData, ThumbBx, ThumbBlxRegister, ThumbHigh, ThumbLoadLiteral, ThumbRegisterOffset, ThumbImmediateOffset, ThumbHalfOffset, ThumbStackOffset, ThumbAddress, ThumbAdjustStack, ThumbPushPop, ThumbBkpt, ThumbMultiple, ThumbBranchIf, ThumbSwi, ThumbBranch, ThumbBlxSuffix, ThumbBlPrefix, ThumbBlSuffix}

-- the low registers of a half: rd, rn or rm, and rm where they mostly stand
abbrev pub low0 : ℕ → ℕ
low0 h = bits 0 3 h

abbrev pub low3 : ℕ → ℕ
low3 h = bits 3 3 h

abbrev pub low6 : ℕ → ℕ
low6 h = bits 6 3 h

abbrev pub low8 : ℕ → ℕ
low8 h = bits 8 3 h

-- bits 9 and 8 name one of ADD, CMP and MOV of high registers
abbrev pub is_high : ℕ → Bool
is_high h = nat_lt (bits 8 2 h) 3

-- a condition below 1110
abbrev pub has_condition : ℕ → Bool
has_condition h = nat_lt (bits 8 4 h) 14

-- shifts, sums and operations on a byte (ARM manual, "Thumb instruction set encoding"): bits 15 to 13 are 000 or 001
abbrev pub thumb_sum_rows : List InstructionRow
thumb_sum_rows =
    row 0xF800 0x1800 both always (λ h. ThumbAddSub (bit 9 h) (thumb_operand_of h) (low3 h) (low0 h)) ∷
    row 0xE000 0x0000 both always (λ h. ThumbShift (shift_of (bits 11 2 h)) (bits 6 5 h) (low3 h) (low0 h)) ∷
    row 0xE000 0x2000 both always (λ h. ThumbImmediate (thumb_immediate_op_of (bits 11 2 h)) (low8 h) (bits 0 8 h)) ∷
    []

-- 010: data processing, and what reaches the high registers; BLX is ARMv5's alone
abbrev pub thumb_register_rows : List InstructionRow
thumb_register_rows =
    row 0xFC00 0x4000 both always (λ h. ThumbData (thumb_data_op_of (bits 6 4 h)) (low3 h) (low0 h)) ∷
    row 0xFF80 0x4700 both always (λ h. ThumbBx (bits 3 4 h)) ∷
    row 0xFF80 0x4780 v5 always (λ h. ThumbBlxRegister (bits 3 4 h)) ∷
    row 0xFC00 0x4400 both is_high (λ h. ThumbHigh (high_op_of (bits 8 2 h)) (bits 3 4 h) (bits 7 1 h * 2 ^ 3 + low0 h)) ∷
    []

-- 010: transfers from the code, and with a register as offset
abbrev pub thumb_literal_rows : List InstructionRow
thumb_literal_rows =
    row 0xF800 0x4800 both always (λ h. ThumbLoadLiteral (low8 h) (bits 0 8 h)) ∷
    row 0xF000 0x5000 both always (λ h. ThumbRegisterOffset (thumb_transfer_op_of (bits 9 3 h)) (low6 h) (low3 h) (low0 h)) ∷
    []

-- 011 and 100: transfers with a number as offset
abbrev pub thumb_offset_rows : List InstructionRow
thumb_offset_rows =
    row 0xE000 0x6000 both always (λ h. ThumbImmediateOffset (bit 12 h) (bit 11 h) (bits 6 5 h) (low3 h) (low0 h)) ∷
    row 0xF000 0x8000 both always (λ h. ThumbHalfOffset (bit 11 h) (bits 6 5 h) (low3 h) (low0 h)) ∷
    row 0xF000 0x9000 both always (λ h. ThumbStackOffset (bit 11 h) (low8 h) (bits 0 8 h)) ∷
    []

-- 101: addresses, the stack, and BKPT
abbrev pub thumb_stack_rows : List InstructionRow
thumb_stack_rows =
    row 0xF000 0xA000 both always (λ h. ThumbAddress (bit 11 h) (low8 h) (bits 0 8 h)) ∷
    row 0xFF00 0xB000 both always (λ h. ThumbAdjustStack (bit 7 h) (bits 0 7 h)) ∷
    row 0xF600 0xB400 both always (λ h. ThumbPushPop (bit 11 h) (bit 8 h) (bits 0 8 h)) ∷
    row 0xFF00 0xBE00 v5 always (λ h. ThumbBkpt (bits 0 8 h)) ∷
    []

-- 110: transfers of several registers, SWI, and branches with a condition
abbrev pub thumb_multiple_rows : List InstructionRow
thumb_multiple_rows =
    row 0xF000 0xC000 both always (λ h. ThumbMultiple (bit 11 h) (low8 h) (bits 0 8 h)) ∷
    row 0xFF00 0xDF00 both always (λ h. ThumbSwi (bits 0 8 h)) ∷
    row 0xF000 0xD000 both has_condition (λ h. ThumbBranchIf (condition_of (bits 8 4 h)) (bits 0 8 h)) ∷
    []

-- 111: branches, and the halves of long ones
abbrev pub thumb_branch_rows : List InstructionRow
thumb_branch_rows =
    row 0xF800 0xE000 both always (λ h. ThumbBranch (bits 0 11 h)) ∷
    row 0xF801 0xE800 v5 always (λ h. ThumbBlxSuffix (bits 0 11 h)) ∷
    row 0xF800 0xF000 both always (λ h. ThumbBlPrefix (bits 0 11 h)) ∷
    row 0xF800 0xF800 both always (λ h. ThumbBlSuffix (bits 0 11 h)) ∷
    []

-- what a half stands for
abbrev pub decoded_thumb : Arch → ℕ → Option Instr
decoded_thumb arch h =
    or_else (first thumb_sum_rows arch h) (or_else (first thumb_register_rows arch h) (or_else (first thumb_literal_rows arch h) (
    or_else (first thumb_offset_rows arch h) (or_else (first thumb_stack_rows arch h) (or_else (first thumb_multiple_rows arch h) (
    first thumb_branch_rows arch h))))))
