use Rattle.std.specs.Prelude.{ℕ, ◌+◌, ◌*◌, ◌/◌, ◌^◌, ◌==◌, bit_and, nat_lt, Bool, ◌&&◌, ◌||◌, not, Option, if◌then◌else◌, List, [], ◌∷◌}
use Rattle.ds_base.specs.declared.processors.Arch.{Arch}
use Rattle.ds_base.specs.Bits.{bits, bit}
use Rattle.arm_words.specs.Parts.{condition_of, operand_of, offset_of, short_offset_of, field_mask_of}
use Rattle.arm_words.specs.Operations.{data_op_of, compare_op_of, move_op_of, half_op_of}
use Rattle.arm_words.specs.Rows.{InstructionRow, row, both, v5, v4, always, first, or_else}
use Rattle.arm_words.specs.declared.instructions.Instr.{Instr}
use Rattle.arm_words.specs.declared.instructions.Instr.TheVariants.{Bx, BlxRegister, Bkpt, Clz, Saturating, Smla, Smlaw, Smulw, Smlal, Smul, Mul, Mla, LongMultiply, Swap, HalfTransfer, Mrs, Msr, MsrImmediate, Compare, Move, Data, DoubleTransfer, Transfer, Multiple, Branch, Coprocessor, Swi, BlxTarget, Pld, Never}

-- bits 31 to 28
abbrev pub top4 : ℕ → ℕ
top4 w = w / 2 ^ 28

-- the registers of a word: rn, rd, rs, rm where they mostly stand
abbrev pub at16 : ℕ → ℕ
at16 w = bits 16 4 w

abbrev pub at12 : ℕ → ℕ
at12 w = bits 12 4 w

abbrev pub at8 : ℕ → ℕ
at8 w = bits 8 4 w

abbrev pub at0 : ℕ → ℕ
at0 w = bits 0 4 w

-- side conditions
-- condition 1110
abbrev pub is_always : ℕ → Bool
is_always w = top4 w == 14

-- L, S and H of a transfer of a half or of a signed byte, as one number: 001, 101, 110 or 111
abbrev pub half_number : ℕ → ℕ
half_number w = bits 20 1 w * 4 + bits 5 2 w

abbrev pub is_half : ℕ → Bool
is_half w = half_number w == 1 || nat_lt 4 (half_number w)

-- rd is even
abbrev pub is_even_rd : ℕ → Bool
is_even_rd w = not (bit 12 w)

-- bits 25, 7 and 4 aren't 0, 1 and 1, which stand for the multiplies and the other transfers
abbrev pub has_operand : ℕ → Bool
has_operand w = not (bit_and w 0x02000090 == 0x00000090)

-- the operation of data processing has a result and two operands: its number is 0 to 7, 12 or 14
abbrev pub has_result : ℕ → Bool
has_result w = has_operand w && (nat_lt (bits 21 4 w) 8 || (bits 21 4 w == 12 || bits 21 4 w == 14))

-- bits 25 and 4 aren't both 1, which is undefined
abbrev pub has_offset : ℕ → Bool
has_offset w = not (bit_and w 0x02000010 == 0x02000010)

-- branches to a register, BKPT, CLZ (ARM manual, "Miscellaneous instructions") and the saturating sums
abbrev pub branch_rows : List InstructionRow
branch_rows =
    row 0x0FF000F0 0x01200010 both always (λ w. Bx (condition_of (top4 w)) (at0 w)) ∷
    row 0x0FF000F0 0x01200030 v5 always (λ w. BlxRegister (condition_of (top4 w)) (at0 w)) ∷
    row 0x0FF000F0 0x01200070 v5 is_always (λ w. Bkpt (bits 8 12 w * 2 ^ 4 + at0 w)) ∷
    row 0x0FF000F0 0x01600010 v5 always (λ w. Clz (condition_of (top4 w)) (at12 w) (at0 w)) ∷
    row 0x0F9000F0 0x01000050 v5 always (λ w. Saturating (condition_of (top4 w)) (bit 22 w) (bit 21 w) (at12 w) (at0 w) (at16 w)) ∷
    []

-- multiplies of halves (ARM manual, "Enhanced DSP instructions")
abbrev pub half_multiply_rows : List InstructionRow
half_multiply_rows =
    row 0x0FF00090 0x01000080 v5 always (λ w. Smla (condition_of (top4 w)) (bit 5 w) (bit 6 w) (at16 w) (at0 w) (at8 w) (at12 w)) ∷
    row 0x0FF000B0 0x01200080 v5 always (λ w. Smlaw (condition_of (top4 w)) (bit 6 w) (at16 w) (at0 w) (at8 w) (at12 w)) ∷
    row 0x0FF000B0 0x012000A0 v5 always (λ w. Smulw (condition_of (top4 w)) (bit 6 w) (at16 w) (at0 w) (at8 w)) ∷
    []

abbrev pub half_product_rows : List InstructionRow
half_product_rows =
    row 0x0FF00090 0x01400080 v5 always (λ w. Smlal (condition_of (top4 w)) (bit 5 w) (bit 6 w) (at12 w) (at16 w) (at0 w) (at8 w)) ∷
    row 0x0FF00090 0x01600080 v5 always (λ w. Smul (condition_of (top4 w)) (bit 5 w) (bit 6 w) (at16 w) (at0 w) (at8 w)) ∷
    []

-- multiplies of words (ARM manual, "Multiply instructions")
abbrev pub multiply_rows : List InstructionRow
multiply_rows =
    row 0x0FE000F0 0x00000090 both always (λ w. Mul (condition_of (top4 w)) (bit 20 w) (at16 w) (at0 w) (at8 w)) ∷
    row 0x0FE000F0 0x00200090 both always (λ w. Mla (condition_of (top4 w)) (bit 20 w) (at16 w) (at0 w) (at8 w) (at12 w)) ∷
    row 0x0F8000F0 0x00800090 both always
    (λ w. LongMultiply (condition_of (top4 w)) (bit 22 w) (bit 21 w) (bit 20 w) (at12 w) (at16 w) (at0 w) (at8 w)) ∷
    []

-- swaps, and transfers of a half or of a signed byte (ARM manual, "Extra load/store instructions")
abbrev pub half_transfer_rows : List InstructionRow
half_transfer_rows =
    row 0x0FB000F0 0x01000090 both always (λ w. Swap (condition_of (top4 w)) (bit 22 w) (at12 w) (at0 w) (at16 w)) ∷
    row 0x0E000090 0x00000090 both is_half
    (λ w. HalfTransfer (condition_of (top4 w)) (half_op_of (half_number w)) (bit 24 w) (bit 23 w) (bit 21 w) (at16 w) (at12 w)
    (short_offset_of w)) ∷
    []

-- status registers (ARM manual, "Status register access instructions")
abbrev pub status_register_rows : List InstructionRow
status_register_rows =
    row 0x0FB000F0 0x01000000 both always (λ w. Mrs (condition_of (top4 w)) (bit 22 w) (at12 w)) ∷
    row 0x0FB000F0 0x01200000 both always (λ w. Msr (condition_of (top4 w)) (bit 22 w) (field_mask_of w) (at0 w)) ∷
    []

abbrev pub immediate_status_rows : List InstructionRow
immediate_status_rows =
    row 0x0FB00000 0x03200000 both always (λ w. MsrImmediate (condition_of (top4 w)) (bit 22 w) (field_mask_of w) (at8 w) (bits 0 8 w)) ∷
    []

-- data processing (ARM manual, "Data-processing instructions"): with the flags alone as result, with one operand, with two
abbrev pub data_rows : List InstructionRow
data_rows =
    row 0x0D900000 0x01100000 both has_operand (λ w. Compare (condition_of (top4 w)) (compare_op_of (bits 21 2 w)) (at16 w) (operand_of w)) ∷
    row 0x0DA00000 0x01A00000 both has_operand (λ w. Move (condition_of (top4 w)) (move_op_of (bits 22 1 w)) (bit 20 w) (at12 w) (operand_of w)) ∷
    row 0x0C000000 0x00000000 both has_result
    (λ w. Data (condition_of (top4 w)) (data_op_of (bits 21 4 w)) (bit 20 w) (at16 w) (at12 w) (operand_of w)) ∷
    []

-- transfers of two words (ARM manual, "Enhanced DSP instructions")
abbrev pub double_rows : List InstructionRow
double_rows =
    row 0x0E1000D0 0x000000D0 v5 is_even_rd
    (λ w. DoubleTransfer (condition_of (top4 w)) (bit 5 w) (bit 24 w) (bit 23 w) (bit 21 w) (at16 w) (at12 w) (short_offset_of w)) ∷
    []

-- transfers of words and bytes (ARM manual, "Load and store instructions")
abbrev pub transfer_rows : List InstructionRow
transfer_rows =
    row 0x0C000000 0x04000000 both has_offset
    (λ w. Transfer (condition_of (top4 w)) (bit 24 w) (bit 23 w) (bit 22 w) (bit 21 w) (bit 20 w) (at16 w) (at12 w) (offset_of w)) ∷
    []

-- transfers of several registers, and branches (ARM manual, "Load and store multiple", "Branch instructions")
abbrev pub multiple_rows : List InstructionRow
multiple_rows =
    row 0x0E000000 0x08000000 both always
    (λ w. Multiple (condition_of (top4 w)) (bit 24 w) (bit 23 w) (bit 22 w) (bit 21 w) (bit 20 w) (at16 w) (bits 0 16 w)) ∷
    row 0x0E000000 0x0A000000 both always (λ w. Branch (condition_of (top4 w)) (bit 24 w) (bits 0 24 w)) ∷
    []

-- coprocessors and SWI (ARM manual, "Coprocessor instructions", "Exception-generating instructions")
abbrev pub coprocessor_rows : List InstructionRow
coprocessor_rows =
    row 0x0F000010 0x0E000010 v5 always
    (λ w. Coprocessor (condition_of (top4 w)) (bit 20 w) (bits 21 3 w) (at16 w) (at12 w) (at8 w) (bits 5 3 w) (at0 w)) ∷
    row 0x0F000000 0x0F000000 both always (λ w. Swi (condition_of (top4 w)) (bits 0 24 w)) ∷
    []

-- words whose top four bits are 1111 (ARM manual, "Unconditional instructions"); on ARMv4 such a word does nothing ("The
-- condition field")
abbrev pub unconditional_rows : List InstructionRow
unconditional_rows =
    row 0xFE000000 0xFA000000 v5 always (λ w. BlxTarget (bit 24 w) (bits 0 24 w)) ∷
    row 0xFD70F000 0xF550F000 v5 has_offset (λ w. Pld (bit 23 w) (at16 w) (offset_of w)) ∷
    row 0xF0000000 0xF0000000 v4 always (λ w. Never (bits 0 28 w)) ∷
    []

-- the rows of words whose top four bits aren't 1111, in their order
abbrev pub conditional_arm : Arch → ℕ → Option Instr
conditional_arm arch w =
    or_else (first branch_rows arch w) (or_else (first half_multiply_rows arch w) (or_else (first half_product_rows arch w) (
    or_else (first multiply_rows arch w) (or_else (first half_transfer_rows arch w) (or_else (first status_register_rows arch w) (
    or_else (first immediate_status_rows arch w) (or_else (first data_rows arch w) (or_else (first double_rows arch w) (
    or_else (first transfer_rows arch w) (or_else (first multiple_rows arch w) (first coprocessor_rows arch w)))))))))))

-- what a word stands for
abbrev pub decoded_arm : Arch → ℕ → Option Instr
decoded_arm arch w = if top4 w == 15 then first unconditional_rows arch w else conditional_arm arch w
