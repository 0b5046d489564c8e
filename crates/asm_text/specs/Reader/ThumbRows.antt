use Rattle.std.specs.Prelude.{ℕ, ◌+◌, ◌-◌, ◌*◌, ◌/◌, ◌%◌, ◌^◌, ◌==◌, nat_le, Bool, true, false, List, drop, slice_index, if◌then◌else◌}
use Rattle.asm_text.specs.Reader.Parts.{hex_at, marked_at, one_at, two_at, register_at, registers_at}
use Rattle.arm_words.specs.declared.parts.Condition.{Condition}
use Rattle.arm_words.specs.declared.parts.Condition.TheVariants.{Al}
use Rattle.arm_words.specs.declared.parts.Shift.{Shift}
use Rattle.arm_words.specs.declared.parts.Shift.TheVariants as shifts
use Rattle.arm_words.specs.declared.parts.ThumbOperand.{ThumbOperand}
use Rattle.arm_words.specs.declared.parts.ThumbOperand.TheVariants.{LowRegister, Small}
use Rattle.arm_words.specs.declared.operations.HighOp.{HighOp}
use Rattle.arm_words.specs.declared.operations.ThumbDataOp.{ThumbDataOp}
use Rattle.arm_words.specs.declared.operations.ThumbDataOp.TheVariants as thumb_ops
use Rattle.arm_words.specs.declared.operations.ThumbImmediateOp.{ThumbImmediateOp}
use Rattle.arm_words.specs.declared.operations.ThumbImmediateOp.TheVariants as immediate_ops
use Rattle.arm_words.specs.declared.operations.ThumbTransferOp.{ThumbTransferOp}
use Rattle.arm_words.specs.declared.operations.ThumbTransferOp.TheVariants as transfer_ops
use Rattle.arm_words.specs.declared.instructions.Instr.{Instr}
use Rattle.arm_words.specs.declared.instructions.Instr.TheVariants.{ThumbAddSub, ThumbShift, ThumbImmediate, ThumbData, ThumbBx, ThumbBlxRegister, ThumbHigh, ThumbLoadLiteral, ThumbRegisterOffset, ThumbImmediateOffset, ThumbHalfOffset, ThumbStackOffset, ThumbAddress, ThumbAdjustStack, ThumbPushPop, ThumbBkpt, ThumbMultiple, ThumbBranchIf, ThumbSwi, ThumbBranch, ThumbBlxSuffix, ThumbBlPrefix, ThumbBlSuffix}

-- The Thumb instruction whose operands a text may have, by the row that its name stands for. Names that several rows have are told
-- apart by the operands. Numbers are cut to their fields; as nothing is refused here, what is read is listed again and compared.

-- a low register or a number below 8
unfoldable pub small_at : List ℕ → ThumbOperand
small_at text = if slice_index text 0 == 35 then Small ((marked_at text).0 % 8) else LowRegister (one_at text % 8)

-- `add` and `sub` of a register and a number: r13 is the stack's
abbrev pub sum_with_number : Bool → ℕ → ℕ → Instr
sum_with_number subtract rd n =
    if rd == 13 then ThumbAdjustStack subtract (n / 4 % 128)
    else ThumbImmediate (if subtract then immediate_ops.Sub else immediate_ops.Add) (rd % 8) (n % 256)

-- `add` and `sub` of two registers: r13 and r15 are bases of addresses
abbrev pub sum_with_register : Bool → ℕ → ℕ → List ℕ → Instr
sum_with_register subtract rd rn third =
    if nat_le 8 rn then ThumbAddress (rn == 13) (rd % 8) ((marked_at third).0 / 4 % 256)
    else ThumbAddSub subtract (small_at third) rn (rd % 8)

unfoldable pub add_sub_row : Bool → List ℕ → Instr
add_sub_row subtract text =
    let rd = register_at text in
    let second = drop 2 rd.1 in
    let rn = register_at second in
    if slice_index second 0 == 35 then sum_with_number subtract rd.0 (marked_at second).0
    else sum_with_register subtract rd.0 rn.0 (drop 2 rn.1)

unfoldable pub immediate_row : ThumbImmediateOp → List ℕ → Instr
immediate_row op text =
    let rd = register_at text in
    ThumbImmediate op (rd.0 % 8) ((marked_at (drop 2 rd.1)).0 % 256)

-- the shift of that name
abbrev pub shift_named : ThumbDataOp → Shift
shift_named thumb_ops.Lsl = shifts.Lsl
shift_named thumb_ops.Lsr = shifts.Lsr
shift_named thumb_ops.Asr = shifts.Asr
shift_named _ = shifts.Ror

-- two registers, and for a shift a third operand; with a number in place of the second register it is `cmp`
unfoldable pub data_row : ThumbDataOp → List ℕ → Instr
data_row op text =
    let rd = register_at text in
    let second = drop 2 rd.1 in
    let rm = register_at second in
    if slice_index second 0 == 35 then ThumbImmediate immediate_ops.Cmp (rd.0 % 8) ((marked_at second).0 % 256)
    else (if slice_index rm.1 0 == 44 then ThumbShift (shift_named op) ((marked_at (drop 2 rm.1)).0 % 32) (rm.0 % 8) (rd.0 % 8)
    else ThumbData op (rm.0 % 8) (rd.0 % 8))

-- a word at a base and a number: r13 and r15 have rows of their own
abbrev pub word_offset : Bool → ℕ → ℕ → ℕ → Instr
word_offset load rn rd n =
    if rn == 13 then ThumbStackOffset load rd (n / 4 % 256)
    else (if rn == 15 then ThumbLoadLiteral rd (n / 4 % 256) else ThumbImmediateOffset false load (n / 4 % 32) (rn % 8) rd)

abbrev pub byte_offset : Bool → ℕ → ℕ → ℕ → Instr
byte_offset load rn rd n = ThumbImmediateOffset true load (n % 32) (rn % 8) rd

abbrev pub half_offset : Bool → ℕ → ℕ → ℕ → Instr
half_offset load rn rd n = ThumbHalfOffset load (n / 2 % 32) (rn % 8) rd

-- a transfer at a base and a number, by its width
unfoldable pub number_offset : ThumbTransferOp → ℕ → ℕ → ℕ → Instr
number_offset transfer_ops.Str rn rd n = word_offset false rn rd n
number_offset transfer_ops.Ldr rn rd n = word_offset true rn rd n
number_offset transfer_ops.Strb rn rd n = byte_offset false rn rd n
number_offset transfer_ops.Ldrb rn rd n = byte_offset true rn rd n
number_offset transfer_ops.Strh rn rd n = half_offset false rn rd n
number_offset _ rn rd n = half_offset true rn rd n

unfoldable pub transfer_row : ThumbTransferOp → List ℕ → Instr
transfer_row op text =
    let rd = register_at text in
    let rn = register_at (drop 3 rd.1) in
    let by = drop 2 rn.1 in
    if slice_index by 0 == 35 then number_offset op rn.0 (rd.0 % 8) (marked_at by).0
    else ThumbRegisterOffset op (one_at by % 8) (rn.0 % 8) (rd.0 % 8)

-- a list with r14 or r15, which stand above the low registers
unfoldable pub push_pop_row : Bool → List ℕ → Instr
push_pop_row load text =
    let list = (registers_at (drop 1 text)).0 in
    ThumbPushPop load (nat_le 256 list) (list % 256)

unfoldable pub multiple_row : Bool → List ℕ → Instr
multiple_row load text =
    let rn = register_at text in
    ThumbMultiple load (rn.0 % 8) ((registers_at (drop 4 rn.1)).0 % 256)

-- halves from what r15 reads as to a target
abbrev pub halves_to : ℕ → ℕ → ℕ
halves_to at target = ((target + 2 ^ 32 - at) % 2 ^ 32 + 2 ^ 32 - 4) % 2 ^ 32 / 2

-- `b` without a condition has a row of its own
abbrev pub branch_by : Condition → ℕ → Instr
branch_by Al by = ThumbBranch (by % 2 ^ 11)
branch_by cond by = ThumbBranchIf cond (by % 2 ^ 8)

-- two registers of sixteen
abbrev pub high_row : HighOp → List ℕ → Instr
high_row op text = let r = two_at text in ThumbHigh op r.1 r.0

-- by the row of a name; `swi` is the last
unfoldable pub thumb_row : ℕ → Instr → Condition → List ℕ → Instr
thumb_row at (ThumbAddSub subtract second rn rd) cond text = add_sub_row subtract text
thumb_row at (ThumbImmediate op rd immed) cond text = immediate_row op text
thumb_row at (ThumbData op rm rd) cond text = data_row op text
thumb_row at (ThumbBx rm) cond text = ThumbBx (one_at text)
thumb_row at (ThumbBlxRegister rm) cond text = ThumbBlxRegister (one_at text)
thumb_row at (ThumbHigh op rm rd) cond text = high_row op text
thumb_row at (ThumbRegisterOffset op rm rn rd) cond text = transfer_row op text
thumb_row at (ThumbPushPop load extra list) cond text = push_pop_row load text
thumb_row at (ThumbBkpt immed) cond text = ThumbBkpt ((hex_at text).0 % 256)
thumb_row at (ThumbMultiple load rn list) cond text = multiple_row load text
thumb_row at (ThumbBranch by) cond text = branch_by cond (halves_to at (hex_at text).0)
thumb_row at (ThumbBlxSuffix by) cond text = ThumbBlxSuffix ((marked_at text).0 / 2 % 2 ^ 10 * 2)
thumb_row at (ThumbBlPrefix by) cond text = ThumbBlPrefix ((marked_at text).0 % 2 ^ 11)
thumb_row at (ThumbBlSuffix by) cond text = ThumbBlSuffix ((marked_at text).0 % 2 ^ 11)
thumb_row at _ cond text = ThumbSwi ((hex_at text).0 % 256)
