-- Each Thumb instruction is read from its statement.
use Rattle.asm_text.proofs.Words.{ℕ, ◌≡◌, ◌<◌, ◌+◌, ◌*◌, ◌%◌, ◌/◌, ◌^◌, Bool, true, false, List, [], ◌∷◌, ◌++◌, refl, ap, ◌∙◌, arith, Some, codes}
use Rattle.asm_text.proofs.Words.{if◌then◌else◌, thumb_data_name, high_name, transfer_name, load_name, shift_name, raw, IsStem, read, at_offset}
use Rattle.asm_text.proofs.Words.{thumb_target, hex_at, marked_at, on, statement, thumb_amount, hex_digits, joined, number, hex, register_name}
use Rattle.asm_text.proofs.Words.{register_list, shift_named, Row, Raw, THUMB_STEMS, HasFields, spelled, Spelling, Word, Half, Condition, Al, Shift}
use Rattle.asm_text.proofs.Words.{ThumbOperand, LowRegister, Small, ThumbImmediateOp, ThumbDataOp, HighOp, ThumbTransferOp, Instr, ThumbAddSub}
use Rattle.asm_text.proofs.Words.{ThumbShift, ThumbImmediate, ThumbData, ThumbBx, ThumbBlxRegister, ThumbHigh, ThumbLoadLiteral, ThumbRegisterOffset}
use Rattle.asm_text.proofs.Words.{ThumbImmediateOffset, ThumbHalfOffset, ThumbStackOffset, ThumbAddress, ThumbAdjustStack, ThumbPushPop, ThumbBkpt}
use Rattle.asm_text.proofs.Words.{ThumbMultiple, ThumbBranchIf, ThumbSwi, ThumbBranch, ThumbBlxSuffix, ThumbBlPrefix, ThumbBlSuffix}
use Rattle.asm_text.specs.Reader.ThumbRows.{thumb_row}
use Rattle.asm_text.proofs.Again.{half_again, hex_again, one_again}
use Rattle.asm_text.proofs.NameLaws.{read_on, read_raw}
use Rattle.asm_text.proofs.ThumbStems.{add_sub_stem, move_stem, data_stem, bx_stem, blx_stem, high_stem, transfer_stem, push_pop_stem, bkpt_stem, multiple_stem, swi_stem, branch_stem, blx_suffix_stem, bl_prefix_stem, bl_suffix_stem, half_stem}
use Rattle.asm_text.proofs.ThumbRows.{last_number, add_registers, add_small, add_number, adjust, address_of, move_number, compare_number, data_registers, shift_number, high_registers}
use Rattle.asm_text.proofs.ThumbRowsTransfers.{word_op, byte_op, half_op, register_offset, load_literal, stack_offset, word_number, byte_number, half_number, extra_bit, push_pop, multiple, branch, branch_if}
use Rattle.arm_words.specs.declared.parts.Shift.TheVariants as shifts
use Rattle.arm_words.specs.declared.operations.ThumbImmediateOp.TheVariants as immediate_ops
use Rattle.arm_words.specs.declared.operations.ThumbDataOp.TheVariants as thumb_ops
use Rattle.arm_words.specs.declared.operations.ThumbTransferOp.TheVariants as transfer_ops

-- read as an instruction
abbrev pub IsRead : ℕ → Instr → Type 0
IsRead at i = read THUMB_STEMS thumb_row at (statement at i) ≡ Some (Row i)

-- a name's row is filled in from the operands
row_on : (at : ℕ) (nm : List ℕ) (template : Instr) (cond : Condition) (operands : List (List ℕ)) (i : Instr) → IsStem THUMB_STEMS nm (Row template) →
    thumb_row at template cond (joined (codes ", ") operands) ≡ i → read THUMB_STEMS thumb_row at (on nm cond operands) ≡ Some (Row i)
row_on at nm template cond operands i s e = read_on THUMB_STEMS thumb_row at nm (Row template) cond operands s ∙ ap (λ (x : Instr). Some (Row x)) e

add_sub_read : (at : ℕ) (subtract : Bool) (second : ThumbOperand) (rn rd : ℕ) → HasFields (ThumbAddSub subtract second rn rd) → IsRead at (ThumbAddSub subtract second rn rd)
unfolding thumb_row
add_sub_read at subtract (LowRegister rm) rn rd h =
    row_on at (if subtract then codes "sub" else codes "add") (ThumbAddSub subtract (Small 0) 0 0) Al (register_name rd ∷ register_name rn ∷ register_name rm ∷ []) _ (add_sub_stem subtract) (add_registers subtract rm rn rd h.0 h.1 h.2)
add_sub_read at subtract (Small n) rn rd h =
    row_on at (if subtract then codes "sub" else codes "add") (ThumbAddSub subtract (Small 0) 0 0) Al (register_name rd ∷ register_name rn ∷ number n ∷ []) _ (add_sub_stem subtract) (add_small subtract n rn rd h.0 h.1 h.2)

-- the data operation of a shift's name
abbrev shift_op : Shift → ThumbDataOp
shift_op shifts.Lsl = thumb_ops.Lsl
shift_op shifts.Lsr = thumb_ops.Lsr
shift_op shifts.Asr = thumb_ops.Asr
shift_op shifts.Ror = thumb_ops.Ror

shift_op_of : (shift : Shift) → shift_named (shift_op shift) ≡ shift
shift_op_of shifts.Lsl = refl
shift_op_of shifts.Lsr = refl
shift_op_of shifts.Asr = refl
shift_op_of shifts.Ror = refl

shift_stem : (shift : Shift) → IsStem THUMB_STEMS (shift_name shift) (Row (ThumbData (shift_op shift) 0 0))
shift_stem shifts.Lsl = data_stem thumb_ops.Lsl
shift_stem shifts.Lsr = data_stem thumb_ops.Lsr
shift_stem shifts.Asr = data_stem thumb_ops.Asr
shift_stem shifts.Ror = data_stem thumb_ops.Ror

shift_read : (at : ℕ) (shift : Shift) (amount rm rd : ℕ) → HasFields (ThumbShift shift amount rm rd) → IsRead at (ThumbShift shift amount rm rd)
unfolding thumb_row
shift_read at shift amount rm rd h =
    row_on at (shift_name shift) (ThumbData (shift_op shift) 0 0) Al (register_name rd ∷ register_name rm ∷ number (thumb_amount shift amount) ∷ []) _ (shift_stem shift)
    (shift_number (shift_op shift) shift amount rm rd (shift_op_of shift) h.0 h.1 h.2)

immediate_read : (at : ℕ) (op : ThumbImmediateOp) (rd n : ℕ) → HasFields (ThumbImmediate op rd n) → IsRead at (ThumbImmediate op rd n)
unfolding thumb_row
immediate_read at immediate_ops.Mov rd n h =
    row_on at (codes "mov") (ThumbImmediate immediate_ops.Mov 0 0) Al (register_name rd ∷ number n ∷ []) _ move_stem (move_number immediate_ops.Mov rd n h.0 h.1)
immediate_read at immediate_ops.Cmp rd n h =
    row_on at (codes "cmp") (ThumbData thumb_ops.Cmp 0 0) Al (register_name rd ∷ number n ∷ []) _ (data_stem thumb_ops.Cmp) (compare_number thumb_ops.Cmp rd n h.0 h.1)
immediate_read at immediate_ops.Add rd n h =
    row_on at (codes "add") (ThumbAddSub false (Small 0) 0 0) Al (register_name rd ∷ number n ∷ []) _ (add_sub_stem false) (add_number false rd n h.0 h.1)
immediate_read at immediate_ops.Sub rd n h =
    row_on at (codes "sub") (ThumbAddSub true (Small 0) 0 0) Al (register_name rd ∷ number n ∷ []) _ (add_sub_stem true) (add_number true rd n h.0 h.1)

data_read : (at : ℕ) (op : ThumbDataOp) (rm rd : ℕ) → HasFields (ThumbData op rm rd) → IsRead at (ThumbData op rm rd)
unfolding thumb_row
data_read at op rm rd h =
    row_on at (thumb_data_name op) (ThumbData op 0 0) Al (register_name rd ∷ register_name rm ∷ []) _ (data_stem op) (data_registers op rm rd h.0 h.1)

bx_read : (at rm : ℕ) → HasFields (ThumbBx rm) → IsRead at (ThumbBx rm)
unfolding thumb_row
bx_read at rm h = row_on at (codes "bx") (ThumbBx 0) Al (register_name rm ∷ []) _ bx_stem (ap ThumbBx (one_again rm h))

blx_read : (at rm : ℕ) → HasFields (ThumbBlxRegister rm) → IsRead at (ThumbBlxRegister rm)
unfolding thumb_row
blx_read at rm h = row_on at (codes "blx") (ThumbBlxRegister 0) Al (register_name rm ∷ []) _ blx_stem (ap ThumbBlxRegister (one_again rm h))

high_read : (at : ℕ) (op : HighOp) (rm rd : ℕ) → HasFields (ThumbHigh op rm rd) → IsRead at (ThumbHigh op rm rd)
unfolding thumb_row
high_read at op rm rd h =
    row_on at (high_name op) (ThumbHigh op 0 0) Al (register_name rd ∷ register_name rm ∷ []) _ (high_stem op) (high_registers op rm rd h.0 h.1)

literal_read : (at rd n : ℕ) → HasFields (ThumbLoadLiteral rd n) → IsRead at (ThumbLoadLiteral rd n)
unfolding thumb_row
literal_read at rd n h =
    row_on at (codes "ldr") (ThumbRegisterOffset transfer_ops.Ldr 0 0 0) Al (register_name rd ∷ at_offset 15 (number (4 * n)) ∷ []) _ (transfer_stem transfer_ops.Ldr) (load_literal rd n h.0 h.1)

register_read : (at : ℕ) (op : ThumbTransferOp) (rm rn rd : ℕ) → HasFields (ThumbRegisterOffset op rm rn rd) → IsRead at (ThumbRegisterOffset op rm rn rd)
unfolding thumb_row
register_read at op rm rn rd h =
    row_on at (transfer_name op) (ThumbRegisterOffset op 0 0 0) Al (register_name rd ∷ at_offset rn (register_name rm) ∷ []) _ (transfer_stem op) (register_offset op rm rn rd h.0 h.1 h.2)

word_stem : (load : Bool) → IsStem THUMB_STEMS (load_name load) (Row (ThumbRegisterOffset (word_op load) 0 0 0))
word_stem true = transfer_stem transfer_ops.Ldr
word_stem false = transfer_stem transfer_ops.Str

byte_stem : (load : Bool) → IsStem THUMB_STEMS (load_name load ++ codes "b") (Row (ThumbRegisterOffset (byte_op load) 0 0 0))
byte_stem true = transfer_stem transfer_ops.Ldrb
byte_stem false = transfer_stem transfer_ops.Strb

halfword_stem : (load : Bool) → IsStem THUMB_STEMS (load_name load ++ codes "h") (Row (ThumbRegisterOffset (half_op load) 0 0 0))
halfword_stem true = transfer_stem transfer_ops.Ldrh
halfword_stem false = transfer_stem transfer_ops.Strh

-- a name that nothing is added to
bare : (load : Bool) → load_name load ++ [] ≡ load_name load
bare true = refl
bare false = refl

number_read : (at : ℕ) (byte load : Bool) (n rn rd : ℕ) → HasFields (ThumbImmediateOffset byte load n rn rd) → IsRead at (ThumbImmediateOffset byte load n rn rd)
unfolding thumb_row
number_read at true load n rn rd h =
    row_on at (load_name load ++ codes "b") (ThumbRegisterOffset (byte_op load) 0 0 0) Al (register_name rd ∷ at_offset rn (number n) ∷ []) _ (byte_stem load)
    (byte_number load n rn rd h.0 h.1 h.2)
number_read at false load n rn rd h =
    row_on at (load_name load ++ []) (ThumbRegisterOffset (word_op load) 0 0 0) Al (register_name rd ∷ at_offset rn (number (4 * n)) ∷ []) _ (rw (bare load) (word_stem load))
    (word_number load n rn rd h.0 h.1 h.2)

half_read : (at : ℕ) (load : Bool) (n rn rd : ℕ) → HasFields (ThumbHalfOffset load n rn rd) → IsRead at (ThumbHalfOffset load n rn rd)
unfolding thumb_row
half_read at load n rn rd h =
    row_on at (load_name load ++ codes "h") (ThumbRegisterOffset (half_op load) 0 0 0) Al (register_name rd ∷ at_offset rn (number (2 * n)) ∷ []) _ (halfword_stem load)
    (half_number load n rn rd h.0 h.1 h.2)

stack_read : (at : ℕ) (load : Bool) (rd n : ℕ) → HasFields (ThumbStackOffset load rd n) → IsRead at (ThumbStackOffset load rd n)
unfolding thumb_row
stack_read at load rd n h =
    row_on at (load_name load) (ThumbRegisterOffset (word_op load) 0 0 0) Al (register_name rd ∷ at_offset 13 (number (4 * n)) ∷ []) _ (word_stem load)
    (stack_offset load rd n h.0 h.1)

address_read : (at : ℕ) (stack : Bool) (rd n : ℕ) → HasFields (ThumbAddress stack rd n) → IsRead at (ThumbAddress stack rd n)
unfolding thumb_row
address_read at stack rd n h =
    row_on at (codes "add") (ThumbAddSub false (Small 0) 0 0) Al (register_name rd ∷ register_name (if stack then 13 else 15) ∷ number (4 * n) ∷ []) _ (add_sub_stem false)
    (address_of stack rd n h.0 h.1)

adjust_read : (at : ℕ) (subtract : Bool) (n : ℕ) → HasFields (ThumbAdjustStack subtract n) → IsRead at (ThumbAdjustStack subtract n)
unfolding thumb_row
adjust_read at subtract n h =
    row_on at (if subtract then codes "sub" else codes "add") (ThumbAddSub subtract (Small 0) 0 0) Al (register_name 13 ∷ number (4 * n) ∷ []) _ (add_sub_stem subtract) (adjust subtract n h)

push_pop_read : (at : ℕ) (load extra : Bool) (list : ℕ) → HasFields (ThumbPushPop load extra list) → IsRead at (ThumbPushPop load extra list)
unfolding thumb_row
push_pop_read at load extra list h =
    row_on at (if load then codes "pop" else codes "push") (ThumbPushPop load false 0) Al (register_list (list + extra_bit load extra) ∷ []) _ (push_pop_stem load) (push_pop load extra list h)

multiple_read : (at : ℕ) (load : Bool) (rn list : ℕ) → HasFields (ThumbMultiple load rn list) → IsRead at (ThumbMultiple load rn list)
unfolding thumb_row
multiple_read at load rn list h =
    row_on at (if load then codes "ldmia" else codes "stmia") (ThumbMultiple load 0 0) Al ((register_name rn ++ codes "!") ∷ register_list list ∷ []) _ (multiple_stem load) (multiple load rn list h.0 h.1)

-- a byte as the last operand
last_byte : (n : ℕ) → n < 256 → (hex_at (joined (codes ", ") (hex n ∷ []))).0 % 256 ≡ n
last_byte n h = ap (λ (p : ℕ × List ℕ). p.0 % 256) (hex_again n [] (omega arith) refl) ∙ omega arith

bkpt_read : (at n : ℕ) → HasFields (ThumbBkpt n) → IsRead at (ThumbBkpt n)
unfolding thumb_row
bkpt_read at n h = row_on at (codes "bkpt") (ThumbBkpt 0) Al (hex n ∷ []) _ bkpt_stem (ap ThumbBkpt (last_byte n h))

swi_read : (at n : ℕ) → HasFields (ThumbSwi n) → IsRead at (ThumbSwi n)
unfolding thumb_row
swi_read at n h = row_on at (codes "swi") (ThumbSwi 0) Al (hex n ∷ []) _ swi_stem (ap ThumbSwi (last_byte n h))

branch_if_read : (at : ℕ) (cond : Condition) (n : ℕ) → at < 2 ^ 32 → HasFields (ThumbBranchIf cond n) → IsRead at (ThumbBranchIf cond n)
unfolding thumb_row
branch_if_read at cond n ha h =
    row_on at (codes "b") (ThumbBranch 0) cond (hex (thumb_target at (2 ^ 7) n) ∷ []) _ branch_stem (branch_if at cond n ha h.0 h.1)

branch_read : (at n : ℕ) → at < 2 ^ 32 → HasFields (ThumbBranch n) → IsRead at (ThumbBranch n)
unfolding thumb_row
branch_read at n ha h = row_on at (codes "b") (ThumbBranch 0) Al (hex (thumb_target at (2 ^ 10) n) ∷ []) _ branch_stem (branch at n ha h)

last_marked : (n : ℕ) → n < 2 ^ 11 → (marked_at (joined (codes ", ") (number n ∷ []))).0 ≡ n
last_marked n h = ap (λ (p : ℕ × List ℕ). p.0) (last_number n (omega arith))

eleven : (n : ℕ) → n < 2 ^ 11 → (marked_at (joined (codes ", ") (number n ∷ []))).0 % 2 ^ 11 ≡ n
eleven n h = ap (λ (x : ℕ). x % 2 ^ 11) (last_marked n h) ∙ omega arith

even : (n : ℕ) → n < 2 ^ 11 → n % 2 ≡ 0 → (marked_at (joined (codes ", ") (number n ∷ []))).0 / 2 % 2 ^ 10 * 2 ≡ n
even n h e = ap (λ (x : ℕ). x / 2 % 2 ^ 10 * 2) (last_marked n h) ∙ omega arith

blx_suffix_read : (at n : ℕ) → HasFields (ThumbBlxSuffix n) → IsRead at (ThumbBlxSuffix n)
unfolding thumb_row
blx_suffix_read at n h = row_on at (codes "blxl") (ThumbBlxSuffix 0) Al (number n ∷ []) _ blx_suffix_stem (ap ThumbBlxSuffix (even n h.0 h.1))

bl_prefix_read : (at n : ℕ) → HasFields (ThumbBlPrefix n) → IsRead at (ThumbBlPrefix n)
unfolding thumb_row
bl_prefix_read at n h = row_on at (codes "blh") (ThumbBlPrefix 0) Al (number n ∷ []) _ bl_prefix_stem (ap ThumbBlPrefix (eleven n h))

bl_suffix_read : (at n : ℕ) → HasFields (ThumbBlSuffix n) → IsRead at (ThumbBlSuffix n)
unfolding thumb_row
bl_suffix_read at n h = row_on at (codes "bll") (ThumbBlSuffix 0) Al (number n ∷ []) _ bl_suffix_stem (ap ThumbBlSuffix (eleven n h))

-- the instruction is one of Thumb's
abbrev IsHalf : Spelling → Type 0
IsHalf (Word w) = ⊥
IsHalf (Half h) = Unit {0}

each_read : (at : ℕ) (i : Instr) → at < 2 ^ 32 → HasFields i → IsHalf (spelled i) → IsRead at i
each_read at (ThumbAddSub subtract second rn rd) ha h s = add_sub_read at subtract second rn rd h
each_read at (ThumbShift shift amount rm rd) ha h s = shift_read at shift amount rm rd h
each_read at (ThumbImmediate op rd n) ha h s = immediate_read at op rd n h
each_read at (ThumbData op rm rd) ha h s = data_read at op rm rd h
each_read at (ThumbBx rm) ha h s = bx_read at rm h
each_read at (ThumbBlxRegister rm) ha h s = blx_read at rm h
each_read at (ThumbHigh op rm rd) ha h s = high_read at op rm rd h
each_read at (ThumbLoadLiteral rd n) ha h s = literal_read at rd n h
each_read at (ThumbRegisterOffset op rm rn rd) ha h s = register_read at op rm rn rd h
each_read at (ThumbImmediateOffset byte load n rn rd) ha h s = number_read at byte load n rn rd h
each_read at (ThumbHalfOffset load n rn rd) ha h s = half_read at load n rn rd h
each_read at (ThumbStackOffset load rd n) ha h s = stack_read at load rd n h
each_read at (ThumbAddress stack rd n) ha h s = address_read at stack rd n h
each_read at (ThumbAdjustStack subtract n) ha h s = adjust_read at subtract n h
each_read at (ThumbPushPop load extra list) ha h s = push_pop_read at load extra list h
each_read at (ThumbBkpt n) ha h s = bkpt_read at n h
each_read at (ThumbMultiple load rn list) ha h s = multiple_read at load rn list h
each_read at (ThumbBranchIf cond n) ha h s = branch_if_read at cond n ha h
each_read at (ThumbSwi n) ha h s = swi_read at n h
each_read at (ThumbBranch n) ha h s = branch_read at n ha h
each_read at (ThumbBlxSuffix n) ha h s = blx_suffix_read at n h
each_read at (ThumbBlPrefix n) ha h s = bl_prefix_read at n h
each_read at (ThumbBlSuffix n) ha h s = bl_suffix_read at n h
each_read at _ ha h s = absurd s

is_half : (s : Spelling) (half : ℕ) → s ≡ Half half → IsHalf s
is_half (Word w) half e = absurd cc
is_half (Half h) half e = tt

-- an instruction that a half spells is read from its statement
pub thumb_again : (at half : ℕ) (i : Instr) → at < 2 ^ 32 → HasFields i → spelled i ≡ Half half → read THUMB_STEMS thumb_row at (statement at i) ≡ Some (Row i)
thumb_again at half i ha h e = each_read at i ha h (is_half (spelled i) half e)

-- a half itself is read from its digits
pub raw_half_again : (at half : ℕ) → half < 2 ^ 16 → read THUMB_STEMS thumb_row at (raw (Half half)) ≡ Some (Raw half)
unfolding hex_at
raw_half_again at half h =
    read_raw THUMB_STEMS thumb_row at (codes ".half") (Raw 0) (codes "0x" ++ hex_digits 4 half) half_stem
    ∙ ap (λ (p : ℕ × List ℕ). Some (Raw p.0)) (half_again half [] h refl)
