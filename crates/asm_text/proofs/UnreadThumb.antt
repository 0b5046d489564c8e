-- And the rows of the Thumb table.
use Rattle.asm_text.proofs.Words.{◌/◌, ◌%◌, ◌^◌, [], ◌∷◌, refl, arith, lt_of, thumb, masked, part, flag_again, thumb_sum_rows, thumb_register_rows}
use Rattle.asm_text.proofs.Words.{thumb_literal_rows, thumb_offset_rows, thumb_stack_rows, thumb_multiple_rows, thumb_branch_rows}
use Rattle.arm_words.proofs.Names.{shift_again, thumb_data_op_again, thumb_immediate_op_again, high_op_again}
use Rattle.arm_words.proofs.PartLaws.{thumb_operand_again}
use Rattle.arm_words.proofs.ThumbLaws.{thumb_literal_exact, thumb_offset_exact, thumb_stack_exact, thumb_multiple_exact, thumb_branch_exact}
use Rattle.arm_words.proofs.Stages.{◌⨾◌}
use Rattle.asm_text.proofs.UnreadRows.{AllKept, exact_half, differs_half, kept, plain_kept}

-- shifts, sums and operations on a byte
pub thumb_sum_kept : AllKept thumb thumb_sum_rows
thumb_sum_kept =
    kept (part 11 5 ∷ []) refl refl (λ w h m o.
    let f9 = flag_again 9 w in
    let p = thumb_operand_again w in
    exact_half _ w _ refl (omega (arith, m, f9, p)) refl)
    ⨾ kept (part 13 3 ∷ []) refl refl (λ w h m o.
    let p = shift_again (w / 2 ^ 11 % 2 ^ 2) (omega arith) in
    exact_half _ w _ refl (omega (arith, m, p)) refl)
    ⨾ kept (part 13 3 ∷ []) refl refl (λ w h m o.
    let p = thumb_immediate_op_again (w / 2 ^ 11 % 2 ^ 2) (omega arith) in
    exact_half _ w _ refl (omega (arith, m, p)) refl)
    ⨾ tt

-- data processing, and what reaches the high registers
pub thumb_register_kept : AllKept thumb thumb_register_rows
thumb_register_kept =
    kept (part 10 6 ∷ []) refl refl (λ w h m o.
    let p = thumb_data_op_again (w / 2 ^ 6 % 2 ^ 4) (omega arith) in
    exact_half _ w _ refl (omega (arith, m, p)) refl)
    ⨾ kept (part 7 9 ∷ []) refl refl (λ w h m o.
    let u = masked w (part 0 3 ∷ []) refl in
    differs_half _ w _ _ _ refl refl (λ e. omega (arith, m, u, e)) (λ e. omega (arith, m, u, e)))
    ⨾ kept (part 7 9 ∷ []) refl refl (λ w h m o.
    let u = masked w (part 0 3 ∷ []) refl in
    differs_half _ w _ _ _ refl refl (λ e. omega (arith, m, u, e)) (λ e. omega (arith, m, u, e)))
    ⨾ kept (part 10 6 ∷ []) refl refl (λ w h m o.
    let p = high_op_again (w / 2 ^ 8 % 2 ^ 2) (lt_of (w / 2 ^ 8 % 2 ^ 2) 3 o) in
    exact_half _ w _ refl (omega (arith, m, p)) refl)
    ⨾ tt

-- transfers from the code, and with a register as offset
pub thumb_literal_kept : AllKept thumb thumb_literal_rows
thumb_literal_kept = plain_kept thumb thumb_literal_rows thumb_literal_exact ((λ w. refl) ⨾ (λ w. refl) ⨾ tt)

-- transfers with a number as offset
pub thumb_offset_kept : AllKept thumb thumb_offset_rows
thumb_offset_kept = plain_kept thumb thumb_offset_rows thumb_offset_exact ((λ w. refl) ⨾ (λ w. refl) ⨾ (λ w. refl) ⨾ tt)

-- addresses, the stack, and BKPT
pub thumb_stack_kept : AllKept thumb thumb_stack_rows
thumb_stack_kept = plain_kept thumb thumb_stack_rows thumb_stack_exact ((λ w. refl) ⨾ (λ w. refl) ⨾ (λ w. refl) ⨾ (λ w. refl) ⨾ tt)

-- transfers of several registers, SWI, and branches with a condition
pub thumb_multiple_kept : AllKept thumb thumb_multiple_rows
thumb_multiple_kept = plain_kept thumb thumb_multiple_rows thumb_multiple_exact ((λ w. refl) ⨾ (λ w. refl) ⨾ (λ w. refl) ⨾ tt)

-- branches, and the halves of long ones
pub thumb_branch_kept : AllKept thumb thumb_branch_rows
thumb_branch_kept = plain_kept thumb thumb_branch_rows thumb_branch_exact ((λ w. refl) ⨾ (λ w. refl) ⨾ (λ w. refl) ⨾ (λ w. refl) ⨾ tt)
