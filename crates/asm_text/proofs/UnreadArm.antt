-- The rows of the ARM table keep the bits that they don't look at as the manual has them.
use Rattle.asm_text.proofs.Words.{◌≡◌, ◌/◌, ◌%◌, ◌^◌, [], ◌∷◌, refl, arith, equal, arm, unconditional, masked, part, flag_again, branch_rows}
use Rattle.asm_text.proofs.Words.{half_multiply_rows, half_product_rows, multiply_rows, half_transfer_rows, status_register_rows}
use Rattle.asm_text.proofs.Words.{immediate_status_rows, data_rows, double_rows, transfer_rows, multiple_rows, coprocessor_rows, unconditional_rows}
use Rattle.arm_words.proofs.ArmTransfers.{transfer_exact, multiple_exact, coprocessor_exact, unconditional_exact}
use Rattle.arm_words.proofs.Names.{condition_again, compare_op_again, move_op_again, data_op_again, half_op_again}
use Rattle.arm_words.proofs.PartLaws.{field_mask_again, operand_again, result_number, result_operand, short_offset_again}
use Rattle.arm_words.specs.ArmTable.{half_number}
use Rattle.arm_words.proofs.Stages.{◌⨾◌}
use Rattle.asm_text.proofs.UnreadRows.{AllKept, exact_word, differs, short_keeps, kept, plain_kept}

-- branches to a register, BKPT, CLZ and the saturating sums
pub branch_kept : AllKept arm branch_rows
branch_kept =
    kept (part 20 8 ∷ (part 4 4 ∷ [])) refl refl (λ w h m o.
    let c = condition_again (w / 2 ^ 28) h in
    let u = masked w (part 8 12 ∷ []) refl in
    differs _ w _ _ _ refl refl (λ e. omega (arith, m, u, c, e)) (λ e. omega (arith, m, u, c, e)))
    ⨾ kept (part 20 8 ∷ (part 4 4 ∷ [])) refl refl (λ w h m o.
    let c = condition_again (w / 2 ^ 28) h in
    let u = masked w (part 8 12 ∷ []) refl in
    differs _ w _ _ _ refl refl (λ e. omega (arith, m, u, c, e)) (λ e. omega (arith, m, u, c, e)))
    ⨾ kept (part 20 8 ∷ (part 4 4 ∷ [])) refl refl (λ w h m o.
    let c : w / 2 ^ 28 ≡ 14 = equal (w / 2 ^ 28) 14 o in
    exact_word _ w _ refl (omega (arith, m, c)) refl)
    ⨾ kept (part 20 8 ∷ (part 4 4 ∷ [])) refl refl (λ w h m o.
    let c = condition_again (w / 2 ^ 28) h in
    let u = masked w (part 16 4 ∷ (part 8 4 ∷ [])) refl in
    differs _ w _ _ _ refl refl (λ e. omega (arith, m, u, c, e)) (λ e. omega (arith, m, u, c, e)))
    ⨾ kept (part 23 5 ∷ (part 20 1 ∷ (part 4 4 ∷ []))) refl refl (λ w h m o.
    let c = condition_again (w / 2 ^ 28) h in
    let f22 = flag_again 22 w in
    let f21 = flag_again 21 w in
    let u = masked w (part 8 4 ∷ []) refl in
    differs _ w _ _ _ refl refl (λ e. omega (arith, m, u, c, f22, f21, e)) (λ e. omega (arith, m, u, c, f22, f21, e)))
    ⨾ tt

-- multiplies of halves
pub half_multiply_kept : AllKept arm half_multiply_rows
half_multiply_kept =
    kept (part 20 8 ∷ (part 7 1 ∷ (part 4 1 ∷ []))) refl refl (λ w h m o.
    let c = condition_again (w / 2 ^ 28) h in
    let f5 = flag_again 5 w in
    let f6 = flag_again 6 w in
    exact_word _ w _ refl (omega (arith, m, c, f5, f6)) refl)
    ⨾ kept (part 20 8 ∷ (part 7 1 ∷ (part 4 2 ∷ []))) refl refl (λ w h m o.
    let c = condition_again (w / 2 ^ 28) h in
    let f6 = flag_again 6 w in
    exact_word _ w _ refl (omega (arith, m, c, f6)) refl)
    ⨾ kept (part 20 8 ∷ (part 7 1 ∷ (part 4 2 ∷ []))) refl refl (λ w h m o.
    let c = condition_again (w / 2 ^ 28) h in
    let f6 = flag_again 6 w in
    let u = masked w (part 12 4 ∷ []) refl in
    differs _ w _ _ _ refl refl (λ e. omega (arith, m, u, c, f6, e)) (λ e. omega (arith, m, u, c, f6, e)))
    ⨾ tt

-- the other multiplies of halves
pub half_product_kept : AllKept arm half_product_rows
half_product_kept =
    kept (part 20 8 ∷ (part 7 1 ∷ (part 4 1 ∷ []))) refl refl (λ w h m o.
    let c = condition_again (w / 2 ^ 28) h in
    let f5 = flag_again 5 w in
    let f6 = flag_again 6 w in
    exact_word _ w _ refl (omega (arith, m, c, f5, f6)) refl)
    ⨾ kept (part 20 8 ∷ (part 7 1 ∷ (part 4 1 ∷ []))) refl refl (λ w h m o.
    let c = condition_again (w / 2 ^ 28) h in
    let f5 = flag_again 5 w in
    let f6 = flag_again 6 w in
    let u = masked w (part 12 4 ∷ []) refl in
    differs _ w _ _ _ refl refl (λ e. omega (arith, m, u, c, f5, f6, e)) (λ e. omega (arith, m, u, c, f5, f6, e)))
    ⨾ tt

-- multiplies of words
pub multiply_kept : AllKept arm multiply_rows
multiply_kept =
    kept (part 21 7 ∷ (part 4 4 ∷ [])) refl refl (λ w h m o.
    let c = condition_again (w / 2 ^ 28) h in
    let f20 = flag_again 20 w in
    let u = masked w (part 12 4 ∷ []) refl in
    differs _ w _ _ _ refl refl (λ e. omega (arith, m, u, c, f20, e)) (λ e. omega (arith, m, u, c, f20, e)))
    ⨾ kept (part 21 7 ∷ (part 4 4 ∷ [])) refl refl (λ w h m o.
    let c = condition_again (w / 2 ^ 28) h in
    let f20 = flag_again 20 w in
    exact_word _ w _ refl (omega (arith, m, c, f20)) refl)
    ⨾ kept (part 23 5 ∷ (part 4 4 ∷ [])) refl refl (λ w h m o.
    let c = condition_again (w / 2 ^ 28) h in
    let f22 = flag_again 22 w in
    let f21 = flag_again 21 w in
    let f20 = flag_again 20 w in
    exact_word _ w _ refl (omega (arith, m, c, f22, f21, f20)) refl)
    ⨾ tt

-- swaps, and transfers of a half or of a signed byte
pub half_transfer_kept : AllKept arm half_transfer_rows
half_transfer_kept =
    kept (part 23 5 ∷ (part 20 2 ∷ (part 4 4 ∷ []))) refl refl (λ w h m o.
    let c = condition_again (w / 2 ^ 28) h in
    let f22 = flag_again 22 w in
    let u = masked w (part 8 4 ∷ []) refl in
    differs _ w _ _ _ refl refl (λ e. omega (arith, m, u, c, f22, e)) (λ e. omega (arith, m, u, c, f22, e)))
    ⨾ kept (part 25 3 ∷ (part 7 1 ∷ (part 4 1 ∷ []))) refl refl (λ w h m o.
    let c = condition_again (w / 2 ^ 28) h in
    let f24 = flag_again 24 w in
    let f23 = flag_again 23 w in
    let f21 = flag_again 21 w in
    let p = half_op_again (half_number w) (omega arith) o in
    (let q = short_offset_again w in short_keeps _ w _ refl refl (omega (arith, c, m, f24, f23, f21, p, q))))
    ⨾ tt

-- status registers
pub status_kept : AllKept arm status_register_rows
status_kept =
    kept (part 23 5 ∷ (part 20 2 ∷ (part 4 4 ∷ []))) refl refl (λ w h m o.
    let c = condition_again (w / 2 ^ 28) h in
    let f22 = flag_again 22 w in
    let u = masked w (part 16 4 ∷ (part 8 4 ∷ (part 0 4 ∷ []))) refl in
    differs _ w _ _ _ refl refl (λ e. omega (arith, m, u, c, f22, e)) (λ e. omega (arith, m, u, c, f22, e)))
    ⨾ kept (part 23 5 ∷ (part 20 2 ∷ (part 4 4 ∷ []))) refl refl (λ w h m o.
    let c = condition_again (w / 2 ^ 28) h in
    let f22 = flag_again 22 w in
    let p = field_mask_again w in
    let u = masked w (part 8 8 ∷ []) refl in
    differs _ w _ _ _ refl refl (λ e. omega (arith, m, u, c, f22, p, e)) (λ e. omega (arith, m, u, c, f22, p, e)))
    ⨾ tt

-- status registers, with a number
pub immediate_status_kept : AllKept arm immediate_status_rows
immediate_status_kept =
    kept (part 23 5 ∷ (part 20 2 ∷ [])) refl refl (λ w h m o.
    let c = condition_again (w / 2 ^ 28) h in
    let f22 = flag_again 22 w in
    let p = field_mask_again w in
    let u = masked w (part 12 4 ∷ []) refl in
    differs _ w _ _ _ refl refl (λ e. omega (arith, m, u, c, f22, p, e)) (λ e. omega (arith, m, u, c, f22, p, e)))
    ⨾ tt

-- data processing
pub data_kept : AllKept arm data_rows
data_kept =
    kept (part 26 2 ∷ (part 23 2 ∷ (part 20 1 ∷ []))) refl refl (λ w h m o.
    let c = condition_again (w / 2 ^ 28) h in
    let p = operand_again w o in
    let q = compare_op_again (w / 2 ^ 21 % 2 ^ 2) (omega arith) in
    let u = masked w (part 12 4 ∷ []) refl in
    differs _ w _ _ _ refl refl (λ e. omega (arith, m, u, c, p, q, e)) (λ e. omega (arith, m, u, c, p, q, e)))
    ⨾ kept (part 26 2 ∷ (part 23 2 ∷ (part 21 1 ∷ []))) refl refl (λ w h m o.
    let c = condition_again (w / 2 ^ 28) h in
    let f20 = flag_again 20 w in
    let p = operand_again w o in
    let q = move_op_again (w / 2 ^ 22 % 2 ^ 1) (omega arith) in
    let u = masked w (part 16 4 ∷ []) refl in
    differs _ w _ _ _ refl refl (λ e. omega (arith, m, u, c, f20, p, q, e)) (λ e. omega (arith, m, u, c, f20, p, q, e)))
    ⨾ kept (part 26 2 ∷ []) refl refl (λ w h m o.
    let c = condition_again (w / 2 ^ 28) h in
    let f20 = flag_again 20 w in
    let p = operand_again w (result_operand w o) in
    let q = data_op_again (w / 2 ^ 21 % 2 ^ 4) (omega arith) (result_number w o) in
    exact_word _ w _ refl (omega (arith, m, c, f20, p, q)) refl)
    ⨾ tt

-- transfers of two words
pub double_kept : AllKept arm double_rows
double_kept =
    kept (part 25 3 ∷ (part 20 1 ∷ (part 6 2 ∷ (part 4 1 ∷ [])))) refl refl (λ w h m o.
    let c = condition_again (w / 2 ^ 28) h in
    let f24 = flag_again 24 w in
    let f23 = flag_again 23 w in
    let f21 = flag_again 21 w in
    let f5 = flag_again 5 w in
    (let q = short_offset_again w in short_keeps _ w _ refl refl (omega (arith, c, m, f24, f23, f21, f5, q))))
    ⨾ tt

-- transfers of words and bytes
pub transfer_kept : AllKept arm transfer_rows
transfer_kept = plain_kept arm transfer_rows transfer_exact ((λ w. refl) ⨾ tt)

-- transfers of several registers, and branches
pub multiple_kept : AllKept arm multiple_rows
multiple_kept = plain_kept arm multiple_rows multiple_exact ((λ w. refl) ⨾ (λ w. refl) ⨾ tt)

-- coprocessors and SWI
pub coprocessor_kept : AllKept arm coprocessor_rows
coprocessor_kept = plain_kept arm coprocessor_rows coprocessor_exact ((λ w. refl) ⨾ (λ w. refl) ⨾ tt)

-- words whose top four bits are 1111
pub unconditional_kept : AllKept unconditional unconditional_rows
unconditional_kept = plain_kept unconditional unconditional_rows unconditional_exact ((λ w. refl) ⨾ (λ w. refl) ⨾ (λ w. refl) ⨾ tt)
