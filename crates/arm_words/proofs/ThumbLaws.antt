use Rattle.std.proofs.Common.{ℕ, [], ◌∷◌, ◌≡◌, ◌/◌, ◌%◌, ◌^◌, nat_lt, refl, ap, arith}
use Rattle.ds_base.proofs.Choices.{lt_of}
use Rattle.arm_words.specs.ThumbTable.{thumb_sum_rows, thumb_register_rows, thumb_literal_rows, thumb_offset_rows, thumb_stack_rows, thumb_multiple_rows, thumb_branch_rows}
use Rattle.arm_words.proofs.Masks.{part}
use Rattle.arm_words.proofs.Names.{condition_again, flag_again, shift_again, thumb_data_op_again, thumb_transfer_op_again, thumb_immediate_op_again, high_op_again}
use Rattle.arm_words.proofs.Halves.{thumb, respell_half, respell_zeros, half_is}
use Rattle.arm_words.proofs.PartLaws.{thumb_operand_again, thumb_operand_fields}
use Rattle.arm_words.proofs.Stages.{AllSound, AllExact, ◌⨾◌, sound, exact}

-- shifts, sums and operations on a byte
pub thumb_sum_sound : AllSound thumb thumb_sum_rows
thumb_sum_sound =
    sound (part 11 5 ∷ []) refl refl (λ w v n. let h = n.high in omega arith) (λ w v n. refl) (λ w h m o.
    let f9 = flag_again 9 w in
    let p = thumb_operand_again w in
    respell_half _ w _ refl (omega (arith, m, f9, p)) (thumb_operand_fields w, omega arith, omega arith))
    ⨾ sound (part 13 3 ∷ []) refl refl (λ w v n. let h = n.high in omega arith) (λ w v n. refl) (λ w h m o.
    let p = shift_again (w / 2 ^ 11 % 2 ^ 2) (omega arith) in
    respell_half _ w _ refl (omega (arith, m, p)) (omega arith, omega arith, omega arith))
    ⨾ sound (part 13 3 ∷ []) refl refl (λ w v n. let h = n.high in omega arith) (λ w v n. refl) (λ w h m o.
    let p = thumb_immediate_op_again (w / 2 ^ 11 % 2 ^ 2) (omega arith) in
    respell_half _ w _ refl (omega (arith, m, p)) (omega arith, omega arith))
    ⨾ tt

-- data processing, and what reaches the high registers
pub thumb_register_sound : AllSound thumb thumb_register_rows
thumb_register_sound =
    sound (part 10 6 ∷ []) refl refl (λ w v n. let h = n.high in omega arith) (λ w v n. refl) (λ w h m o.
    let p = thumb_data_op_again (w / 2 ^ 6 % 2 ^ 4) (omega arith) in
    respell_half _ w _ refl (omega (arith, m, p)) (omega arith, omega arith))
    ⨾ sound (part 7 9 ∷ []) refl refl (λ w v n. let h = n.high in omega arith) (λ w v n. refl)
    (λ w h m o. respell_zeros _ w _ refl (omega (arith, m)) (λ v e. cc) (omega arith))
    ⨾ sound (part 7 9 ∷ []) refl refl (λ w v n. let h = n.high in omega arith) (λ w v n. refl)
    (λ w h m o. respell_zeros _ w _ refl (omega (arith, m)) (λ v e. cc) (omega arith))
    ⨾ sound (part 10 6 ∷ []) refl refl (λ w v n. let h = n.high in omega arith)
    (λ w v n. let h = n.high in let e : v / 2 ^ 8 % 2 ^ 2 ≡ w / 2 ^ 8 % 2 ^ 2 = omega arith in ap (λ (x : ℕ). nat_lt x 3) e) (λ w h m o.
    let p = high_op_again (w / 2 ^ 8 % 2 ^ 2) (lt_of (w / 2 ^ 8 % 2 ^ 2) 3 o) in
    respell_half _ w _ refl (omega (arith, m, p)) (omega arith, omega arith))
    ⨾ tt

-- transfers from the code, and with a register as offset
pub thumb_literal_exact : AllExact thumb thumb_literal_rows
thumb_literal_exact =
    exact (part 11 5 ∷ []) refl refl (λ w h m o.
    half_is _ _ (omega (arith, m))) (λ w h m o. (omega arith, omega arith))
    ⨾ exact (part 12 4 ∷ []) refl refl (λ w h m o.
    let p = thumb_transfer_op_again (w / 2 ^ 9 % 2 ^ 3) (omega arith) in
    half_is _ _ (omega (arith, m, p))) (λ w h m o. (omega arith, omega arith, omega arith))
    ⨾ tt

-- transfers with a number as offset
pub thumb_offset_exact : AllExact thumb thumb_offset_rows
thumb_offset_exact =
    exact (part 13 3 ∷ []) refl refl (λ w h m o.
    let f12 = flag_again 12 w in
    let f11 = flag_again 11 w in
    half_is _ _ (omega (arith, m, f12, f11))) (λ w h m o. (omega arith, omega arith, omega arith))
    ⨾ exact (part 12 4 ∷ []) refl refl (λ w h m o.
    let f11 = flag_again 11 w in
    half_is _ _ (omega (arith, m, f11))) (λ w h m o. (omega arith, omega arith, omega arith))
    ⨾ exact (part 12 4 ∷ []) refl refl (λ w h m o.
    let f11 = flag_again 11 w in
    half_is _ _ (omega (arith, m, f11))) (λ w h m o. (omega arith, omega arith))
    ⨾ tt

-- addresses, the stack, and BKPT
pub thumb_stack_exact : AllExact thumb thumb_stack_rows
thumb_stack_exact =
    exact (part 12 4 ∷ []) refl refl (λ w h m o.
    let f11 = flag_again 11 w in
    half_is _ _ (omega (arith, m, f11))) (λ w h m o. (omega arith, omega arith))
    ⨾ exact (part 8 8 ∷ []) refl refl (λ w h m o.
    let f7 = flag_again 7 w in
    half_is _ _ (omega (arith, m, f7))) (λ w h m o. (omega arith))
    ⨾ exact (part 12 4 ∷ (part 9 2 ∷ [])) refl refl (λ w h m o.
    let f11 = flag_again 11 w in
    let f8 = flag_again 8 w in
    half_is _ _ (omega (arith, m, f11, f8))) (λ w h m o. (omega arith))
    ⨾ exact (part 8 8 ∷ []) refl refl (λ w h m o.
    half_is _ _ (omega (arith, m))) (λ w h m o. (omega arith))
    ⨾ tt

-- transfers of several registers, SWI, and branches with a condition
pub thumb_multiple_exact : AllExact thumb thumb_multiple_rows
thumb_multiple_exact =
    exact (part 12 4 ∷ []) refl refl (λ w h m o.
    let f11 = flag_again 11 w in
    half_is _ _ (omega (arith, m, f11))) (λ w h m o. (omega arith, omega arith))
    ⨾ exact (part 8 8 ∷ []) refl refl (λ w h m o.
    half_is _ _ (omega (arith, m))) (λ w h m o. (omega arith))
    ⨾ exact (part 12 4 ∷ []) refl refl (λ w h m o.
    let t = lt_of (w / 2 ^ 8 % 2 ^ 4) 14 o in
    let p = condition_again (w / 2 ^ 8 % 2 ^ 4) (omega arith) in
    half_is _ _ (omega (arith, m, p))) (λ w h m o. (let t = lt_of (w / 2 ^ 8 % 2 ^ 4) 14 o in let p = condition_again (w / 2 ^ 8 % 2 ^ 4)
    (omega arith) in (omega (arith, p), omega arith)))
    ⨾ tt

-- branches, and the halves of long ones
pub thumb_branch_exact : AllExact thumb thumb_branch_rows
thumb_branch_exact =
    exact (part 11 5 ∷ []) refl refl (λ w h m o.
    half_is _ _ (omega (arith, m))) (λ w h m o. (omega arith))
    ⨾ exact (part 11 5 ∷ (part 0 1 ∷ [])) refl refl (λ w h m o.
    half_is _ _ (omega (arith, m))) (λ w h m o. (omega arith, omega (arith, m)))
    ⨾ exact (part 11 5 ∷ []) refl refl (λ w h m o.
    half_is _ _ (omega (arith, m))) (λ w h m o. (omega arith))
    ⨾ exact (part 11 5 ∷ []) refl refl (λ w h m o.
    half_is _ _ (omega (arith, m))) (λ w h m o. (omega arith))
    ⨾ tt
