use Rattle.std.proofs.Common.{[], ◌∷◌, ◌≡◌, ◌/◌, ◌%◌, ◌^◌, refl, arith}
use Rattle.arm_words.specs.ArmTable.{at16, at12, at8, at0, status_register_rows, immediate_status_rows, data_rows}
use Rattle.arm_words.proofs.Masks.{part}
use Rattle.arm_words.proofs.Names.{condition_again, flag_again, compare_op_again, move_op_again, data_op_again}
use Rattle.arm_words.proofs.Digits.{arm, respell, common}
use Rattle.arm_words.proofs.PartLaws.{field_mask_again, field_mask_same, operand_again, operand_same, operand_fields, operand_blind, result_blind, result_operand, result_number}
use Rattle.arm_words.proofs.Stages.{AllSound, ◌⨾◌, sound}

-- status registers
pub status_sound : AllSound arm status_register_rows
status_sound =
    sound (part 23 5 ∷ (part 20 2 ∷ (part 4 4 ∷ []))) refl refl (λ w v n. let h = n.high in let l = n.low in omega arith) (λ w v n. refl) (λ w h m o.
    let c = condition_again (w / 2 ^ 28) h in
    let f22 = flag_again 22 w in
    respell _ w 15 (at12 w) 0 0 _ (omega arith) (omega arith) (omega arith) (omega arith) refl (omega (arith, c, m, f22))
    (λ v c r. cc) (omega arith))
    ⨾ sound (part 23 5 ∷ (part 20 2 ∷ (part 4 4 ∷ []))) refl refl (λ w v n. let h = n.high in let l = n.low in omega arith) (λ w v n. refl)
    (λ w h m o.
    let c = condition_again (w / 2 ^ 28) h in
    let f22 = flag_again 22 w in
    let p = field_mask_again w in
    respell _ w (at16 w) 15 0 (at0 w) _ (omega arith) (omega arith) (omega arith) (omega arith) refl (omega (arith, c, m, f22, p))
    (λ v c r. let p = field_mask_same w v r.at16 in cc) (omega arith))
    ⨾ tt

-- status registers, with a number
pub immediate_status_sound : AllSound arm immediate_status_rows
immediate_status_sound =
    sound (part 23 5 ∷ (part 20 2 ∷ [])) refl refl (λ w v n. let h = n.high in let l = n.low in omega arith) (λ w v n. refl) (λ w h m o.
    let c = condition_again (w / 2 ^ 28) h in
    let f22 = flag_again 22 w in
    let p = field_mask_again w in
    respell _ w (at16 w) 15 (at8 w) (at0 w) _ (omega arith) (omega arith) (omega arith) (omega arith) refl (omega (arith, c, m, f22, p))
    (λ v c r. let p = field_mask_same w v r.at16 in let e : v / 2 ^ 0 % 2 ^ 8 ≡ w / 2 ^ 0 % 2 ^ 8 = omega arith in cc) (omega arith, omega arith))
    ⨾ tt

-- data processing
pub data_sound : AllSound arm data_rows
data_sound =
    sound (part 26 2 ∷ (part 23 2 ∷ (part 20 1 ∷ []))) refl refl (λ w v n. let h = n.high in let l = n.low in omega arith)
    (λ w v n. let c = common w v n in operand_blind w v c.bit25 c.bit7 c.bit4) (λ w h m o.
    let c = condition_again (w / 2 ^ 28) h in
    let p = operand_again w o in
    let q = compare_op_again (w / 2 ^ 21 % 2 ^ 2) (omega arith) in
    respell _ w (at16 w) 0 (at8 w) (at0 w) _ (omega arith) (omega arith) (omega arith) (omega arith) refl (omega (arith, c, m, p, q))
    (λ v c r. let e : v % 2 ^ 12 ≡ w % 2 ^ 12 = omega arith in let p = operand_same w v c.bit25 e in cc) (omega arith, operand_fields w))
    ⨾ sound (part 26 2 ∷ (part 23 2 ∷ (part 21 1 ∷ []))) refl refl (λ w v n. let h = n.high in let l = n.low in omega arith)
    (λ w v n. let c = common w v n in operand_blind w v c.bit25 c.bit7 c.bit4) (λ w h m o.
    let c = condition_again (w / 2 ^ 28) h in
    let f20 = flag_again 20 w in
    let p = operand_again w o in
    let q = move_op_again (w / 2 ^ 22 % 2 ^ 1) (omega arith) in
    respell _ w 0 (at12 w) (at8 w) (at0 w) _ (omega arith) (omega arith) (omega arith) (omega arith) refl (omega (arith, c, m, f20, p, q))
    (λ v c r. let e : v % 2 ^ 12 ≡ w % 2 ^ 12 = omega arith in let p = operand_same w v c.bit25 e in cc) (omega arith, operand_fields w))
    ⨾ sound (part 26 2 ∷ []) refl refl (λ w v n. let h = n.high in let l = n.low in omega arith)
    (λ w v n. let c = common w v n in result_blind w v (operand_blind w v c.bit25 c.bit7 c.bit4) c.op4) (λ w h m o.
    let c = condition_again (w / 2 ^ 28) h in
    let f20 = flag_again 20 w in
    let p = operand_again w (result_operand w o) in
    let q = data_op_again (w / 2 ^ 21 % 2 ^ 4) (omega arith) (result_number w o) in
    respell _ w (at16 w) (at12 w) (at8 w) (at0 w) _ (omega arith) (omega arith) (omega arith) (omega arith) refl (omega (arith, c, m, f20, p, q))
    (λ v c r. let e : v % 2 ^ 12 ≡ w % 2 ^ 12 = omega arith in let p = operand_same w v c.bit25 e in cc) (omega arith, omega arith, operand_fields w))
    ⨾ tt
