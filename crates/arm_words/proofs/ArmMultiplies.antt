use Rattle.std.proofs.Common.{ℕ, [], ◌∷◌, ◌||◌, ◌≡◌, ◌/◌, ◌^◌, ◌==◌, nat_lt, refl, ap, arith}
use Rattle.arm_words.specs.ArmTable.{at16, at12, at8, at0, half_number, half_multiply_rows, half_product_rows, multiply_rows, half_transfer_rows}
use Rattle.arm_words.proofs.Masks.{part}
use Rattle.arm_words.proofs.Names.{condition_again, flag_again, half_op_again}
use Rattle.arm_words.proofs.Digits.{arm, respell, common}
use Rattle.arm_words.proofs.PartLaws.{short_digit, short_digit_below, short_offset_again, short_offset_same, short_offset_fields}
use Rattle.arm_words.proofs.Stages.{AllSound, ◌⨾◌, sound}

-- multiplies of halves
pub half_multiply_sound : AllSound arm half_multiply_rows
half_multiply_sound =
    sound (part 20 8 ∷ (part 7 1 ∷ (part 4 1 ∷ []))) refl refl (λ w v n. let h = n.high in let l = n.low in omega arith) (λ w v n. refl) (λ w h m o.
    let c = condition_again (w / 2 ^ 28) h in
    let f5 = flag_again 5 w in
    let f6 = flag_again 6 w in
    respell _ w (at16 w) (at12 w) (at8 w) (at0 w) _ (omega arith) (omega arith) (omega arith) (omega arith) refl (omega (arith, c, m, f5, f6))
    (λ v c r. cc) (omega arith, omega arith, omega arith, omega arith))
    ⨾ sound (part 20 8 ∷ (part 7 1 ∷ (part 4 2 ∷ []))) refl refl (λ w v n. let h = n.high in let l = n.low in omega arith) (λ w v n. refl) (λ w h m o.
    let c = condition_again (w / 2 ^ 28) h in
    let f6 = flag_again 6 w in
    respell _ w (at16 w) (at12 w) (at8 w) (at0 w) _ (omega arith) (omega arith) (omega arith) (omega arith) refl (omega (arith, c, m, f6))
    (λ v c r. cc) (omega arith, omega arith, omega arith, omega arith))
    ⨾ sound (part 20 8 ∷ (part 7 1 ∷ (part 4 2 ∷ []))) refl refl (λ w v n. let h = n.high in let l = n.low in omega arith) (λ w v n. refl) (λ w h m o.
    let c = condition_again (w / 2 ^ 28) h in
    let f6 = flag_again 6 w in
    respell _ w (at16 w) 0 (at8 w) (at0 w) _ (omega arith) (omega arith) (omega arith) (omega arith) refl (omega (arith, c, m, f6))
    (λ v c r. cc) (omega arith, omega arith, omega arith))
    ⨾ tt

-- the other multiplies of halves
pub half_product_sound : AllSound arm half_product_rows
half_product_sound =
    sound (part 20 8 ∷ (part 7 1 ∷ (part 4 1 ∷ []))) refl refl (λ w v n. let h = n.high in let l = n.low in omega arith) (λ w v n. refl) (λ w h m o.
    let c = condition_again (w / 2 ^ 28) h in
    let f5 = flag_again 5 w in
    let f6 = flag_again 6 w in
    respell _ w (at16 w) (at12 w) (at8 w) (at0 w) _ (omega arith) (omega arith) (omega arith) (omega arith) refl (omega (arith, c, m, f5, f6))
    (λ v c r. cc) (omega arith, omega arith, omega arith, omega arith))
    ⨾ sound (part 20 8 ∷ (part 7 1 ∷ (part 4 1 ∷ []))) refl refl (λ w v n. let h = n.high in let l = n.low in omega arith) (λ w v n. refl) (λ w h m o.
    let c = condition_again (w / 2 ^ 28) h in
    let f5 = flag_again 5 w in
    let f6 = flag_again 6 w in
    respell _ w (at16 w) 0 (at8 w) (at0 w) _ (omega arith) (omega arith) (omega arith) (omega arith) refl (omega (arith, c, m, f5, f6))
    (λ v c r. cc) (omega arith, omega arith, omega arith))
    ⨾ tt

-- multiplies of words
pub multiply_sound : AllSound arm multiply_rows
multiply_sound =
    sound (part 21 7 ∷ (part 4 4 ∷ [])) refl refl (λ w v n. let h = n.high in let l = n.low in omega arith) (λ w v n. refl) (λ w h m o.
    let c = condition_again (w / 2 ^ 28) h in
    let f20 = flag_again 20 w in
    respell _ w (at16 w) 0 (at8 w) (at0 w) _ (omega arith) (omega arith) (omega arith) (omega arith) refl (omega (arith, c, m, f20))
    (λ v c r. cc) (omega arith, omega arith, omega arith))
    ⨾ sound (part 21 7 ∷ (part 4 4 ∷ [])) refl refl (λ w v n. let h = n.high in let l = n.low in omega arith) (λ w v n. refl) (λ w h m o.
    let c = condition_again (w / 2 ^ 28) h in
    let f20 = flag_again 20 w in
    respell _ w (at16 w) (at12 w) (at8 w) (at0 w) _ (omega arith) (omega arith) (omega arith) (omega arith) refl (omega (arith, c, m, f20))
    (λ v c r. cc) (omega arith, omega arith, omega arith, omega arith))
    ⨾ sound (part 23 5 ∷ (part 4 4 ∷ [])) refl refl (λ w v n. let h = n.high in let l = n.low in omega arith) (λ w v n. refl) (λ w h m o.
    let c = condition_again (w / 2 ^ 28) h in
    let f22 = flag_again 22 w in
    let f21 = flag_again 21 w in
    let f20 = flag_again 20 w in
    respell _ w (at16 w) (at12 w) (at8 w) (at0 w) _ (omega arith) (omega arith) (omega arith) (omega arith) refl (omega (arith, c, m, f22, f21, f20))
    (λ v c r. cc) (omega arith, omega arith, omega arith, omega arith))
    ⨾ tt

-- swaps, and transfers of a half or of a signed byte
pub half_transfer_sound : AllSound arm half_transfer_rows
half_transfer_sound =
    sound (part 23 5 ∷ (part 20 2 ∷ (part 4 4 ∷ []))) refl refl (λ w v n. let h = n.high in let l = n.low in omega arith) (λ w v n. refl) (λ w h m o.
    let c = condition_again (w / 2 ^ 28) h in
    let f22 = flag_again 22 w in
    respell _ w (at16 w) (at12 w) 0 (at0 w) _ (omega arith) (omega arith) (omega arith) (omega arith) refl (omega (arith, c, m, f22))
    (λ v c r. cc) (omega arith, omega arith, omega arith))
    ⨾ sound (part 25 3 ∷ (part 7 1 ∷ (part 4 1 ∷ []))) refl refl (λ w v n. let h = n.high in let l = n.low in omega arith)
    (λ w v n. let c = common w v n in let e : half_number v ≡ half_number w = cc in ap (λ (x : ℕ). x == 1 || nat_lt 4 x) e) (λ w h m o.
    let c = condition_again (w / 2 ^ 28) h in
    let f24 = flag_again 24 w in
    let f23 = flag_again 23 w in
    let f21 = flag_again 21 w in
    let p = half_op_again (half_number w) (omega arith) o in
    let q = short_offset_again w in
    respell _ w (at16 w) (at12 w) (short_digit w) (at0 w) _ (omega arith) (omega arith) (short_digit_below w) (omega arith) refl
    (omega (arith, c, m, f24, f23, f21, p, q))
    (λ v c r. let e : half_number v ≡ half_number w = cc in let s = short_offset_same w v c.bit22 r.at8 r.at0 in cc)
    (omega arith, omega arith, short_offset_fields w))
    ⨾ tt
