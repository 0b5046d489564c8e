use Rattle.std.proofs.Common.{ℕ, [], ◌∷◌, ◌≡◌, ◌/◌, ◌%◌, ◌^◌, ◌==◌, refl, ap, arith}
use Rattle.ds_base.proofs.Choices.{equal}
use Rattle.arm_words.specs.ArmTable.{at16, at12, at8, at0, branch_rows}
use Rattle.arm_words.proofs.Masks.{part}
use Rattle.arm_words.proofs.Names.{condition_again, flag_again}
use Rattle.arm_words.proofs.Digits.{arm, respell, common}
use Rattle.arm_words.proofs.Stages.{AllSound, ◌⨾◌, sound}

-- branches to a register, BKPT, CLZ and the saturating sums
pub branch_sound : AllSound arm branch_rows
branch_sound =
    sound (part 20 8 ∷ (part 4 4 ∷ [])) refl refl (λ w v n. let h = n.high in let l = n.low in omega arith) (λ w v n. refl) (λ w h m o.
    let c = condition_again (w / 2 ^ 28) h in
    respell _ w 15 15 15 (at0 w) _ (omega arith) (omega arith) (omega arith) (omega arith) refl (omega (arith, c, m))
    (λ v c r. cc) (omega arith))
    ⨾ sound (part 20 8 ∷ (part 4 4 ∷ [])) refl refl (λ w v n. let h = n.high in let l = n.low in omega arith) (λ w v n. refl) (λ w h m o.
    let c = condition_again (w / 2 ^ 28) h in
    respell _ w 15 15 15 (at0 w) _ (omega arith) (omega arith) (omega arith) (omega arith) refl (omega (arith, c, m))
    (λ v c r. cc) (omega arith))
    ⨾ sound (part 20 8 ∷ (part 4 4 ∷ [])) refl refl (λ w v n. let h = n.high in let l = n.low in omega arith)
    (λ w v n. let c = common w v n in ap (λ (x : ℕ). x == 14) c.top4) (λ w h m o.
    let c : w / 2 ^ 28 ≡ 14 = equal (w / 2 ^ 28) 14 o in
    respell _ w (at16 w) (at12 w) (at8 w) (at0 w) _ (omega arith) (omega arith) (omega arith) (omega arith) refl (omega (arith, c, m))
    (λ v c r. let e : v / 2 ^ 8 % 2 ^ 12 ≡ w / 2 ^ 8 % 2 ^ 12 = omega arith in cc) (omega arith))
    ⨾ sound (part 20 8 ∷ (part 4 4 ∷ [])) refl refl (λ w v n. let h = n.high in let l = n.low in omega arith) (λ w v n. refl) (λ w h m o.
    let c = condition_again (w / 2 ^ 28) h in
    respell _ w 15 (at12 w) 15 (at0 w) _ (omega arith) (omega arith) (omega arith) (omega arith) refl (omega (arith, c, m))
    (λ v c r. cc) (omega arith, omega arith))
    ⨾ sound (part 23 5 ∷ (part 20 1 ∷ (part 4 4 ∷ []))) refl refl (λ w v n. let h = n.high in let l = n.low in omega arith) (λ w v n. refl)
    (λ w h m o.
    let c = condition_again (w / 2 ^ 28) h in
    let f22 = flag_again 22 w in
    let f21 = flag_again 21 w in
    respell _ w (at16 w) (at12 w) 0 (at0 w) _ (omega arith) (omega arith) (omega arith) (omega arith) refl (omega (arith, c, m, f22, f21))
    (λ v c r. cc) (omega arith, omega arith, omega arith))
    ⨾ tt
