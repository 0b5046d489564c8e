use Rattle.std.proofs.Common.{[], ◌∷◌, ◌/◌, ◌^◌, refl, arith}
use Rattle.arm_words.specs.ArmTable.{transfer_rows, multiple_rows, coprocessor_rows, unconditional_rows}
use Rattle.arm_words.proofs.Masks.{part}
use Rattle.arm_words.proofs.Names.{condition_again, flag_again}
use Rattle.arm_words.proofs.Digits.{arm, unconditional, word_is}
use Rattle.arm_words.proofs.PartLaws.{offset_again, offset_fields}
use Rattle.arm_words.proofs.Stages.{AllExact, ◌⨾◌, exact}

-- transfers of words and bytes
pub transfer_exact : AllExact arm transfer_rows
transfer_exact =
    exact (part 26 2 ∷ []) refl refl (λ w h m o.
    let c = condition_again (w / 2 ^ 28) h in
    let f24 = flag_again 24 w in
    let f23 = flag_again 23 w in
    let f22 = flag_again 22 w in
    let f21 = flag_again 21 w in
    let f20 = flag_again 20 w in
    let p = offset_again w o in
    word_is _ _ (omega (arith, c, m, f24, f23, f22, f21, f20, p))) (λ w h m o. (omega arith, omega arith, offset_fields w))
    ⨾ tt

-- transfers of several registers, and branches
pub multiple_exact : AllExact arm multiple_rows
multiple_exact =
    exact (part 25 3 ∷ []) refl refl (λ w h m o.
    let c = condition_again (w / 2 ^ 28) h in
    let f24 = flag_again 24 w in
    let f23 = flag_again 23 w in
    let f22 = flag_again 22 w in
    let f21 = flag_again 21 w in
    let f20 = flag_again 20 w in
    word_is _ _ (omega (arith, c, m, f24, f23, f22, f21, f20))) (λ w h m o. (omega arith, omega arith))
    ⨾ exact (part 25 3 ∷ []) refl refl (λ w h m o.
    let c = condition_again (w / 2 ^ 28) h in
    let f24 = flag_again 24 w in
    word_is _ _ (omega (arith, c, m, f24))) (λ w h m o. (omega arith))
    ⨾ tt

-- coprocessors and SWI
pub coprocessor_exact : AllExact arm coprocessor_rows
coprocessor_exact =
    exact (part 24 4 ∷ (part 4 1 ∷ [])) refl refl (λ w h m o.
    let c = condition_again (w / 2 ^ 28) h in
    let f20 = flag_again 20 w in
    word_is _ _ (omega (arith, c, m, f20))) (λ w h m o. (omega arith, omega arith, omega arith, omega arith, omega arith, omega arith))
    ⨾ exact (part 24 4 ∷ []) refl refl (λ w h m o.
    let c = condition_again (w / 2 ^ 28) h in
    word_is _ _ (omega (arith, c, m))) (λ w h m o. (omega arith))
    ⨾ tt

-- words whose top four bits are 1111
pub unconditional_exact : AllExact unconditional unconditional_rows
unconditional_exact =
    exact (part 25 7 ∷ []) refl refl (λ w h m o.
    let f24 = flag_again 24 w in
    word_is _ _ (omega (arith, m, f24))) (λ w h m o. (omega arith))
    ⨾ exact (part 26 6 ∷ (part 24 1 ∷ (part 20 3 ∷ (part 12 4 ∷ [])))) refl refl (λ w h m o.
    let f23 = flag_again 23 w in
    let p = offset_again w o in
    word_is _ _ (omega (arith, m, f23, p))) (λ w h m o. (omega arith, offset_fields w))
    ⨾ exact (part 28 4 ∷ []) refl refl (λ w h m o.
    word_is _ _ (omega (arith, m))) (λ w h m o. (omega arith))
    ⨾ tt
