use Rattle.std.proofs.Common.{ℕ, [], ◌∷◌, ◌/◌, ◌^◌, ◌==◌, not, refl, ap, arith}
use Rattle.arm_words.specs.ArmTable.{at16, at0, double_rows}
use Rattle.arm_words.proofs.Masks.{part}
use Rattle.arm_words.proofs.Names.{condition_again, flag_again}
use Rattle.arm_words.proofs.Digits.{arm_even, respell_even}
use Rattle.arm_words.proofs.PartLaws.{short_digit, short_digit_below, short_offset_again, short_offset_same, short_offset_fields, even_rd}
use Rattle.arm_words.proofs.Stages.{AllSound, ◌⨾◌, sound}

-- transfers of two words
pub double_sound : AllSound arm_even double_rows
double_sound =
    sound (part 25 3 ∷ (part 20 1 ∷ (part 6 2 ∷ (part 4 1 ∷ [])))) refl refl (λ w v n. let h = n.high in let l = n.low in omega arith)
    (λ w v n. ap (λ (x : ℕ). not (x == 1)) n.even) (λ w h m o.
    let c = condition_again (w / 2 ^ 28) h in
    let f24 = flag_again 24 w in
    let f23 = flag_again 23 w in
    let f21 = flag_again 21 w in
    let f5 = flag_again 5 w in
    let p = short_offset_again w in
    respell_even _ w (at16 w) (short_digit w) (at0 w) _ (omega arith) (short_digit_below w) (omega arith) refl
    (omega (arith, c, m, f24, f23, f21, f5, p))
    (λ v c r. let s = short_offset_same w v c.bit22 r.at8 r.at0 in cc)
    (let e = even_rd w o in (omega arith, omega arith, omega (arith, e), short_offset_fields w)))
    ⨾ tt
