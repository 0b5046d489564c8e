use Rattle.std.proofs.Common.{ℕ, [], ◌∷◌, Bool, true, ◌&&◌, ◌||◌, not, ◌≡◌, ◌⊎◌, inl, inr, ◌<◌, ◌+◌, ◌*◌, ◌/◌, ◌%◌, ◌^◌, ◌==◌, nat_lt, bit_and, refl, ◌∙◌, ap, arith, if◌then◌else◌}
use Rattle.ds_base.specs.Bits.{bits, bit}
use Rattle.ds_base.proofs.Choices.{both, not_true, unequal}
use Rattle.arm_words.specs.Parts.{operand_of, operand_bits, offset_of, offset_bits, short_offset_of, short_offset_bits, field_mask_of, field_mask_bits, thumb_operand_of, thumb_operand_bits}
use Rattle.arm_words.specs.Fields.{HasOperand, HasOffset, HasShortOffset, HasThumbOperand}
use Rattle.arm_words.specs.ArmTable.{has_operand, has_result, has_offset, at8}
use Rattle.arm_words.proofs.Masks.{masked, part}
use Rattle.arm_words.proofs.Names.{shift_again, flag_again}

zero_or_one : (n : ℕ) → n < 2 → (n ≡ 0) ⊎ (n ≡ 1)
zero_or_one n h = grind arith

bit_cases : (k w : ℕ) → (w / 2 ^ k % 2 ≡ 0) ⊎ (w / 2 ^ k % 2 ≡ 1)
bit_cases k w = zero_or_one (w / 2 ^ k % 2) (omega arith)

-- bits 25, 7 and 4 aren't 0, 1 and 1
operand_given : (w : ℕ) → has_operand w ≡ true → w / 2 ^ 25 % 2 ≡ 0 → w / 2 ^ 4 % 2 ≡ 1 → w / 2 ^ 7 % 2 ≡ 0
operand_given w o b25 b4 =
    let ne = unequal (bit_and w 0x02000090) 0x90 (not_true (bit_and w 0x02000090 == 0x90) o) in
    let m = masked w (part 25 1 ∷ (part 7 1 ∷ (part 4 1 ∷ []))) refl in
    elim (bit_cases 7 w) [ inl none ↦ none | inr some ↦ absurd (ne (omega (arith, m, b25, b4, some))) ]

pub operand_again : (w : ℕ) → has_operand w ≡ true → operand_bits (operand_of w) ≡ w / 2 ^ 25 % 2 * 2 ^ 25 + w % 2 ^ 12
operand_again w o =
    let sh = shift_again (w / 2 ^ 5 % 2 ^ 2) (omega arith) in
    elim (bit_cases 25 w) [
      | inr number ↦ rw number (omega arith)
      | inl register ↦ elim (bit_cases 4 w) [
        | inl fixed ↦ rw (register, fixed) (omega (arith, sh, fixed))
        | inr shifted ↦ let b7 = operand_given w o register shifted in rw (register, shifted) (omega (arith, sh, shifted, b7))
      ]
    ]

pub operand_fields : (w : ℕ) → HasOperand (operand_of w)
operand_fields w =
    elim (bit_cases 25 w) [
      | inr number ↦ rw number (omega arith, omega arith)
      | inl register ↦ elim (bit_cases 4 w) [
        | inl fixed ↦ rw (register, fixed) (omega arith, omega arith)
        | inr shifted ↦ rw (register, shifted) (omega arith, omega arith)
      ]
    ]

pub operand_same : (w v : ℕ) → v / 2 ^ 25 % 2 ≡ w / 2 ^ 25 % 2 → v % 2 ^ 12 ≡ w % 2 ^ 12 → operand_of v ≡ operand_of w
operand_same w v b25 low =
    let a0 : v / 2 ^ 0 % 2 ^ 4 ≡ w / 2 ^ 0 % 2 ^ 4 = omega (arith, low) in
    let a4 : v / 2 ^ 4 % 2 ≡ w / 2 ^ 4 % 2 = omega (arith, low) in
    let a5 : v / 2 ^ 5 % 2 ^ 2 ≡ w / 2 ^ 5 % 2 ^ 2 = omega (arith, low) in
    let a7 : v / 2 ^ 7 % 2 ^ 5 ≡ w / 2 ^ 7 % 2 ^ 5 = omega (arith, low) in
    let a8 : v / 2 ^ 8 % 2 ^ 4 ≡ w / 2 ^ 8 % 2 ^ 4 = omega (arith, low) in
    let b8 : v / 2 ^ 0 % 2 ^ 8 ≡ w / 2 ^ 0 % 2 ^ 8 = omega (arith, low) in
    cc

under_operand : (w v : ℕ) → v / 2 ^ 25 % 2 ≡ w / 2 ^ 25 % 2 → v / 2 ^ 7 % 2 ≡ w / 2 ^ 7 % 2 → v / 2 ^ 4 % 2 ≡ w / 2 ^ 4 % 2
    → bit_and v 0x02000090 ≡ bit_and w 0x02000090
under_operand w v b25 b7 b4 =
    let m = masked w (part 25 1 ∷ (part 7 1 ∷ (part 4 1 ∷ []))) refl in
    let n = masked v (part 25 1 ∷ (part 7 1 ∷ (part 4 1 ∷ []))) refl in
    omega (arith, m, n, b25, b7, b4)

pub operand_blind : (w v : ℕ) → v / 2 ^ 25 % 2 ≡ w / 2 ^ 25 % 2 → v / 2 ^ 7 % 2 ≡ w / 2 ^ 7 % 2 → v / 2 ^ 4 % 2 ≡ w / 2 ^ 4 % 2
    → has_operand v ≡ has_operand w
operand_blind w v b25 b7 b4 = ap (λ (x : ℕ). not (x == 0x90)) (under_operand w v b25 b7 b4)

-- bits 25 and 4 aren't both 1
offset_given : (w : ℕ) → has_offset w ≡ true → w / 2 ^ 25 % 2 ≡ 1 → w / 2 ^ 4 % 2 ≡ 0
offset_given w o b25 =
    let ne = unequal (bit_and w 0x02000010) 0x02000010 (not_true (bit_and w 0x02000010 == 0x02000010) o) in
    let m = masked w (part 25 1 ∷ (part 4 1 ∷ [])) refl in
    elim (bit_cases 4 w) [ inl none ↦ none | inr some ↦ absurd (ne (omega (arith, m, b25, some))) ]

pub offset_again : (w : ℕ) → has_offset w ≡ true → offset_bits (offset_of w) ≡ w / 2 ^ 25 % 2 * 2 ^ 25 + w % 2 ^ 12
offset_again w o =
    let sh = shift_again (w / 2 ^ 5 % 2 ^ 2) (omega arith) in
    elim (bit_cases 25 w) [
      | inl number ↦ rw number (omega arith)
      | inr register ↦ let b4 = offset_given w o register in rw register (omega (arith, sh, b4))
    ]

pub offset_fields : (w : ℕ) → HasOffset (offset_of w)
offset_fields w =
    elim (bit_cases 25 w) [ inl number ↦ rw number (omega arith) | inr register ↦ rw register (omega arith, omega arith) ]

-- bits 11 to 8 of a transfer's spelling: a number's, or zeros
abbrev pub short_digit : ℕ → ℕ
short_digit w = if bit 22 w then at8 w else 0

pub short_digit_below : (w : ℕ) → short_digit w < 16
short_digit_below w = elim (bit_cases 22 w) [ inl register ↦ rw register (omega arith) | inr number ↦ rw number (omega arith) ]

pub short_offset_again : (w : ℕ) → short_offset_bits (short_offset_of w) ≡ w / 2 ^ 22 % 2 * 2 ^ 22 + short_digit w * 2 ^ 8 + w % 2 ^ 4
short_offset_again w = elim (bit_cases 22 w) [ inl register ↦ rw register (omega arith) | inr number ↦ rw number (omega arith) ]

pub short_offset_fields : (w : ℕ) → HasShortOffset (short_offset_of w)
short_offset_fields w = elim (bit_cases 22 w) [ inl register ↦ rw register (omega arith) | inr number ↦ rw number (omega arith) ]

pub short_offset_same : (w v : ℕ) → v / 2 ^ 22 % 2 ≡ w / 2 ^ 22 % 2 → v / 2 ^ 8 % 2 ^ 4 ≡ short_digit w → v / 2 ^ 0 % 2 ^ 4 ≡ w / 2 ^ 0 % 2 ^ 4
    → short_offset_of v ≡ short_offset_of w
short_offset_same w v b22 a8 a0 =
    elim (bit_cases 22 w) [
      | inl register ↦ rw (b22, register) (cc)
      | inr number ↦ let a : v / 2 ^ 8 % 2 ^ 4 ≡ w / 2 ^ 8 % 2 ^ 4 = a8 ∙ rw number refl in rw (b22, number) (cc)
    ]

pub field_mask_again : (w : ℕ) → field_mask_bits (field_mask_of w) ≡ w / 2 ^ 16 % 2 ^ 4 * 2 ^ 16
field_mask_again w =
    let f = flag_again 19 w in
    let s = flag_again 18 w in
    let x = flag_again 17 w in
    let c = flag_again 16 w in
    omega (arith, f, s, x, c)

pub field_mask_same : (w v : ℕ) → v / 2 ^ 16 % 2 ^ 4 ≡ w / 2 ^ 16 % 2 ^ 4 → field_mask_of v ≡ field_mask_of w
field_mask_same w v e =
    let f : v / 2 ^ 19 % 2 ≡ w / 2 ^ 19 % 2 = omega (arith, e) in
    let s : v / 2 ^ 18 % 2 ≡ w / 2 ^ 18 % 2 = omega (arith, e) in
    let x : v / 2 ^ 17 % 2 ≡ w / 2 ^ 17 % 2 = omega (arith, e) in
    let c : v / 2 ^ 16 % 2 ≡ w / 2 ^ 16 % 2 = omega (arith, e) in
    cc

pub thumb_operand_again : (h : ℕ) → thumb_operand_bits (thumb_operand_of h) ≡ h / 2 ^ 10 % 2 * 2 ^ 10 + h / 2 ^ 6 % 2 ^ 3 * 2 ^ 6
thumb_operand_again h = elim (bit_cases 10 h) [ inl register ↦ rw register (omega arith) | inr number ↦ rw number (omega arith) ]

pub thumb_operand_fields : (h : ℕ) → HasThumbOperand (thumb_operand_of h)
thumb_operand_fields h = elim (bit_cases 10 h) [ inl register ↦ rw register (omega arith) | inr number ↦ rw number (omega arith) ]

-- what it says of a word that its operation has a result and two operands
pub result_operand : (w : ℕ) → has_result w ≡ true → has_operand w ≡ true
result_operand w o =
    (both (has_operand w) (nat_lt (bits 21 4 w) 8 || (bits 21 4 w == 12 || bits 21 4 w == 14)) o).0

pub result_number : (w : ℕ) → has_result w ≡ true → (nat_lt (bits 21 4 w) 8 || (bits 21 4 w == 12 || bits 21 4 w == 14)) ≡ true
result_number w o =
    (both (has_operand w) (nat_lt (bits 21 4 w) 8 || (bits 21 4 w == 12 || bits 21 4 w == 14)) o).1

pub result_blind : (w v : ℕ) → has_operand v ≡ has_operand w → v / 2 ^ 21 % 2 ^ 4 ≡ w / 2 ^ 21 % 2 ^ 4 → has_result v ≡ has_result w
result_blind w v o e =
    ap (λ (x : Bool). x && (nat_lt (bits 21 4 v) 8 || (bits 21 4 v == 12 || bits 21 4 v == 14))) o
    ∙ ap (λ (x : ℕ). has_operand w && (nat_lt x 8 || (x == 12 || x == 14))) e

pub even_rd : (w : ℕ) → not (bit 12 w) ≡ true → w / 2 ^ 12 % 2 ≡ 0
even_rd w o =
    elim (bit_cases 12 w) [ inl none ↦ none | inr some ↦ absurd (unequal (w / 2 ^ 12 % 2) 1 (not_true (w / 2 ^ 12 % 2 == 1) o) some) ]
