-- The operands of the Thumb rows with registers and numbers are read as what they were written for.
use Rattle.asm_text.proofs.Words.{ℕ, ◌≡◌, ◌<◌, ◌*◌, ◌/◌, ◌%◌, ◌^◌, Bool, true, false, List, [], ◌∷◌, ◌++◌, refl, ap, arith, inl, inr, ◌⊎◌, codes}
use Rattle.asm_text.proofs.Words.{if◌then◌else◌, ◌==◌, nat_le, amount_shown, marked_at, register_at, thumb_amount, joined, number, register_name}
use Rattle.asm_text.proofs.Words.{shift_named, Shift, LowRegister, Small, HighOp, ThumbDataOp, ThumbImmediateOp, ThumbAddSub, ThumbShift}
use Rattle.asm_text.proofs.Words.{ThumbImmediate, ThumbData, ThumbHigh, ThumbAddress, ThumbAdjustStack}
use Rattle.asm_text.specs.Reader.ThumbRows.{add_sub_row, immediate_row, data_row, small_at, high_row}
use Rattle.asm_text.proofs.Again.{register_again, marked_again, one_again, two_again}
use Rattle.arm_words.specs.declared.parts.Shift.TheVariants as shifts
use Rattle.arm_words.specs.declared.operations.ThumbImmediateOp.TheVariants as immediate_ops

-- a register before a comma
pub before_comma : (n : ℕ) (rest : List ℕ) → n < 16 → register_at (register_name n ++ 44 ∷ 32 ∷ rest) ≡ (n, 44 ∷ 32 ∷ rest)
before_comma n rest h = register_again n (44 ∷ 32 ∷ rest) h refl

pub last_register : (n : ℕ) → n < 16 → register_at (register_name n ++ []) ≡ (n, [])
last_register n h = register_again n [] h refl

pub last_number : (n : ℕ) → n < 2 ^ 32 → marked_at (number n ++ []) ≡ (n, [])
last_number n h = marked_again n [] h refl

-- what tests of the registers say
below : (r : ℕ) → r < 8 → nat_le 8 r ≡ false
below r h = grind arith

pub other : (r n : ℕ) → r < n → (r == n) ≡ false
other r n h = grind arith

pub add_registers : (subtract : Bool) (rm rn rd : ℕ) → rm < 8 → rn < 8 → rd < 8 →
    add_sub_row subtract (joined (codes ", ") (register_name rd ∷ register_name rn ∷ register_name rm ∷ [])) ≡ ThumbAddSub subtract (LowRegister rm) rn rd
unfolding add_sub_row small_at
add_registers subtract rm rn rd hm hn hd =
    let third : List ℕ = register_name rm ++ [] in
    let r1 = before_comma rd (register_name rn ++ 44 ∷ 32 ∷ third) (omega arith) in
    let r2 = before_comma rn third (omega arith) in
    let em : rm % 8 ≡ rm = omega arith in
    let ed : rd % 8 ≡ rd = omega arith in
    rw (r1, r2, below rn hn, one_again rm (omega arith), em, ed) refl

pub add_small : (subtract : Bool) (n rn rd : ℕ) → n < 8 → rn < 8 → rd < 8 →
    add_sub_row subtract (joined (codes ", ") (register_name rd ∷ register_name rn ∷ number n ∷ [])) ≡ ThumbAddSub subtract (Small n) rn rd
unfolding add_sub_row small_at
add_small subtract n rn rd h hn hd =
    let third : List ℕ = number n ++ [] in
    let r1 = before_comma rd (register_name rn ++ 44 ∷ 32 ∷ third) (omega arith) in
    let r2 = before_comma rn third (omega arith) in
    let e : n % 8 ≡ n = omega arith in
    let ed : rd % 8 ≡ rd = omega arith in
    rw (r1, r2, below rn hn, last_number n (omega arith), e, ed) refl

pub add_number : (subtract : Bool) (rd n : ℕ) → rd < 8 → n < 256 →
    add_sub_row subtract (joined (codes ", ") (register_name rd ∷ number n ∷ [])) ≡ ThumbImmediate (if subtract then immediate_ops.Sub else immediate_ops.Add) rd n
unfolding add_sub_row
add_number subtract rd n hd h =
    let r1 = before_comma rd (number n ++ []) (omega arith) in
    let e : n % 256 ≡ n = omega arith in
    let ed : rd % 8 ≡ rd = omega arith in
    rw (r1, last_number n (omega arith), other rd 13 (omega arith), e, ed) refl

pub adjust : (subtract : Bool) (n : ℕ) → n < 128 →
    add_sub_row subtract (joined (codes ", ") (register_name 13 ∷ number (4 * n) ∷ [])) ≡ ThumbAdjustStack subtract n
unfolding add_sub_row
adjust subtract n h =
    let r1 = before_comma 13 (number (4 * n) ++ []) (omega arith) in
    let e : 4 * n / 4 % 128 ≡ n = omega arith in
    rw (r1, last_number (4 * n) (omega arith), e) refl

pub address_of : (stack : Bool) (rd n : ℕ) → rd < 8 → n < 256 →
    add_sub_row false (joined (codes ", ") (register_name rd ∷ register_name (if stack then 13 else 15) ∷ number (4 * n) ∷ [])) ≡ ThumbAddress stack rd n
unfolding add_sub_row
address_of true rd n hd h =
    let third : List ℕ = number (4 * n) ++ [] in
    let r1 = before_comma rd (register_name 13 ++ 44 ∷ 32 ∷ third) (omega arith) in
    let r2 = before_comma 13 third (omega arith) in
    let e : 4 * n / 4 % 256 ≡ n = omega arith in
    let ed : rd % 8 ≡ rd = omega arith in
    rw (r1, r2, last_number (4 * n) (omega arith), e, ed) refl
address_of false rd n hd h =
    let third : List ℕ = number (4 * n) ++ [] in
    let r1 = before_comma rd (register_name 15 ++ 44 ∷ 32 ∷ third) (omega arith) in
    let r2 = before_comma 15 third (omega arith) in
    let e : 4 * n / 4 % 256 ≡ n = omega arith in
    let ed : rd % 8 ≡ rd = omega arith in
    rw (r1, r2, last_number (4 * n) (omega arith), e, ed) refl

pub move_number : (op : ThumbImmediateOp) (rd n : ℕ) → rd < 8 → n < 256 →
    immediate_row op (joined (codes ", ") (register_name rd ∷ number n ∷ [])) ≡ ThumbImmediate op rd n
unfolding immediate_row
move_number op rd n hd h =
    let r1 = before_comma rd (number n ++ []) (omega arith) in
    let e : n % 256 ≡ n = omega arith in
    let ed : rd % 8 ≡ rd = omega arith in
    rw (r1, last_number n (omega arith), e, ed) refl

pub compare_number : (op : ThumbDataOp) (rd n : ℕ) → rd < 8 → n < 256 →
    data_row op (joined (codes ", ") (register_name rd ∷ number n ∷ [])) ≡ ThumbImmediate immediate_ops.Cmp rd n
unfolding data_row
compare_number op rd n hd h =
    let r1 = before_comma rd (number n ++ []) (omega arith) in
    let e : n % 256 ≡ n = omega arith in
    let ed : rd % 8 ≡ rd = omega arith in
    rw (r1, last_number n (omega arith), e, ed) refl

pub data_registers : (op : ThumbDataOp) (rm rd : ℕ) → rm < 8 → rd < 8 →
    data_row op (joined (codes ", ") (register_name rd ∷ register_name rm ∷ [])) ≡ ThumbData op rm rd
unfolding data_row
data_registers op rm rd hm hd =
    let r1 = before_comma rd (register_name rm ++ []) (omega arith) in
    let em : rm % 8 ≡ rm = omega arith in
    let ed : rd % 8 ≡ rd = omega arith in
    rw (r1, last_register rm (omega arith), em, ed) refl

zero_or : (n : ℕ) → ((n ≡ 0) × ((n == 0) ≡ true)) ⊎ ((n == 0) ≡ false)
zero_or n = grind arith

-- 32 stands for 0
shown : (amount : ℕ) → amount < 32 → (amount_shown amount % 32 ≡ amount) × (amount_shown amount < 2 ^ 32)
shown amount h =
    elim (zero_or amount) [ inl z ↦ rw (z.1) (omega (arith, z.0), omega arith) | inr n ↦ rw n (omega arith, omega arith) ]

amount_again : (shift : Shift) (amount : ℕ) → amount < 32 → (thumb_amount shift amount % 32 ≡ amount) × (thumb_amount shift amount < 2 ^ 32)
amount_again shifts.Lsl amount h = (omega arith, omega arith)
amount_again shifts.Lsr amount h = shown amount h
amount_again shifts.Asr amount h = shown amount h
amount_again shifts.Ror amount h = shown amount h

pub shift_number : (op : ThumbDataOp) (shift : Shift) (amount rm rd : ℕ) → shift_named op ≡ shift → amount < 32 → rm < 8 → rd < 8 →
    data_row op (joined (codes ", ") (register_name rd ∷ register_name rm ∷ number (thumb_amount shift amount) ∷ [])) ≡ ThumbShift shift amount rm rd
unfolding data_row
shift_number op shift amount rm rd s h hm hd =
    let third : List ℕ = number (thumb_amount shift amount) ++ [] in
    let a = amount_again shift amount h in
    let r1 = before_comma rd (register_name rm ++ 44 ∷ 32 ∷ third) (omega arith) in
    let r2 = before_comma rm third (omega arith) in
    let em : rm % 8 ≡ rm = omega arith in
    let ed : rd % 8 ≡ rd = omega arith in
    rw (r1, r2, last_number (thumb_amount shift amount) a.1, a.0, s, em, ed) refl

pub high_registers : (op : HighOp) (rm rd : ℕ) → rm < 16 → rd < 16 →
    high_row op (joined (codes ", ") (register_name rd ∷ register_name rm ∷ [])) ≡ ThumbHigh op rm rd
high_registers op rm rd hm hd = ap (λ (r : ℕ × ℕ). ThumbHigh op r.1 r.0) (two_again rd rm hd hm)
