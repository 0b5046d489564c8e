use Rattle.std.proofs.Common.{ℕ, zero, suc, Bool, true, ◌&&◌, ◌||◌, ◌≡◌, inl, inr, ◌<◌, ◌+◌, ◌*◌, ◌/◌, ◌%◌, ◌^◌, ◌==◌, nat_lt, nat_eq, refl, sym, ◌∙◌, ap, arith, if◌then◌else◌}
use Rattle.arm_words.proofs.Facts.{last_or_less}
use Rattle.ds_base.specs.Bits.{bit, flag}
use Rattle.ds_base.proofs.Choices.{both, equal}
use Rattle.arm_words.specs.Parts.{condition_of, condition_number, shift_of, shift_number}
use Rattle.arm_words.specs.Operations.{data_op_of, data_op_number, compare_op_of, compare_op_number, move_op_of, move_op_number, half_op_of, half_op_bits}
use Rattle.arm_words.specs.ThumbOperations.{thumb_data_op_of, thumb_data_op_number, thumb_transfer_op_of, thumb_transfer_op_number}
use Rattle.arm_words.specs.ThumbImmediates.{thumb_immediate_op_of, thumb_immediate_op_number}
use Rattle.arm_words.specs.HighOperations.{high_op_of, high_op_number}

-- two functions agree below a bound
abbrev same_below : (ℕ → ℕ) → (ℕ → ℕ) → ℕ → Bool
same_below f g zero = true
same_below f g (suc k) = nat_eq (f k) (g k) && same_below f g k

pub alike : (f g : ℕ → ℕ) (k : ℕ) → same_below f g k ≡ true → (n : ℕ) → n < k → f n ≡ g n
alike f g zero e n h = absurd (omega arith)
alike f g (suc k) e n h =
    elim (last_or_less n k h) [
      | inl same ↦ ap f same ∙ equal (f k) (g k) (both (nat_eq (f k) (g k)) (same_below f g k) e).0 ∙ ap g (sym same)
      | inr less ↦ alike f g k (both (nat_eq (f k) (g k)) (same_below f g k) e).1 n less
    ]

pub condition_again : (n : ℕ) → n < 15 → condition_number (condition_of n) ≡ n
condition_again n h = alike (λ x. condition_number (condition_of x)) (λ x. x) 15 refl n h

pub shift_again : (n : ℕ) → n < 4 → shift_number (shift_of n) ≡ n
shift_again n h = alike (λ x. shift_number (shift_of x)) (λ x. x) 4 refl n h

pub compare_op_again : (n : ℕ) → n < 4 → compare_op_number (compare_op_of n) ≡ n
compare_op_again n h = alike (λ x. compare_op_number (compare_op_of x)) (λ x. x) 4 refl n h

pub move_op_again : (n : ℕ) → n < 2 → move_op_number (move_op_of n) ≡ n
move_op_again n h = alike (λ x. move_op_number (move_op_of x)) (λ x. x) 2 refl n h

pub thumb_data_op_again : (n : ℕ) → n < 16 → thumb_data_op_number (thumb_data_op_of n) ≡ n
thumb_data_op_again n h = alike (λ x. thumb_data_op_number (thumb_data_op_of x)) (λ x. x) 16 refl n h

pub thumb_transfer_op_again : (n : ℕ) → n < 8 → thumb_transfer_op_number (thumb_transfer_op_of n) ≡ n
thumb_transfer_op_again n h = alike (λ x. thumb_transfer_op_number (thumb_transfer_op_of x)) (λ x. x) 8 refl n h

pub thumb_immediate_op_again : (n : ℕ) → n < 4 → thumb_immediate_op_number (thumb_immediate_op_of n) ≡ n
thumb_immediate_op_again n h = alike (λ x. thumb_immediate_op_number (thumb_immediate_op_of x)) (λ x. x) 4 refl n h

pub high_op_again : (n : ℕ) → n < 3 → high_op_number (high_op_of n) ≡ n
high_op_again n h = alike (λ x. high_op_number (high_op_of x)) (λ x. x) 3 refl n h

-- a number of an operation with two operands and a result
pub data_op_again : (n : ℕ) → n < 16 → (nat_lt n 8 || (n == 12 || n == 14)) ≡ true → data_op_number (data_op_of n) ≡ n
data_op_again n h e =
    let same = alike (λ x. if nat_lt x 8 || (x == 12 || x == 14) then data_op_number (data_op_of x) else 0) (λ x. if nat_lt x 8 || (x == 12 || x == 14) then x else 0) 16 refl n h in
    rw e at same

pub half_op_again : (n : ℕ) → n < 8 → (n == 1 || nat_lt 4 n) ≡ true → half_op_bits (half_op_of n) ≡ n / 4 * 2 ^ 20 + n % 4 * 2 ^ 5
half_op_again n h e =
    let same = alike (λ x. if x == 1 || nat_lt 4 x then half_op_bits (half_op_of x) else 0) (λ x. if x == 1 || nat_lt 4 x then x / 4 * 2 ^ 20 + x % 4 * 2 ^ 5 else 0) 8 refl n h in
    rw e at same

-- a bit that is read and put at its place
pub flag_number : (at n : ℕ) → n < 2 → flag at (n == 1) ≡ n * 2 ^ at
flag_number at zero h = omega arith
flag_number at (suc zero) h = omega arith
flag_number at (suc (suc n)) h = absurd (omega arith)

pub flag_again : (at w : ℕ) → flag at (bit at w) ≡ w / 2 ^ at % 2 * 2 ^ at
flag_again at w = flag_number at (w / 2 ^ at % 2) (omega arith)
