use Rattle.std.proofs.Common.{ℕ, zero, suc, ◌≡◌, ◌≢◌, ◌<◌, ◌≤◌, ◌+◌, inl, inr, Bool, true, List, [], ◌∷◌, length, refl, sym, ◌∙◌, ap, subst, arith, slice_index, slice_set, add-one, length-set}
use Rattle.std.specs.Prelude.{◌&&◌, ◌==◌, nat_lt}
use Rattle.std.proofs.lemmas.List.{get_or-set_same, get_or-set_other, set-get_or, set-set}
use Rattle.std.proofs.lemmas.Bool.Decides.{nat_tests}
use Rattle.ds_base.proofs.Choices.{both, same_or_not}
use Rattle.arm_core.specs.declared.banks.Bank.{Bank}
use Rattle.arm_core.specs.declared.banks.Bank.TheVariants.{System, Fiq, Supervisor, Abort, Irq, Undefined}
use Rattle.arm_core.specs.Registers.{general_of, place}
use Rattle.arm_core.proofs.Below.{all_below, all_below_holds}

-- Where registers stand, by computing.

-- the number of the register at a place, the same in every bank
numbers : List ℕ
numbers = 0 ∷ 1 ∷ 2 ∷ 3 ∷ 4 ∷ 5 ∷ 6 ∷ 7 ∷ 8 ∷ 9 ∷ 10 ∷ 11 ∷ 12 ∷ 8 ∷ 9 ∷ 10 ∷ 11 ∷ 12 ∷ 13 ∷ 14 ∷ 13 ∷ 14 ∷ 13 ∷ 14 ∷ 13 ∷ 14 ∷ 13 ∷ 14 ∷ 13 ∷ 14 ∷ []

is_right : Bank → ℕ → Bool
is_right b r = slice_index numbers (place b r) == r && nat_lt (place b r) 30

all_right : (b : Bank) → all_below 15 (is_right b) ≡ true
unfolding all_below is_right numbers
all_right System = refl
all_right Fiq = refl
all_right Supervisor = refl
all_right Abort = refl
all_right Irq = refl
all_right Undefined = refl

right : (b : Bank) (r : ℕ) → r < 15 → (slice_index numbers (place b r) ≡ r) × (place b r < 30)
unfolding is_right
right b r lt =
    let k = both (slice_index numbers (place b r) == r) (nat_lt (place b r) 30) (all_below_holds 15 r (is_right b) lt (all_right b)) in
    (grind (arith, nat_tests, k), grind (arith, nat_tests, k))

-- two registers stand at two places, whatever their banks
apart : (a b : Bank) (r q : ℕ) → r < 15 → q < 15 → r ≢ q → place a r ≢ place b q
apart a b r q lr lq ne = λ e. ne (sym (right a r lr).0 ∙ ap (slice_index numbers) e ∙ (right b q lq).0)

-- what one bank hides of another's registers stands at none of its own places
hides : (a b : Bank) (r q : ℕ) → r < 15 → q < 15 → place a r ≢ place b r → place b q ≢ place a r
hides a b r q lr lq ne = elim (same_or_not r q) [
  | inl e ↦ (let P : ℕ → Type 0 = λ x. place b x ≢ place a r in subst P e (λ k. ne (sym k)))
  | inr other ↦ (λ k. apart a b r q lr lq other (sym k))
]

-- Lists.

sets_apart : (xs : List ℕ) (i j a b : ℕ) → i ≢ j → slice_set (slice_set xs i a) j b ≡ slice_set (slice_set xs j b) i a
sets_apart [] i j a b ne = refl
sets_apart (x ∷ xs) zero zero a b ne = absurd (ne refl)
sets_apart (x ∷ xs) zero (suc j) a b ne = refl
sets_apart (x ∷ xs) (suc i) zero a b ne = refl
sets_apart (x ∷ xs) (suc i) (suc j) a b ne = ap (λ (ys : List ℕ). x ∷ ys) (sets_apart xs i j a b (λ e. ne (ap suc e)))

-- The general registers.

pub one_more : (b : Bank) (n : ℕ) (present store : List ℕ)
    → general_of b (n + 1) present store ≡ slice_set (general_of b n present store) (place b n) (slice_index present n)
unfolding general_of
one_more b n present store = rw add-one refl

pub none_yet : (b : Bank) (present store : List ℕ) → general_of b 0 present store ≡ store
unfolding general_of
none_yet b present store = refl

-- a bank whose registers were brought from the store leaves all of them
pub brought : (b : Bank) (n : ℕ) (present store : List ℕ) → ((r : ℕ) → r < n → slice_index present r ≡ slice_index store (place b r))
    → general_of b n present store ≡ store
unfolding general_of
brought b zero present store all = refl
brought b (suc n) present store all =
    let rec = brought b n present store (λ r lt. all r (omega arith)) in
    let last : slice_index present n ≡ slice_index store (place b n) = all n (omega arith) in
    rw (rec, last) (set-get_or store (place b n) 0)

long : (b : Bank) (n : ℕ) (present store : List ℕ) → length (general_of b n present store) ≡ length store
unfolding general_of
long b zero present store = refl
long b (suc n) present store = length-set (general_of b n present store) (place b n) (slice_index present n) ∙ long b n present store

-- a present register is the bank's
pub shown : (b : Bank) (n r : ℕ) (present store : List ℕ) → r < n → n ≤ 15 → length store ≡ 30
    → slice_index (general_of b n present store) (place b r) ≡ slice_index present r
unfolding general_of
shown b zero r present store lt le thirty = absurd (omega (arith, lt))
shown b (suc n) r present store lt le thirty =
    let k = long b n present store in
    let within = (right b n (omega arith)).1 in
    elim (same_or_not r n) [
      | inl e ↦ (let P : ℕ → Type 0 = λ x. slice_index (slice_set (general_of b n present store) (place b n) (slice_index present n)) (place b x) ≡ slice_index present x in
          subst P (sym e) (get_or-set_same (general_of b n present store) (place b n) (slice_index present n) 0 (omega (arith, k, within, thirty))))
      | inr ne ↦ get_or-set_other (general_of b n present store) (place b n) (place b r) (slice_index present n) 0 (apart b b r n (omega arith) (omega arith) ne)
          ∙ shown b n r present store (omega arith) (omega arith) thirty
    ]

-- another bank's register that isn't present is the store's
pub hidden : (a b : Bank) (n r : ℕ) (present store : List ℕ) → n ≤ 15 → r < 15 → place a r ≢ place b r
    → slice_index (general_of b n present store) (place a r) ≡ slice_index store (place a r)
unfolding general_of
hidden a b zero r present store le lt ne = refl
hidden a b (suc n) r present store le lt ne =
    get_or-set_other (general_of b n present store) (place b n) (place a r) (slice_index present n) 0 (λ k. hides a b r n lt (omega arith) ne (sym k))
    ∙ hidden a b n r present store (omega arith) lt ne

-- registers past the first n don't matter
past : (b : Bank) (n r value : ℕ) (present store : List ℕ) → n ≤ r → general_of b n (slice_set present r value) store ≡ general_of b n present store
unfolding general_of
past b zero r value present store le = refl
past b (suc n) r value present store le =
    let rec = past b n r value present store (omega arith) in
    let same : slice_index (slice_set present r value) n ≡ slice_index present n = get_or-set_other present r n value 0 (omega arith) in
    rw (rec, same) refl

-- writing a present register writes the bank's
pub put_shown : (b : Bank) (n r value : ℕ) (present store : List ℕ) → r < n → n ≤ 15 → r < length present
    → general_of b n (slice_set present r value) store ≡ slice_set (general_of b n present store) (place b r) value
unfolding general_of
put_shown b zero r value present store lt le within = absurd (omega (arith, lt))
put_shown b (suc n) r value present store lt le within = elim (same_or_not r n) [
  | inl e ↦ (let P : ℕ → Type 0 = λ x. slice_set (general_of b n (slice_set present x value) store) (place b n) (slice_index (slice_set present x value) n)
      ≡ slice_set (slice_set (general_of b n present store) (place b n) (slice_index present n)) (place b x) value in
      let same : slice_index (slice_set present n value) n ≡ value = get_or-set_same present n value 0 (omega arith) in
      let rest = past b n n value present store (omega arith) in
      subst P (sym e) (rw (rest, same) (sym (set-set (general_of b n present store) (place b n) (slice_index present n) value))))
  | inr ne ↦ (let same : slice_index (slice_set present r value) n ≡ slice_index present n = get_or-set_other present r n value 0 (omega arith) in
      let rec = put_shown b n r value present store (omega arith) (omega arith) within in
      rw (rec, same) (sets_apart (general_of b n present store) (place b r) (place b n) value (slice_index present n) (apart b b r n (omega arith) (omega arith) ne)))
]

-- writing another bank's register that isn't present writes the store's
pub put_hidden : (a b : Bank) (n r value : ℕ) (present store : List ℕ) → n ≤ 15 → r < 15 → place a r ≢ place b r
    → general_of b n present (slice_set store (place a r) value) ≡ slice_set (general_of b n present store) (place a r) value
unfolding general_of
put_hidden a b zero r value present store le lt ne = refl
put_hidden a b (suc n) r value present store le lt ne =
    let rec = put_hidden a b n r value present store (omega arith) lt ne in
    rw rec (sets_apart (general_of b n present store) (place a r) (place b n) value (slice_index present n) (λ k. hides a b r n lt (omega arith) ne (sym k)))
