use Rattle.std.proofs.Common.{ℕ, ◌≡◌, ◌≤◌, ◌<◌, ◌+◌, ◌-◌, ◌^◌, ◌==◌, ◌||◌, Bool, true, false, List, [], ◌∷◌, filter, length, cond, nat_le, min, arith, refl}
use Rattle.std.specs.List.{list_any}
use Rattle.ds_io.specs.Faults.{Rose}
use Rattle.ds_io.specs.Numbered.{Numbered, called, fails_now, fault_count}

-- a filter that keeps more keeps no less of a longer list
one_more : (p q : Bool) (x : ℕ) (xs ys : List ℕ) → (p ≡ true → q ≡ true) → length xs ≤ length ys → length (cond p (x ∷ xs) xs) ≤ length (cond q (x ∷ ys) ys)
one_more true true x xs ys h le = grind (arith, le)
one_more true false x xs ys h le = absurd (let e = h refl in cc)
one_more false true x xs ys h le = grind (arith, le)
one_more false false x xs ys h le = le

reaches : (x a b : ℕ) → a ≤ b → nat_le x a ≡ true → nat_le x b ≡ true
reaches x a b le h = grind (arith, h, le)

-- as many numbers are up to a limit as up to a higher one, or more are
pub count_rises : (xs : List ℕ) (a b : ℕ) → a ≤ b → length (filter (λ x. nat_le x a) xs) ≤ length (filter (λ x. nat_le x b) xs)
count_rises [] a b le = omega arith
count_rises (x ∷ xs) a b le = one_more (nat_le x a) (nat_le x b) x _ _ (reaches x a b le) (count_rises xs a b le)

-- one more number is counted at the higher limit alone, or the rest has one more
step_more : (p q : Bool) (x : ℕ) (xs ys : List ℕ) → p ≡ false → q ≡ true → length xs ≤ length ys → length (cond p (x ∷ xs) xs) + 1 ≤ length (cond q (x ∷ ys) ys)
step_more true q x xs ys e f le = absurd (cc)
step_more false true x xs ys e f le = grind (arith, le)
step_more false false x xs ys e f le = absurd (cc)

rest_more : (p q : Bool) (x : ℕ) (xs ys : List ℕ) → (p ≡ true → q ≡ true) → length xs + 1 ≤ length ys → length (cond p (x ∷ xs) xs) + 1 ≤ length (cond q (x ∷ ys) ys)
rest_more true true x xs ys h le = grind (arith, le)
rest_more true false x xs ys h le = absurd (let e = h refl in cc)
rest_more false true x xs ys h le = grind (arith, le)
rest_more false false x xs ys h le = le

above : (x a b : ℕ) → a < b → (x == b) ≡ true → nat_le x a ≡ false
above x a b lt e = grind (arith, lt, e)

equal_reaches : (x b : ℕ) → (x == b) ≡ true → nat_le x b ≡ true
equal_reaches x b e = grind (arith, e)

-- one more number at least is up to the higher limit, where that is among them
pub count_rises_at : (xs : List ℕ) (a b : ℕ) → a < b → list_any (λ x. x == b) xs ≡ true → length (filter (λ x. nat_le x a) xs) + 1 ≤ length (filter (λ x. nat_le x b) xs)
count_rises_at [] a b lt h = absurd (cc)
count_rises_at (x ∷ xs) a b lt h = here (x == b) refl h (λ any. count_rises_at xs a b lt any) where
  here : (same : Bool) → (x == b) ≡ same → (same || list_any (λ x. x == b) xs) ≡ true →
      (list_any (λ x. x == b) xs ≡ true → length (filter (λ x. nat_le x a) xs) + 1 ≤ length (filter (λ x. nat_le x b) xs)) →
      length (filter (λ x. nat_le x a) (x ∷ xs)) + 1 ≤ length (filter (λ x. nat_le x b) (x ∷ xs))
  here true e any rest = step_more (nat_le x a) (nat_le x b) x _ _ (above x a b lt e) (equal_reaches x b e) (count_rises xs a b (omega (arith, lt)))
  here false e any rest = rest_more (nat_le x a) (nat_le x b) x _ _ (reaches x a b (omega (arith, lt))) (rest any)

-- a call never makes the count of faults less
pub later_call : (n : Numbered) → n.made < 2 ^ 64 → fault_count n ≤ fault_count (called n)
later_call n h = count_rises n.fails n.made (min (n.made + 1) (2 ^ 64 - 1)) (omega (arith, h))

-- a call that fails makes it more
pub failed_call : (n : Numbered) → n.made < 2 ^ 64 → (called n).made < 2 ^ 64 - 1 → fails_now (called n) ≡ true → Rose (fault_count n) (fault_count (called n))
failed_call n h below fails =
    let more = count_rises_at n.fails n.made (min (n.made + 1) (2 ^ 64 - 1)) (omega (arith, h, below)) fails in
    omega (arith, more)
