use Rattle.std.proofs.Common.{ℕ, Bool, true, false, true≢false, ◌≡◌, ◌≢◌, ◌⊎◌, inl, inr, ◌<◌, ◌≤◌, nat_lt, nat_le, refl, sym, ◌∙◌, arith, rules}
use Rattle.std.specs.Prelude.{◌&&◌, ◌||◌, ◌==◌, not, if◌then◌else◌}

-- What tests say, and what holds of both holds of the chosen one. Each stands here once, for the proofs of all crates.

-- ---- what is chosen

pub either : {A : Type 0} (P : A → Type 0) (b : Bool) (x y : A) → P x → P y → P (if b then x else y)
either P true x y f g = f
either P false x y f g = g

pub either_by : {A : Type 0} (P : A → Type 0) (b : Bool) (x y : A) → (b ≡ true → P x) → (b ≡ false → P y) → P (if b then x else y)
either_by P true x y f g = f refl
either_by P false x y f g = g refl

pub if_true : {A : Type 0} (b : Bool) (x y : A) → b ≡ true → (if b then x else y) ≡ x
if_true true x y h = refl
if_true false x y h = absurd (true≢false (sym h))

pub if_false : {A : Type 0} (b : Bool) (x y : A) → b ≡ false → (if b then x else y) ≡ y
if_false true x y h = absurd (true≢false h)
if_false false x y h = refl

-- ---- tests

pub true_or_false : (b : Bool) → (b ≡ true) ⊎ (b ≡ false)
true_or_false true = inl refl
true_or_false false = inr refl

pub never : {A : Type 0} (b : Bool) → b ≡ true → b ≡ false → A
never b t f = absurd (true≢false (sym t ∙ f))

pub not_true : (b : Bool) → not b ≡ true → b ≡ false
not_true true h = absurd (true≢false (sym h))
not_true false h = refl

pub not_false : (b : Bool) → not b ≡ false → b ≡ true
not_false true h = refl
not_false false h = absurd (true≢false h)

pub both : (a b : Bool) → (a && b) ≡ true → (a ≡ true) × (b ≡ true)
both true b h = (refl, h)
both false b h = absurd (true≢false (sym h))

pub both_true : (a b : Bool) → a ≡ true → b ≡ true → (a && b) ≡ true
both_true true b h k = k
both_true false b h k = absurd (true≢false (sym h))

pub not_both : (a b : Bool) → (a && b) ≡ false → (a ≡ false) ⊎ (b ≡ false)
not_both true b h = inr h
not_both false b h = inl refl

pub and_false : (a : Bool) → (a && false) ≡ false
and_false true = refl
and_false false = refl

pub one_of : (a b : Bool) → (a || b) ≡ true → (a ≡ true) ⊎ (b ≡ true)
one_of true b h = inl refl
one_of false b h = inr h

pub neither : (a b : Bool) → (a || b) ≡ false → (a ≡ false) × (b ≡ false)
neither true b h = absurd (true≢false h)
neither false b h = (refl, h)

-- ---- numbers

pub equal : (x y : ℕ) → (x == y) ≡ true → x ≡ y
equal x y h = grind (arith, rules)

pub unequal : (x y : ℕ) → (x == y) ≡ false → x ≢ y
unequal x y h e = grind (arith, rules, e)

pub is_equal : (x y : ℕ) → x ≡ y → (x == y) ≡ true
is_equal x y e = grind (arith, rules, e)

pub is_unequal : (x y : ℕ) → x ≢ y → (x == y) ≡ false
is_unequal x y ne = grind (arith, rules, ne)

pub equal_self : (n : ℕ) → (n == n) ≡ true
equal_self n = grind (arith, rules)

pub lt_of : (x y : ℕ) → nat_lt x y ≡ true → x < y
lt_of x y h = grind arith

pub le_of : (x y : ℕ) → nat_le x y ≡ true → x ≤ y
le_of x y h = grind arith

pub not_lt : (x y : ℕ) → nat_lt x y ≡ false → y ≤ x
not_lt x y h = grind arith

pub is_lt : (x y : ℕ) → x < y → nat_lt x y ≡ true
is_lt x y h = grind (arith, h)

pub is_le : (x y : ℕ) → x ≤ y → nat_le x y ≡ true
is_le x y h = grind (arith, h)

pub isnt_lt : (x y : ℕ) → y ≤ x → nat_lt x y ≡ false
isnt_lt x y h = grind (arith, h)

pub lt_cases : (x y : ℕ) → ((x < y) × (nat_lt x y ≡ true)) ⊎ ((y ≤ x) × (nat_lt x y ≡ false))
lt_cases x y = grind arith

pub le_cases : (x y : ℕ) → ((x ≤ y) × (nat_le x y ≡ true)) ⊎ ((y < x) × (nat_le x y ≡ false))
le_cases x y = grind arith

pub same_or_not : (x y : ℕ) → (x ≡ y) ⊎ (x ≢ y)
same_or_not x y = grind arith

pub low_or_high : (x y : ℕ) → (x < y) ⊎ (y ≤ x)
low_or_high x y = grind arith

pub lt_or_same : (x y : ℕ) → x ≤ y → (x < y) ⊎ (x ≡ y)
lt_or_same x y h = grind (arith, h)

pub zero_or_more : (n : ℕ) → (n ≡ 0) ⊎ (0 < n)
zero_or_more n = grind arith
