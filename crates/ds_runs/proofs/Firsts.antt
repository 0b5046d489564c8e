use Rattle.std.proofs.Common.{ℕ, zero, suc, ◌≡◌, ◌<◌, ◌≤◌, ◌+◌, ◌⊎◌, inl, inr, Bool, true, false, nat_le, List, [], ◌∷◌, ◌++◌, length, Option, Some, None, refl, sym, ◌∙◌, ap, subst, arith}
use Rattle.std.proofs.lemmas.Option.{same_Some, none-some}
use Rattle.ds_base.specs.declared.ticks.Due.{Due}
use Rattle.ds_base.specs.declared.ticks.Tick.{Tick}
use Rattle.ds_runs.specs.OrderLaws.{due_with_rank, earlier, first_from}
use Rattle.ds_runs.specs.Runs.{IsLeast, due_at}
use Rattle.ds_runs.proofs.Lists.{first_least, pushed}

-- The first of some due ticks.

le_or_lt : (x y : ℕ) → ((x ≤ y) × (nat_le x y ≡ true)) ⊎ ((y < x) × (nat_le x y ≡ false))
le_or_lt x y = grind arith

-- where there is no first, nobody is due
silent : (from : ℕ) (dues : List (Option Tick)) → first_from from dues ≡ None → (rank : ℕ) (tick : Tick) → due_at dues rank ≡ Some tick → ⊥
silent from [] h rank tick due = none-some tick due
silent from (None ∷ ds) h zero tick due = none-some tick due
silent from (None ∷ ds) h (suc rank) tick due = silent (suc from) ds h rank tick due
silent from (Some t ∷ ds) h rank tick due = never (first_from (suc from) ds) h where
  never : (rest : Option Due) → earlier (Some (record { tick = t; rank = from })) rest ≡ None → ⊥
  never None e = none-some (record { tick = t; rank = from }) (sym e)
  never (Some other) e = elim (le_or_lt t.0 other.tick.0) [
    | inl le ↦ none-some (record { tick = t; rank = from }) (sym (rw le.1 at e))
    | inr lt ↦ none-some other (sym (rw lt.1 at e))
  ]

-- the place of the first in the list
abbrev IsFirstFrom : ℕ → List (Option Tick) → Due → Type 0
IsFirstFrom from dues d = (place : ℕ) × (d.rank ≡ from + place) × IsLeast dues d.tick place

-- the first entry is, where none of the others is due before it
is_here : (from : ℕ) (t : Tick) (ds : List (Option Tick)) (d : Due) → (let one : Due = record { tick = t; rank = from } in one) ≡ d
    → ((rank : ℕ) (tick : Tick) → due_at ds rank ≡ Some tick → t.0 ≤ tick.0) → IsFirstFrom from (Some t ∷ ds) d
is_here from t ds d e none =
    let P : Due → Type 0 = λ x. IsFirstFrom from (Some t ∷ ds) x in
    subst P e (zero, omega arith, first_least t ds none)

-- the first of the others is, where the first entry is due later
is_there : (from : ℕ) (due : Option Tick) (ds : List (Option Tick)) (d : Due) → IsFirstFrom (suc from) ds d → ((at : Tick) → due ≡ Some at → d.tick.0 < at.0)
    → IsFirstFrom from (due ∷ ds) d
is_there from due ds d k later = (suc k.0, (let e = k.1 in omega (arith, e)), pushed due ds d.tick k.0 k.2 later)

not_after : (t : Tick) (ds : List (Option Tick)) (from : ℕ) (other : Due) → IsFirstFrom from ds other → t.0 ≤ other.tick.0
    → (rank : ℕ) (tick : Tick) → due_at ds rank ≡ Some tick → t.0 ≤ tick.0
not_after t ds from other k le rank tick due = (let l = k.2.least rank tick due in omega (arith, l, le))

of_two : (from : ℕ) (t : Tick) (ds : List (Option Tick)) (d : Due) (rest : Option Due) → first_from (suc from) ds ≡ rest
    → ((other : Due) → first_from (suc from) ds ≡ Some other → IsFirstFrom (suc from) ds other)
    → earlier (Some (record { tick = t; rank = from })) rest ≡ Some d → IsFirstFrom from (Some t ∷ ds) d
of_two from t ds d None none others e =
    is_here from t ds d (same_Some (record { tick = t; rank = from }) d e) (λ rank tick due. absurd (silent (suc from) ds none rank tick due))
of_two from t ds d (Some other) there others e =
    elim (le_or_lt t.0 other.tick.0) [
      | inl le ↦ is_here from t ds d (same_Some (record { tick = t; rank = from }) d (rw le.1 at e)) (not_after t ds (suc from) other (others other there) le.0)
      | inr lt ↦ (let P : Due → Type 0 = λ x. IsFirstFrom from (Some t ∷ ds) x in
          subst P (same_Some other d (rw lt.1 at e)) (is_there from (Some t) ds other (others other there) (λ at due. subst (λ (x : Tick). other.tick.0 < x.0) (same_Some t at due) lt.0)))
    ]

first_in : (from : ℕ) (dues : List (Option Tick)) (d : Due) → first_from from dues ≡ Some d → IsFirstFrom from dues d
first_in from [] d h = absurd (none-some d h)
first_in from (None ∷ ds) d h = is_there from None ds d (first_in (suc from) ds d h) (λ at due. absurd (none-some at due))
first_in from (Some t ∷ ds) d h = of_two from t ds d (first_from (suc from) ds) refl (λ other there. first_in (suc from) ds other there) h

-- the first of due ticks from rank 0 on is the least of them
pub first_is_least : (dues : List (Option Tick)) (d : Due) → first_from 0 dues ≡ Some d → IsLeast dues d.tick d.rank
first_is_least dues d h =
    let k = first_in 0 dues d h in
    let e : k.0 ≡ d.rank = (let r = k.1 in omega (arith, r)) in
    let P : ℕ → Type 0 = λ x. IsLeast dues d.tick x in
    subst P e k.2

-- the first of three is found in any grouping
pub earlier_joins : (one two three : Option Due) → earlier one (earlier two three) ≡ earlier (earlier one two) three
earlier_joins None two three = refl
earlier_joins (Some a) None three = refl
earlier_joins (Some a) (Some b) None = elim (le_or_lt a.tick.0 b.tick.0) [ inl le ↦ rw le.1 refl | inr lt ↦ rw lt.1 refl ]
earlier_joins (Some a) (Some b) (Some c) =
    grouped a b c (nat_le a.tick.0 b.tick.0) (nat_le b.tick.0 c.tick.0) (nat_le a.tick.0 c.tick.0) refl refl refl where
      grouped : (a b c : Due) (ab bc ac : Bool) → nat_le a.tick.0 b.tick.0 ≡ ab → nat_le b.tick.0 c.tick.0 ≡ bc → nat_le a.tick.0 c.tick.0 ≡ ac
          → earlier (Some a) (earlier (Some b) (Some c)) ≡ earlier (earlier (Some a) (Some b)) (Some c)
      grouped a b c true true true x y z = rw (x, y) (rw (x, z) refl)
      grouped a b c true true false x y z = absurd (grind (arith, x, y, z))
      grouped a b c true false ac x y z = rw (x, y) refl
      grouped a b c false true ac x y z = rw (x, y) (rw x refl)
      grouped a b c false false true x y z = absurd (grind (arith, x, y, z))
      grouped a b c false false false x y z = rw (x, y) (rw z refl)

-- the first of two lists, one after the other
pub first_of_append : (rank : ℕ) (xs ys : List (Option Tick)) → first_from rank (xs ++ ys) ≡ earlier (first_from rank xs) (first_from (length xs + rank) ys)
first_of_append rank [] ys = (let e : rank ≡ 0 + rank = omega arith in ap (λ (r : ℕ). first_from r ys) e)
first_of_append rank (x ∷ xs) ys =
    let e : length xs + suc rank ≡ suc (length xs) + rank = omega arith in
    let more = first_of_append (suc rank) xs ys in
    let rest = rw e at more in
    ap (λ (d : Option Due). earlier (due_with_rank rank x) d) rest ∙ earlier_joins (due_with_rank rank x) (first_from (suc rank) xs) (first_from (length (x ∷ xs) + rank) ys)
