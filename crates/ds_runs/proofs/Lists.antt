use Rattle.std.proofs.Common.{ℕ, zero, suc, ◌≡◌, ◌<◌, ◌≤◌, ◌⊎◌, inl, inr, List, [], ◌∷◌, length, Option, Some, None, refl, sym, ◌∙◌, ap, subst, arith}
use Rattle.std.proofs.lemmas.Option.{same_Some, none-some}
use Rattle.ds_base.specs.declared.ticks.Tick.{Tick}
use Rattle.ds_base.specs.Schedules.{Reschedules, IsLater}
use Rattle.ds_base.proofs.Choices.{low_or_high, lt_or_same}
use Rattle.ds_runs.specs.Runs.{IsLeast, IsOver, due_at}
use Rattle.ds_runs.specs.Owed.{AllReschedule}

-- Due ticks as one list.

-- an actor that is due stands in the list
pub within : (dues : List (Option Tick)) (rank : ℕ) (tick : Tick) → due_at dues rank ≡ Some tick → rank < length dues
within [] rank tick h = absurd (none-some tick h)
within (d ∷ ds) zero tick h = omega arith
within (d ∷ ds) (suc rank) tick h = let k = within ds rank tick h in omega (arith, k)

-- a later tick
pub is_later : (now : Tick) (due : Option Tick) (tick : Tick) → IsLater now due → due ≡ Some tick → now.0 < tick.0
is_later now None tick later h = absurd (none-some tick h)
is_later now (Some due) tick later h = subst (λ (x : Tick). now.0 < x.0) (same_Some due tick h) later

-- the least of a list is the least of a longer one, where what is put before it is due later
pub pushed : (due : Option Tick) (dues : List (Option Tick)) (tick : Tick) (rank : ℕ) → IsLeast dues tick rank → ((at : Tick) → due ≡ Some at → tick.0 < at.0)
    → IsLeast (due ∷ dues) tick (suc rank)
pushed due dues tick rank l later = record { there = l.there; least = go } where
  go : (other : ℕ) (at : Tick) → due_at (due ∷ dues) other ≡ Some at → (tick.0 < at.0) ⊎ ((tick.0 ≡ at.0) × (suc rank ≤ other))
  go zero at h = inl (later at h)
  go (suc other) at h = elim (l.least other at h) [ inl a ↦ inl a | inr b ↦ inr (b.0, omega (arith, b.1)) ]

-- the first is the least, where none of the others is due before it
pub first_least : (tick : Tick) (dues : List (Option Tick)) → IsOver dues tick.0 → IsLeast (Some tick ∷ dues) tick zero
first_least tick dues none = record { there = refl; least = go } where
  go : (other : ℕ) (at : Tick) → due_at (Some tick ∷ dues) other ≡ Some at → (tick.0 < at.0) ⊎ ((tick.0 ≡ at.0) × (zero ≤ other))
  go zero at h = inr (ap (λ (x : Tick). x.0) (same_Some tick at h), omega arith)
  go (suc other) at h = elim (lt_or_same tick.0 at.0 (none other at h)) [ inl a ↦ inl a | inr b ↦ inr (b, omega arith) ]

-- nobody of a list is due
abbrev Silent : List (Option Tick) → Type 0
Silent dues = (rank : ℕ) (tick : Tick) → due_at dues rank ≡ Some tick → ⊥

-- somebody is the least
abbrev HasLeast : List (Option Tick) → Type 0
HasLeast dues = (tick : Tick) × (rank : ℕ) × IsLeast dues tick rank

find : (dues : List (Option Tick)) → Silent dues ⊎ HasLeast dues
find [] = inl (λ rank tick h. none-some tick h)
find (None ∷ ds) = elim (find ds) [
  | inl silent ↦ inl (still silent)
  | inr l ↦ inr (l.0, suc l.1, pushed None ds l.0 l.1 l.2 (λ at h. absurd (none-some at h)))
] where
  still : Silent ds → Silent (None ∷ ds)
  still silent zero tick h = none-some tick h
  still silent (suc rank) tick h = silent rank tick h
find (Some t ∷ ds) = elim (find ds) [
  | inl silent ↦ inr (t, zero, first_least t ds (λ rank tick h. absurd (silent rank tick h)))
  | inr l ↦ elim (low_or_high l.0.0 t.0) [
    | inl lt ↦ inr (l.0, suc l.1, pushed (Some t) ds l.0 l.1 l.2 (λ at h. subst (λ (x : Tick). l.0.0 < x.0) (same_Some t at h) lt))
    | inr le ↦ inr (t, zero, first_least t ds (λ rank tick h. elim (l.2.least rank tick h) [ inl a ↦ omega (arith, a, le) | inr b ↦ omega (arith, b.0, le) ]))
  ]
]

-- where somebody is due, somebody is the least
pub has_least : (dues : List (Option Tick)) (rank : ℕ) (tick : Tick) → due_at dues rank ≡ Some tick → HasLeast dues
has_least dues rank tick h = elim (find dues) [ inl silent ↦ absurd (silent rank tick h) | inr l ↦ l ]

-- the least actor is one
pub least_unique : (dues : List (Option Tick)) (t : Tick) (r : ℕ) (u : Tick) (q : ℕ) → IsLeast dues t r → IsLeast dues u q → (t ≡ u) × (r ≡ q)
least_unique dues t r u q a b =
    let x = a.least q u b.there in
    let y = b.least r t a.there in
    let e : r ≡ q = omega (arith, x, y) in
    let P : ℕ → Type 0 = λ k. due_at dues k ≡ Some t in
    (same_Some t u (sym (subst P e a.there) ∙ b.there), e)

-- what a pair of lists says of each actor
pub at_rank : (now : Tick) (olds news : List (Option Tick)) → AllReschedule now olds news → (rank : ℕ) → Reschedules now (due_at olds rank) (due_at news rank)
at_rank now [] [] h rank = inl refl
at_rank now [] (y ∷ ys) h rank = absurd h
at_rank now (x ∷ xs) [] h rank = absurd h
at_rank now (x ∷ xs) (y ∷ ys) h zero = h.0
at_rank now (x ∷ xs) (y ∷ ys) h (suc rank) = at_rank now xs ys h.1 rank

-- an entry doesn't step before the least
abbrev pub IsNotBefore : Tick → ℕ → ℕ → Option Tick → Type 0
IsNotBefore tick rank other None = Unit {0}
IsNotBefore tick rank other (Some at) = (tick.0 < at.0) ⊎ ((tick.0 ≡ at.0) × (rank ≤ other))

not_before : (tick : Tick) (rank other : ℕ) (due : Option Tick) → IsNotBefore tick rank other due → (at : Tick) → due ≡ Some at → (tick.0 < at.0) ⊎ ((tick.0 ≡ at.0) × (rank ≤ other))
not_before tick rank other None h at e = absurd (none-some at e)
not_before tick rank other (Some u) h at e = subst (λ (x : Tick). (tick.0 < x.0) ⊎ ((tick.0 ≡ x.0) × (rank ≤ other))) (same_Some u at e) h
