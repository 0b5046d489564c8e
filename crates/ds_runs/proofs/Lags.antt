use Rattle.std.proofs.Common.{ℕ, zero, suc, ◌≡◌, ◌<◌, ◌≤◌, ◌+◌, inl, inr, List, [], ◌∷◌, ◌++◌, Some, refl, sym, ◌∙◌, subst, arith}
use Rattle.std.specs.Prelude.{◌↔◌}
use Rattle.ds_base.specs.declared.ticks.Tick.{Tick}
use Rattle.ds_runs.specs.Lags.{MayLag, LagAgrees, LagKeepsStops}
use Rattle.ds_runs.specs.Runs.{IsLeast, due_at, TickMachine, Makes, Stops, Ending, Stopped, Runs, over, stops, more}
use Rattle.ds_runs.proofs.Lists.{is_later, least_unique}
use Rattle.ds_runs.proofs.RunLaws.{same_makes, not_both}

-- An actor that lags.

-- lists that begin alike and are the same go on alike
same_rest : {O : Type 0} (xs ys zs : List O) → xs ++ ys ≡ xs ++ zs → ys ≡ zs
same_rest [] ys zs h = h
same_rest (x ∷ xs) ys zs h = same_rest xs ys zs (cc)

-- ---- the least actor's step is the first of the run

-- what a run is from a state whose least actor's step is made
abbrev GoesOnFrom : {S O L : Type 0} → TickMachine S O L → ℕ → Ending S L → S → List O → List O → Type 0
GoesOnFrom {S} {O} {L} m limit end next outs all = (rest : List O) → all ≡ outs ++ rest → Runs m limit end next rest

module _ {S O L : Type 0} (m : TickMachine S O L) (limit : ℕ) where
  first_of : (end : Ending S L) (s next : S) (all outs : List O) (t : Tick) (r : ℕ) → IsLeast (m.dues s) t r → t.0 < limit → m.step r s ≡ Makes next outs
      → Runs m limit end s all → GoesOnFrom m limit end next outs all
  first_of end s next all outs t r least lt e (over s0 none) rest same =
      let le : limit ≤ t.0 = none r t least.there in absurd (omega (arith, le, lt))
  first_of end s next all outs t r least lt e (stops s0 after u q stop least₁ below halts) rest same =
      let k = least_unique (m.dues s0) u q t r least₁ least in
      let P : ℕ → Type 0 = λ x. m.step x s0 ≡ Stops stop after in
      absurd (not_both next after outs stop (sym e ∙ subst P k.1 halts))
  first_of end s next all outs t r least lt e (more e0 s0 mid u q outs₁ rest₁ least₁ below goes run) rest same =
      let k = least_unique (m.dues s0) u q t r least₁ least in
      let P : ℕ → Type 0 = λ x. m.step x s0 ≡ Makes mid outs₁ in
      let both = same_makes mid next outs₁ outs (sym (subst P k.1 goes) ∙ e) in
      let Q : S → Type 0 = λ x. Runs m limit e0 x rest₁ in
      let R : List O → Type 0 = λ x. x ++ rest₁ ≡ outs ++ rest in
      subst (Runs m limit e0 next) (same_rest outs rest₁ rest (subst R both.1 same)) (subst Q both.0 run)

  -- so both runs are the same
  pub one_step : (end : Ending S L) (s next : S) (outs rest : List O) (t : Tick) (r : ℕ) → IsLeast (m.dues s) t r → t.0 < limit → m.step r s ≡ Makes next outs
      → Runs m limit end s (outs ++ rest) ↔ Runs m limit end next rest
  one_step end s next outs rest t r least lt e =
      (λ run. first_of end s next (outs ++ rest) outs t r least lt e run rest refl, λ run. more end s next t r outs rest least lt e run)

-- ---- the step that is taken first, by how many of the other's may come before it

module _ {S O L : Type 0} (m : TickMachine S O L) (limit p : ℕ) (Before : S → ℕ → Tick → Type 0) (laws : MayLag m p Before) where
  -- fewer than so many ticks lie between p's due tick and r's
  abbrev IsWithin : ℕ → S → Tick → Type 0
  IsWithin n s t = (u : Tick) → due_at (m.dues s) p ≡ Some u → t.0 < u.0 + n

  within_less : (n : ℕ) (s : S) (t u : Tick) (next : S) (is : t.0 < u.0 + suc n) → ((v : Tick) → due_at (m.dues next) p ≡ Some v → u.0 < v.0) → IsWithin n next t
  within_less n s t u next is later v h = (let lt = later v h in omega (arith, is, lt))

  lags : (n : ℕ) (end : Ending S L) (outs rest : List O) (s next : S) (r : ℕ) (t : Tick) → IsWithin n s t → Before s r t → t.0 < limit → m.step r s ≡ Makes next outs
      → Runs m limit end s (outs ++ rest) ↔ Runs m limit end next rest
  lags zero end outs rest s next r t within b lt e = elim (laws.first s r t b).least [
    | inl least ↦ one_step m limit end s next outs rest t r least lt e
    | inr late ↦ (let a = within late.0 late.1.there in let le = late.2 in absurd (omega (arith, a, le)))
  ]
  lags (suc n) end outs rest s next r t within b lt e = elim (laws.first s r t b).least [
    | inl least ↦ one_step m limit end s next outs rest t r least lt e
    | inr late ↦ (let u = late.0 in
        let le = late.2 in
        let below : u.0 < limit = omega (arith, le, lt) in
        let k = laws.steps s r t u b late.1 in
        let c = laws.commutes s k.next next r t u outs b late.1 k.makes e in
        let here = one_step m limit end s k.next [] (outs ++ rest) u p late.1 below k.makes in
        let there = one_step m limit end next c.1.0 [] rest u p c.0 below c.1.2 in
        let later : (v : Tick) → due_at (m.dues k.next) p ≡ Some v → u.0 < v.0 = λ v h. is_later u (due_at (m.dues k.next) p) v k.later h in
        let again = lags n end outs rest k.next c.1.0 r t (within_less n s t u k.next (within u late.1.there) later) k.still lt c.1.1 in
        (λ run. there.1 (again.0 (here.0 run)), λ run. here.1 (again.1 (there.0 run))))
  ]

  stops_late : (n : ℕ) (s left : S) (r : ℕ) (t : Tick) (stop : L) → IsWithin n s t → Before s r t → t.0 < limit → m.step r s ≡ Stops stop left → Runs m limit (Stopped stop) s []
  stops_late zero s left r t stop within b lt e = elim (laws.first s r t b).least [
    | inl least ↦ stops s left t r stop least lt e
    | inr late ↦ (let a = within late.0 late.1.there in let le = late.2 in absurd (omega (arith, a, le)))
  ]
  stops_late (suc n) s left r t stop within b lt e = elim (laws.first s r t b).least [
    | inl least ↦ stops s left t r stop least lt e
    | inr late ↦ (let u = late.0 in
        let le = late.2 in
        let below : u.0 < limit = omega (arith, le, lt) in
        let k = laws.steps s r t u b late.1 in
        let c = laws.halts s k.next left r t u stop b late.1 k.makes e in
        let later : (v : Tick) → due_at (m.dues k.next) p ≡ Some v → u.0 < v.0 = λ v h. is_later u (due_at (m.dues k.next) p) v k.later h in
        let again = stops_late n k.next c.0 r t stop (within_less n s t u k.next (within u late.1.there) later) k.still lt c.1 in
        more (Stopped stop) s k.next u p [] [] late.1 below k.makes again)
  ]

pub lag_agrees : {S O L : Type 0} (m : TickMachine S O L) (p : ℕ) (Before : S → ℕ → Tick → Type 0) → MayLag m p Before → LagAgrees m Before
lag_agrees m p Before laws limit end outs rest s next r t b lt e =
    lags m limit p Before laws (suc t.0) end outs rest s next r t (λ u h. omega arith) b lt e

pub lag_stops : {S O L : Type 0} (m : TickMachine S O L) (p : ℕ) (Before : S → ℕ → Tick → Type 0) → MayLag m p Before → LagKeepsStops m Before
lag_stops m p Before laws limit s left r t stop b lt e = stops_late m limit p Before laws (suc t.0) s left r t stop (λ u h. omega arith) b lt e
