use Rattle.std.proofs.Common.{ℕ, ◌≡◌, ◌≢◌, ◌<◌, ◌≤◌, ◌⊎◌, inl, inr, List, [], ◌++◌, Option, Some, refl, sym, ◌∙◌, ap, subst, arith}
use Rattle.std.proofs.lemmas.Option.{same_Some}
use Rattle.ds_base.specs.declared.ticks.Tick.{Tick}
use Rattle.ds_base.proofs.Choices.{same_or_not}
use Rattle.ds_runs.specs.Runs.{IsLeast, due_at, TickMachine, MachineStep, Makes, Stops, Ending, At, Stopped, Runs, over, stops, more}
use Rattle.ds_runs.specs.Ahead.{MovesOn, MayRunAhead, HasOwnPart, AheadAgrees}
use Rattle.ds_runs.proofs.Lists.{is_later}
use Rattle.ds_runs.proofs.RunLaws.{same_makes, same_stops, not_both}

-- Taking an actor's step before its turn.

-- an actor doesn't step before another
abbrev NotBefore : Tick → ℕ → Tick → ℕ → Type 0
NotBefore t r u q = (t.0 < u.0) ⊎ ((t.0 ≡ u.0) × (r ≤ q))

-- where one actor alone moves on, another that is the least stays the least
pub least_stays : (olds news : List (Option Tick)) (p : ℕ) (t u : Tick) (r : ℕ) → MovesOn p t olds news → r ≢ p → IsLeast olds u r → IsLeast news u r
least_stays olds news p t u r moves ne least = record { there = moves.others r ne ∙ least.there; least = go } where
  go : (q : ℕ) (v : Tick) → due_at news q ≡ Some v → NotBefore u r v q
  go q v h = elim (same_or_not q p) [
    | inl same ↦ (let P : ℕ → Type 0 = λ x. due_at news x ≡ Some v in
        let lt = is_later t (due_at news p) v moves.later (subst P same h) in
        elim (least.least p t moves.there) [ inl a ↦ inl (omega (arith, a, lt)) | inr b ↦ inl (omega (arith, b.0, lt)) ])
    | inr other ↦ least.least q v (sym (moves.others q other) ∙ h)
  ]

-- where it is the least afterwards, and steps before the one that moved on, it was the least before
least_was : (olds news : List (Option Tick)) (p : ℕ) (t u : Tick) (r : ℕ) → MovesOn p t olds news → r ≢ p → IsLeast news u r → NotBefore u r t p → IsLeast olds u r
least_was olds news p t u r moves ne least before = record { there = sym (moves.others r ne) ∙ least.there; least = go } where
  go : (q : ℕ) (v : Tick) → due_at olds q ≡ Some v → NotBefore u r v q
  go q v h = elim (same_or_not q p) [
    | inl same ↦ (let P : ℕ → Type 0 = λ x. due_at olds x ≡ Some v in
        let e : t.0 ≡ v.0 = ap (λ (x : Tick). x.0) (same_Some t v (sym moves.there ∙ subst P same h)) in
        elim before [ inl a ↦ inl (omega (arith, a, e)) | inr b ↦ inr (omega (arith, b.0, e), omega (arith, b.1, same)) ])
    | inr other ↦ least.least q v (moves.others q other ∙ h)
  ]

-- where none of the others steps before it, the one that moved on was the least
mover_was : (olds news : List (Option Tick)) (p : ℕ) (t : Tick) → MovesOn p t olds news
    → ((q : ℕ) (v : Tick) → q ≢ p → due_at news q ≡ Some v → NotBefore t p v q) → IsLeast olds t p
mover_was olds news p t moves none = record { there = moves.there; least = go } where
  go : (q : ℕ) (v : Tick) → due_at olds q ≡ Some v → NotBefore t p v q
  go q v h = elim (same_or_not q p) [
    | inl same ↦ (let P : ℕ → Type 0 = λ x. due_at olds x ≡ Some v in
        let e : t.0 ≡ v.0 = ap (λ (x : Tick). x.0) (same_Some t v (sym moves.there ∙ subst P same h)) in
        inr (e, omega (arith, same)))
    | inr other ↦ none q v other (moves.others q other ∙ h)
  ]

-- so it was where it steps before the one that is the least afterwards
first_was : (olds news : List (Option Tick)) (p : ℕ) (t u : Tick) (r : ℕ) → MovesOn p t olds news → IsLeast news u r → NotBefore t p u r → IsLeast olds t p
first_was olds news p t u r moves least before =
    mover_was olds news p t moves (λ q v ne h. (let k = least.least q v h in grind (arith, k, before)))

-- and the one that is the least afterwards is another, where it steps before
is_other : (olds news : List (Option Tick)) (p : ℕ) (t u : Tick) (r : ℕ) → MovesOn p t olds news → IsLeast news u r → (u.0 < t.0) ⊎ ((u.0 ≡ t.0) × (r < p)) → r ≢ p
is_other olds news p t u r moves least before = λ same.
    (let P : ℕ → Type 0 = λ x. due_at news x ≡ Some u in
    let lt = is_later t (due_at news p) u moves.later (subst P same least.there) in
    elim before [ inl a ↦ omega (arith, a, lt) | inr b ↦ omega (arith, b.0, lt) ])

not_before : (t : Tick) (p : ℕ) (u : Tick) (r : ℕ) → (u.0 < t.0) ⊎ ((u.0 ≡ t.0) × (r < p)) → NotBefore u r t p
not_before t p u r before = elim before [ inl a ↦ inl a | inr b ↦ inr (b.0, omega (arith, b.1)) ]

-- of two actors one steps first
which_first : (t : Tick) (p : ℕ) (u : Tick) (r : ℕ) → NotBefore t p u r ⊎ ((u.0 < t.0) ⊎ ((u.0 ≡ t.0) × (r < p)))
which_first t p u r = of_numbers t.0 p u.0 r where
  of_numbers : (t p u r : ℕ) → ((t < u) ⊎ ((t ≡ u) × (p ≤ r))) ⊎ ((u < t) ⊎ ((u ≡ t) × (r < p)))
  of_numbers t p u r = grind arith

module _ {S O L : Type 0} (m : TickMachine S O L) (limit p : ℕ) (Private : S → Tick → Type 0) (laws : MayRunAhead m p Private) where
  -- a private step first, and the run ends in the same state or stop, and puts out the same
  pub run_ahead : (end : Ending S L) (s : S) (all : List O) → Runs m limit end s all
      → (ahead : S) (t : Tick) → Private s t → t.0 < limit → m.step p s ≡ Makes ahead [] → Runs m limit end ahead all
  run_ahead end s all (over s0 h) ahead t a lt e =
      let le : limit ≤ t.0 = h p t (laws.moves s0 ahead t a e).there in
      absurd (omega (arith, le, lt))
  run_ahead end s all (stops s0 left u r stop least below halts) ahead t a lt e =
      elim (same_or_not r p) [
        | inl same ↦ (let P : ℕ → Type 0 = λ x. m.step x s0 ≡ Stops stop left in
            absurd (not_both ahead left [] stop (sym e ∙ subst P same halts)))
        | inr other ↦ (let k = laws.halts s0 ahead left t u r stop a e least other halts in
            let stays = least_stays (m.dues s0) (m.dues ahead) p t u r (laws.moves s0 ahead t a e) other least in
            stops ahead k.0 u r stop stays below k.1)
      ]
  run_ahead end s all (more e0 s0 next u r outs rest least below goes run) ahead t a lt e =
      elim (same_or_not r p) [
        | inl same ↦ (let P : ℕ → Type 0 = λ x. m.step x s0 ≡ Makes next outs in
            let joined = same_makes next ahead outs [] (sym (subst P same goes) ∙ e) in
            let Q : S → Type 0 = λ x. Runs m limit e0 x rest in
            let R : List O → Type 0 = λ x. Runs m limit e0 ahead (x ++ rest) in
            subst R (sym joined.1) (subst Q joined.0 run))
        | inr other ↦ (let c = laws.commutes s0 ahead next t u r outs a e least other goes in
            let rec = run_ahead e0 next rest run c.1.0 t c.0 lt c.1.1 in
            let stays = least_stays (m.dues s0) (m.dues ahead) p t u r (laws.moves s0 ahead t a e) other least in
            more e0 ahead c.1.0 u r outs rest stays below c.1.2 rec)
      ]

  -- a step that comes next, and then the run goes on
  steps_first : (end : Ending S L) (s ahead : S) (all : List O) (t : Tick) → t.0 < limit → m.step p s ≡ Makes ahead [] → IsLeast (m.dues s) t p
      → Runs m limit end ahead all → Runs m limit end s all
  steps_first end s ahead all t lt e least run = more end s ahead t p [] all least lt e run

  -- the state before a private step of p, where another actor steps first afterwards, and so did before: as that actor's step came to this or that
  back_step : (s ahead : S) (t u : Tick) (r : ℕ) (next₁ : S) (outs rest : List O) (end : Ending S L) → Private s t → m.step p s ≡ Makes ahead []
      → IsLeast (m.dues s) u r → r ≢ p → u.0 < limit → m.step r ahead ≡ Makes next₁ outs
      → ((next : S) → Private next t → m.step p next ≡ Makes next₁ [] → Runs m limit end next rest)
      → (came : MachineStep S O L) → m.step r s ≡ came → Runs m limit end s (outs ++ rest)
  back_step s ahead t u r next₁ outs rest end a e least ne below goes rec (Stops stop left) came =
      let k = laws.halts s ahead left t u r stop a e least ne came in
      absurd (not_both next₁ k.0 outs stop (sym goes ∙ k.1))
  back_step s ahead t u r next₁ outs rest end a e least ne below goes rec (Makes next outs₂) came =
      let c = laws.commutes s ahead next t u r outs₂ a e least ne came in
      let same = same_makes c.1.0 next₁ outs₂ outs (sym c.1.2 ∙ goes) in
      let P : S → Type 0 = λ x. m.step p next ≡ Makes x [] in
      let Q : List O → Type 0 = λ x. Runs m limit end s (x ++ rest) in
      subst Q same.1 (more end s next u r outs₂ rest least below came (rec next c.0 (subst P same.0 c.1.1)))

  back_stop : (s ahead after : S) (t u : Tick) (r : ℕ) (stop : L) → Private s t → m.step p s ≡ Makes ahead []
      → IsLeast (m.dues s) u r → r ≢ p → u.0 < limit → m.step r ahead ≡ Stops stop after
      → (came : MachineStep S O L) → m.step r s ≡ came → Runs m limit (Stopped stop) s []
  back_stop s ahead after t u r stop a e least ne below halts (Stops stop₂ left) came =
      let k = laws.halts s ahead left t u r stop₂ a e least ne came in
      let same = same_stops k.0 after stop₂ stop (sym k.1 ∙ halts) in
      let Q : L → Type 0 = λ x. Runs m limit (Stopped x) s [] in
      subst Q same.0 (stops s left u r stop₂ least below came)
  back_stop s ahead after t u r stop a e least ne below halts (Makes next outs) came =
      let c = laws.commutes s ahead next t u r outs a e least ne came in
      absurd (not_both c.1.0 after outs stop (sym c.1.2 ∙ halts))

  -- and back: a run from the state after a private step is the run from the state before it
  pub run_back : (end : Ending S L) (ahead : S) (all : List O) → Runs m limit end ahead all
      → (s : S) (t : Tick) → Private s t → t.0 < limit → m.step p s ≡ Makes ahead [] → Runs m limit end s all
  run_back end ahead all (over s0 h) s t a lt e =
      let least = mover_was (m.dues s) (m.dues s0) p t (laws.moves s s0 t a e) (λ q v ne due. (let le = h q v due in inl (omega (arith, le, lt)))) in
      steps_first (At s0) s s0 [] t lt e least (over s0 h)
  run_back end ahead all (stops s0 after u r stop least below halts) s t a lt e =
      let moves = laws.moves s s0 t a e in
      elim (which_first t p u r) [
        | inl before ↦ steps_first (Stopped stop) s s0 [] t lt e (first_was (m.dues s) (m.dues s0) p t u r moves least before) (stops s0 after u r stop least below halts)
        | inr before ↦ (let ne = is_other (m.dues s) (m.dues s0) p t u r moves least before in
            let was = least_was (m.dues s) (m.dues s0) p t u r moves ne least (not_before t p u r before) in
            back_stop s s0 after t u r stop a e was ne below halts (m.step r s) refl)
      ]
  run_back end ahead all (more e0 s0 next u r outs rest least below goes run) s t a lt e =
      let moves = laws.moves s s0 t a e in
      elim (which_first t p u r) [
        | inl before ↦ steps_first e0 s s0 (outs ++ rest) t lt e (first_was (m.dues s) (m.dues s0) p t u r moves least before)
            (more e0 s0 next u r outs rest least below goes run)
        | inr before ↦ (let ne = is_other (m.dues s) (m.dues s0) p t u r moves least before in
            let was = least_was (m.dues s) (m.dues s0) p t u r moves ne least (not_before t p u r before) in
            back_step s s0 t u r next outs rest e0 a e was ne below goes (λ n b f. run_back e0 next rest run n t b lt f) (m.step r s) refl)
      ]

pub ahead_agrees : {S O L : Type 0} (m : TickMachine S O L) (p : ℕ) (Private : S → Tick → Type 0) → MayRunAhead m p Private → AheadAgrees m p Private
ahead_agrees m p Private laws limit end outs s ahead t a lt e =
    (λ run. run_ahead m limit p Private laws end s outs run ahead t a lt e, λ run. run_back m limit p Private laws end ahead outs run s t a lt e)

-- the two laws are enough
pub ahead_from_own : {S O L Own : Type 0} (m : TickMachine S O L) (p : ℕ) (put : Own → S → S) (after : S → Own) (Private : S → Tick → Type 0)
    → HasOwnPart m p put after Private → MayRunAhead m p Private
ahead_from_own {S} {O} {L} {Own} m p put after Private two = record {
  moves = λ s ahead t a e. (let P : S → Type 0 = λ x. MovesOn p t (m.dues s) (m.dues x) in subst P (comes s ahead t a e) (two.moves s t a));
  commutes = λ s ahead next t u r outs a e least ne goes.
      (let k = two.outer s next t u r outs a least ne goes in
      let P : S → Type 0 = λ x. m.step r x ≡ Makes (put (after s) next) outs in
      let Q : Own → Type 0 = λ x. m.step p next ≡ Makes (put x next) [] in
      (k.2, (put (after s) next, subst Q k.1 (two.inner next t k.2), subst P (comes s ahead t a e) k.0)));
  halts = λ s ahead left t u r stop a e least ne stops.
      (let k = two.halts s left t u r stop a least ne stops in
      let P : S → Type 0 = λ x. m.step r x ≡ Stops stop k.0 in
      (k.0, subst P (comes s ahead t a e) k.1));
} where
  comes : (s ahead : S) (t : Tick) → Private s t → m.step p s ≡ Makes ahead [] → put (after s) s ≡ ahead
  comes s ahead t a e = (same_makes (put (after s) s) ahead [] [] (sym (two.inner s t a) ∙ e)).0
