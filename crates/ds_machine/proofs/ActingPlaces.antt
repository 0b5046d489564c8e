use Rattle.ds_machine.proofs.Words.{ActsUnobserving, Geometry, IsAhead, IsLeast, IsSound, List, MachineState, Makes, Nine, Option, Proc, Seven, Shown}
use Rattle.ds_machine.proofs.Words.{Some, Tick, [], acting_due, acting_dues, actor_of, actors_differ, ap, arith, due_at, due_by, due_of_rank}
use Rattle.ds_machine.proofs.Words.{geometry_rank, inl, inr, is_later, is_numbered, is_quiet, none-some, rank_of, reference_step, same_makes}
use Rattle.ds_machine.proofs.Words.{same_or_not, subst, sym, true, true_or_false, ℕ, ◌*◌, ◌+◌, ◌-◌, ◌<◌, ◌∙◌, ◌≡◌, ◌≢◌, ◌≤◌, ◌⊎◌}
use Rattle.ds_runs.specs.ScheduleLaws.{places_remaining}
use Rattle.ds_runs.proofs.Places.{remaining_at, remaining_below}
use Rattle.ds_machine.proofs.ActingDues.{acting_low, acting_of_rank, acts_where_due, due_where_acts, loud_by}
use Rattle.ds_machine.proofs.ActingSteps.{Acted, CaughtUp, caught_steps, caught_up}
use Rattle.ds_machine.proofs.InnerLaw.{private_is_harmless}
use Rattle.ds_machine.proofs.LagSteps.{quiet_acts_never}
use Rattle.ds_machine.proofs.MachineSchedule.{Steps, owes_as}
use Rattle.ds_machine.proofs.QuietStays.{quiet_next}
use Rattle.ds_machine.proofs.StepsAhead.{StepsAhead, harmless_goes}
use Rattle.ds_machine.proofs.StepsMay.{MayThen}

-- The places of acting actors in the order of steps: a step of a turn leaves no more of them, and that of the least fewer.

-- ---- a processor's step before its turn leaves geometry quiet, or not quiet, as it was

ahead_quiet : (s next : MachineState) (proc : Proc) (rank : ℕ) (outs : List Shown) → IsSound s → IsAhead s proc → rank ≡ rank_of proc → reference_step rank s ≡ Makes next outs
    → is_quiet next.io ≡ is_quiet s.io
ahead_quiet s next proc rank outs sound ahead is h =
    let g = harmless_goes s proc (private_is_harmless s proc ahead.private) sound in
    let makes = subst (λ (r : ℕ). reference_step r s ≡ Makes next outs) is h in
    by_own proc (subst (λ (m : MachineState). StepsAhead s m proc) (same_makes g.next next [] outs (sym g.makes ∙ makes)).0 g.steps) where
      by_own : (each : Proc) → StepsAhead s next each → is_quiet next.io ≡ is_quiet s.io
      by_own Nine st = ap (λ (m : MachineState). is_quiet m.io) st.own.2
      by_own Seven st = ap (λ (m : MachineState). is_quiet m.io) st.own.1

-- ---- where an actor acts after the step

-- it acted there before and isn't the one that stepped, or it acts at a later place
abbrev ActsSince : MachineState → Tick → ℕ → ℕ → Tick → Type 0
ActsSince s tick rank q u = ((q ≢ rank) × (due_at (acting_dues s) q ≡ Some u)) ⊎ (24 * tick.0 + rank < 24 * u.0 + q)

module _ (s next : MachineState) (tick : Tick) (rank : ℕ) (outs : List Shown) (sound : IsSound s) (acted : Acted s next tick rank outs) where
  abbrev caught : MachineState
  caught = acted.caught

  since_caught : CaughtUp s caught tick rank
  since_caught = caught_up s tick rank sound caught acted.may acted.catches

  steps : Steps (actor_of rank) rank tick caught
  steps = caught_steps s caught tick rank since_caught

  rank_low : rank < 24
  rank_low = acting_low caught rank tick since_caught.acts

  later_then : (q : ℕ) (u : Tick) → tick.0 < u.0 → ActsSince s tick rank q u
  later_then q u lt = let low = rank_low in inr (omega (arith, lt, low))

  acted_before : (q : ℕ) (u : Tick) → q ≢ rank → due_at (acting_dues caught) q ≡ Some u → ActsSince s tick rank q u
  acted_before q u ne h = inl (ne, ap (λ (dues : List (Option Tick)). due_at dues q) (sym since_caught.so.dues) ∙ h)

  -- geometry begins to act again only where the step was that of the least of all
  quiet_since : (u : Tick) → rank ≢ geometry_rank → is_quiet caught.io ≡ true → due_by Geometry caught ≡ Some u → acting_due Geometry next ≡ Some u
      → MayThen caught rank tick → ActsSince s tick rank geometry_rank u
  quiet_since u ne quiet due acts may = elim may [
    | inl least ↦ elim (least.least geometry_rank u (due_of_rank caught geometry_rank (omega arith) ∙ due)) [
      | inl lt ↦ later_then geometry_rank u lt
      | inr same ↦ (let e = same.0 in let le = same.1 in inr (omega (arith, e, le, ne)))
    ]
    | inr other ↦ absurd (none-some u (sym (quiet_acts_never next (still other)) ∙ acts))
  ] where
    still : ActsUnobserving caught rank tick ⊎ ((proc : Proc) × (rank ≡ rank_of proc) × IsAhead caught proc) → is_quiet next.io ≡ true
    still (inl apart) = quiet_next caught rank tick since_caught.so.sound.parts apart quiet next outs acted.makes
    still (inr k) = ahead_quiet caught next k.0 rank outs since_caught.so.sound k.2 k.1 acted.makes ∙ quiet

  geometry_since : (u : Tick) → rank ≢ geometry_rank → due_by Geometry caught ≡ Some u → acting_due Geometry next ≡ Some u → ActsSince s tick rank geometry_rank u
  geometry_since u ne due acts = elim (true_or_false (is_quiet caught.io)) [
    | inl quiet ↦ quiet_since u ne quiet due acts since_caught.may
    | inr loud ↦ acted_before geometry_rank u (λ e. ne (sym e)) (acting_of_rank caught geometry_rank (omega arith) ∙ loud_by caught loud Geometry ∙ due)
  ]

  kept_since : (q : ℕ) (u : Tick) → q < 24 → q ≢ rank → due_by (actor_of q) caught ≡ Some u → due_at (acting_dues next) q ≡ Some u → ActsSince s tick rank q u
  kept_since q u low ne due acts = elim (same_or_not q geometry_rank) [
    | inl same ↦
        (let P : ℕ → Type 0 = λ x. ActsSince s tick rank x u in
        subst P (sym same)
        (geometry_since u (λ e. ne (same ∙ sym e)) (subst (λ (x : ℕ). due_by (actor_of x) caught ≡ Some u) same due)
        (sym (acting_of_rank next geometry_rank (omega arith)) ∙ subst (λ (x : ℕ). due_at (acting_dues next) x ≡ Some u) same acts)))
    | inr other ↦ acted_before q u ne (acting_of_rank caught q low ∙ acts_where_due (actor_of q) caught (actors_differ geometry_rank q (omega arith) low other) ∙ due)
  ]

  pub acts_since : (q : ℕ) (u : Tick) → due_at (acting_dues next) q ≡ Some u → ActsSince s tick rank q u
  acts_since q u acts =
      let low = acting_low next q u acts in
      let due : due_by (actor_of q) next ≡ Some u = sym (due_of_rank next q low) ∙ due_where_acts next q u acts in
      let owes = owes_as caught next tick rank outs steps acted.makes in
      elim (same_or_not q rank) [
        | inl same ↦ later_then q u (is_later tick (due_by (actor_of rank) next) u owes.own (subst (λ (x : ℕ). due_by (actor_of x) next ≡ Some u) same due))
        | inr ne ↦ elim (owes.moves (actor_of q) (is_numbered q low)) [
          | inl kept ↦ kept_since q u low ne (sym kept ∙ due) acts
          | inr later ↦ later_then q u (is_later tick (due_by (actor_of q) next) u later due)
        ]
      ]

  -- ---- so many places are left below a limit

  pub no_more_places : (until : ℕ) → places_remaining 24 until 0 (acting_dues next) ≤ places_remaining 24 until 0 (acting_dues s)
  no_more_places until =
      let here = remaining_at 24 until 0 (acting_dues s) rank tick acted.may.due in
      remaining_below 24 until 0 (places_remaining 24 until 0 (acting_dues s)) (acting_dues next) (λ q u acts.
      elim (acts_since q u acts) [
        | inl before ↦ remaining_at 24 until 0 (acting_dues s) q u before.1
        | inr later ↦ omega (arith, later, here)
      ])

  pub fewer_places : (until : ℕ) → IsLeast (acting_dues s) tick rank → tick.0 < until → places_remaining 24 until 0 (acting_dues next) < places_remaining 24 until 0 (acting_dues s)
  fewer_places until least below =
      let here = remaining_at 24 until 0 (acting_dues s) rank tick least.there in
      let low = rank_low in
      let bound : ℕ = 24 * until - (24 * tick.0 + rank) - 1 in
      let rest = remaining_below 24 until 0 bound (acting_dues next) (λ q u acts. (let k = past q u (acts_since q u acts) in omega (arith, k, low, below))) in
      omega (arith, here, low, below, rest) where
        past : (q : ℕ) (u : Tick) → ActsSince s tick rank q u → 24 * tick.0 + rank < 24 * u.0 + q
        past q u (inl before) = (let ne = before.0 in
            let low = rank_low in
            elim (least.least q u before.1) [
              | inl lt ↦ omega (arith, lt, low)
              | inr same ↦ (let e = same.0 in let le = same.1 in omega (arith, e, le, ne))
            ])
        past q u (inr later) = later

pub acted_fewer : (s next : MachineState) (tick : Tick) (rank : ℕ) (outs : List Shown) (until : ℕ) → IsSound s → IsLeast (acting_dues s) tick rank → tick.0 < until
    → Acted s next tick rank outs → places_remaining 24 until 0 (acting_dues next) < places_remaining 24 until 0 (acting_dues s)
acted_fewer s next tick rank outs until sound least below acted = fewer_places s next tick rank outs sound acted until least below

pub acted_no_more : (s next : MachineState) (tick : Tick) (rank : ℕ) (outs : List Shown) (until : ℕ) → IsSound s → Acted s next tick rank outs
    → places_remaining 24 until 0 (acting_dues next) ≤ places_remaining 24 until 0 (acting_dues s)
acted_no_more s next tick rank outs until sound acted = no_more_places s next tick rank outs sound acted until
