use Rattle.ds_machine.proofs.Words.{Bool, IsLeast, IsSound, LeftOut, List, MachineState, Makes, Option, Shown, Some, StepsBefore, StepsBeforeGeometry}
use Rattle.ds_machine.proofs.Words.{Stops, Tick, [], acting_dues, actor_of, actors_differ, ap, arith, due_at, due_of_least, dues_of, false}
use Rattle.ds_machine.proofs.Words.{geometry_rank, inl, inr, is_due_before, is_later, is_quiet, least_unique, more_geometry, nat_lt, no_geometry}
use Rattle.ds_machine.proofs.Words.{none-some, observes_by, reference, reference_step, subst, sym, true, true_or_false, ℕ, ◌&&◌, ◌+◌, ◌==◌, ◌||◌, ◌∙◌}
use Rattle.ds_machine.proofs.Words.{◌≡◌, ◌≢◌, ◌⊎◌}
use Rattle.ds_machine.proofs.ActingDues.{acting_low, acting_of_rank, loud_same}
use Rattle.ds_machine.proofs.CatchingUp.{CaughtSo, caught_so}
use Rattle.ds_machine.proofs.LagLaw.{may_lag}
use Rattle.ds_machine.proofs.LagSteps.{quiet_acts_never}

-- The step of the least acting actor, at the tick at which the least of all is due: it is the least of all, or quiet geometry's step comes before it, and then it is.

-- quiet geometry is due at that tick, and before the actor; once it stepped the actor is the least of all
pub record WaitsForGeometry (s : MachineState) (tick : Tick) (rank : ℕ) : Type 0 where
  pub due : Tick
  pub same : due.0 ≡ tick.0
  pub geometry : IsLeast (dues_of s) due geometry_rank
  pub late : MachineState
  pub steps : reference_step geometry_rank s ≡ Makes late []
  pub least : IsLeast (dues_of late) tick rank
  pub so : CaughtSo s late

-- and both steps come to the same in either order
pub record CrossesGeometry (s next : MachineState) (tick : Tick) (rank : ℕ) (outs : List Shown) : Type 0 where
  pub waits : WaitsForGeometry s tick rank
  pub both : MachineState
  pub then : reference_step rank waits.late ≡ Makes both outs
  pub still : IsLeast (dues_of next) waits.due geometry_rank
  pub last : reference_step geometry_rank next ≡ Makes both []

pub record StopsAfterGeometry (s : MachineState) (tick : Tick) (rank : ℕ) (stop : LeftOut) : Type 0 where
  pub waits : WaitsForGeometry s tick rank
  pub after : MachineState
  pub then : reference_step rank waits.late ≡ Stops stop after

-- geometry is behind the tick after its own
below_next : (u : ℕ) → (nat_lt u (u + 1) || ((u == u + 1) && nat_lt geometry_rank 0)) ≡ true
below_next u = grind arith

behind_next : (quiet : Bool) (due : Option Tick) (u : Tick) → quiet ≡ true → due ≡ Some u → (quiet && is_due_before due (u.0 + 1) 0) ≡ true
behind_next quiet due u q d = ap (λ (b : Bool). b && is_due_before due (u.0 + 1) 0) q ∙ ap (λ (o : Option Tick). is_due_before o (u.0 + 1) 0) d ∙ below_next u.0

module _ (s : MachineState) (tick due : Tick) (first rank : ℕ) (sound : IsSound s) (here : IsLeast (dues_of s) due first) (same : due.0 ≡ tick.0)
    (least : IsLeast (acting_dues s) tick rank) (apart : observes_by (actor_of rank) s ≡ false) where
  not_geometry : is_quiet s.io ≡ true → rank ≢ geometry_rank
  not_geometry quiet is =
      none-some tick (sym (quiet_acts_never s quiet) ∙ sym (acting_of_rank s geometry_rank (omega arith)) ∙ subst (λ (r : ℕ). due_at (acting_dues s) r ≡ Some tick) is least.there)

  before : is_quiet s.io ≡ true → StepsBeforeGeometry s rank tick
  before quiet = record { sound = sound; acts = record { least = least; unobserving = apart }; other = actors_differ geometry_rank rank (omega arith) (acting_low s rank tick least.there) (not_geometry quiet) }

  module _ (quiet : is_quiet s.io ≡ true) (u : Tick) (geometry : IsLeast (dues_of s) u geometry_rank) where
    steps : StepsBefore reference geometry_rank rank StepsBeforeGeometry s tick u
    steps = may_lag.steps s rank tick u (before quiet) geometry

    due_then : u.0 ≡ tick.0
    due_then = ap (λ (t : Tick). t.0) (least_unique (dues_of s) u geometry_rank due first geometry here).0 ∙ same

    least_late : IsLeast (dues_of steps.next) tick rank
    least_late = elim (may_lag.first steps.next rank tick steps.still).least [
      | inl now ↦ now
      | inr late ↦
          (let later = is_later u (due_at (dues_of steps.next) geometry_rank) late.0 steps.later late.1.there in
          let le = late.2 in
          let e = due_then in
          absurd (omega (arith, later, le, e)))
    ]

    late_so : CaughtSo s steps.next
    late_so =
        caught_so (u.0 + 1) 0 s steps.next sound (more_geometry s s steps.next (no_geometry s) (behind_next (is_quiet s.io) s.io.gx.due u quiet (due_of_least s geometry_rank u geometry)) steps.makes)

    waits_for : WaitsForGeometry s tick rank
    waits_for = record { due = u; same = due_then; geometry = geometry; late = steps.next; steps = steps.makes; least = least_late; so = late_so }

    crosses : (next : MachineState) (outs : List Shown) → reference_step rank s ≡ Makes next outs → CrossesGeometry s next tick rank outs
    unfolding waits_for
    crosses next outs h =
        let c = may_lag.commutes s steps.next next rank tick u outs (before quiet) geometry steps.makes h in
        record { waits = waits_for; both = c.1.0; then = c.1.1; still = c.0; last = c.1.2 }

    stops_then : (left : MachineState) (stop : LeftOut) → reference_step rank s ≡ Stops stop left → StopsAfterGeometry s tick rank stop
    unfolding waits_for
    stops_then left stop h =
        let c = may_lag.halts s steps.next left rank tick u stop (before quiet) geometry steps.makes h in record { waits = waits_for; after = c.0; then = c.1 }

  least_where_loud : is_quiet s.io ≡ false → IsLeast (dues_of s) tick rank
  least_where_loud loud = subst (λ (dues : List (Option Tick)). IsLeast dues tick rank) (loud_same s loud) least

  pub made_then : (next : MachineState) (outs : List Shown) → reference_step rank s ≡ Makes next outs → IsLeast (dues_of s) tick rank ⊎ CrossesGeometry s next tick rank outs
  made_then next outs h = elim (true_or_false (is_quiet s.io)) [
    | inr loud ↦ inl (least_where_loud loud)
    | inl quiet ↦ elim (may_lag.first s rank tick (before quiet)).least [ inl now ↦ inl now | inr late ↦ inr (crosses quiet late.0 late.1 next outs h) ]
  ]

  pub stopped_then : (left : MachineState) (stop : LeftOut) → reference_step rank s ≡ Stops stop left → IsLeast (dues_of s) tick rank ⊎ StopsAfterGeometry s tick rank stop
  stopped_then left stop h = elim (true_or_false (is_quiet s.io)) [
    | inr loud ↦ inl (least_where_loud loud)
    | inl quiet ↦ elim (may_lag.first s rank tick (before quiet)).least [ inl now ↦ inl now | inr late ↦ inr (stops_then quiet late.0 late.1 left stop h) ]
  ]
