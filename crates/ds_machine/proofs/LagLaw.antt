use Rattle.ds_machine.proofs.Words.{AreWaiting, Geometry, GxState, HasSoundParts, IsLater, IsLeast, IsNumbered, IsSound, LagRuns, LagStops, LeftOut}
use Rattle.ds_machine.proofs.Words.{List, MachineState, MachineStep, Makes, MayLag, MayStepFirst, None, Option, Reschedules, Shown, Some, StepsBefore}
use Rattle.ds_machine.proofs.Words.{StepsBeforeGeometry, Stops, Tick, [], acting_due, acting_dues, actor_of, actors, any_armed, ap, arith, at_rank}
use Rattle.ds_machine.proofs.Words.{awake, due_at, due_by, due_of_least, due_of_rank, dues_of, ended, false, geometry_rank, gx_finished, inl, inr}
use Rattle.ds_machine.proofs.Words.{is_later, is_quiet, is_some, is_stalled, least_unique, reference, reference_step, refl, same_makes, step_by}
use Rattle.ds_machine.proofs.Words.{step_with, steps_as, subst, sym, true, true_or_false, ℕ, ◌<◌, ◌∙◌, ◌≡◌, ◌≢◌, ◌≤◌, ◌⊎◌}
use Rattle.ds_runs.specs.declared.actors.Actor as actor
use Rattle.ds_runs.proofs.Lags as lags
use Rattle.ds_machine.proofs.ActingDues.{acting_low, acting_of_rank, acts_where_due, loud_same, maps_same}
use Rattle.ds_machine.proofs.GeometryFirst.{least_acting, least_geometry, not_later, one_first}
use Rattle.ds_machine.proofs.LagCommutes.{apart_commutes, arms_left, ended_disarmed, ended_gx_left, ended_late, gx_commutes, gx_left, gx_put, late_put}
use Rattle.ds_machine.proofs.LagSteps.{QuietLeaves, acting_same, due_so, is_geometry, observes_same, others_due, quiet_acts_never, quiet_leaves, quiet_parts, quiet_step, quiet_where_due, sound_late}
use Rattle.ds_machine.proofs.MachineSchedule.{Owes, awake_makes, awake_stops, owes_by, steps_here}
use Rattle.ds_machine.proofs.Moves.{Moves, moves_all, then_all}
use Rattle.ds_machine.proofs.Wakes.{ended_asleep, ended_settled, ends}

-- A step that doesn't observe geometry may be taken before quiet geometry's steps that are due before it.

-- ---- what is due, by rank

-- the step of which all this is said
module _ (s : MachineState) (r : ℕ) (t : Tick) (b : StepsBeforeGeometry s r t) where
  own_low : r < 24
  own_low = acting_low s r t b.acts.least.there

  not_twelve : r ≢ geometry_rank
  not_twelve same = b.other (subst (λ (x : ℕ). actor_of x ≡ Geometry) (sym same) refl)

  own_due : due_by (actor_of r) s ≡ Some t
  own_due = sym (acts_where_due (actor_of r) s b.other) ∙ sym (acting_of_rank s r own_low) ∙ b.acts.least.there

  own_there : due_at (dues_of s) r ≡ Some t
  own_there = due_of_rank s r own_low ∙ own_due

-- ---- it is the least, or quiet geometry is

steps_first : (s : MachineState) (r : ℕ) (t : Tick) → StepsBeforeGeometry s r t → MayStepFirst reference geometry_rank r s t
steps_first s r t b = record { other = not_twelve s r t b; there = own_there s r t b; least = go } where
  go : IsLeast (dues_of s) t r ⊎ ((u : Tick) × IsLeast (dues_of s) u geometry_rank × (u.0 ≤ t.0))
  go = elim (true_or_false (is_quiet s.io)) [
    | inr loud ↦ inl (subst (λ (dues : List (Option Tick)). IsLeast dues t r) (loud_same s loud) b.acts.least)
    | inl quiet ↦ (let k = quiet_parts s.io quiet in
        elim (one_first k.tick.0 geometry_rank t.0 r) [
          | inl late ↦ inr (k.tick, least_geometry s k.tick k.due t.0 r (λ other at h. b.acts.least.least other at h) late, not_later k.tick.0 geometry_rank t.0 r late)
          | inr early ↦ inl (least_acting s k.tick k.due t r b.acts.least (own_there s r t b) early)
        ])
  ]

-- ---- geometry's step that is due before it

module _ (s : MachineState) (r : ℕ) (t u : Tick) (b : StepsBeforeGeometry s r t) (least : IsLeast (dues_of s) u geometry_rank) where
  is_quiet_then : is_quiet s.io ≡ true
  is_quiet_then = elim (true_or_false (is_quiet s.io)) [
    | inl quiet ↦ quiet
    | inr loud ↦ (let same = subst (λ (dues : List (Option Tick)). IsLeast dues t r) (loud_same s loud) b.acts.least in
        absurd (not_twelve s r t b (least_unique (dues_of s) t r u geometry_rank same least).1))
  ]

  is_due_then : s.io.gx.due ≡ Some u
  is_due_then = due_of_least s geometry_rank u least

  is_before : u.0 ≤ t.0
  is_before = not_later u.0 geometry_rank t.0 r (least.least r t (own_there s r t b))

  abbrev finished : GxState
  finished = gx_finished s.io.gx

  after_it : QuietLeaves s.io.gx u
  after_it = quiet_leaves s u b.sound is_quiet_then is_due_then

  waits_still : StepsBeforeGeometry (late_put finished s) r t
  waits_still = record {
    sound = sound_late s b.sound is_quiet_then;
    acts = record {
      least = subst (λ (dues : List (Option Tick)). IsLeast dues t r) (sym (acting_same s b.sound is_quiet_then)) b.acts.least;
      unobserving = observes_same (actor_of r) finished s ∙ b.acts.unobserving;
    };
    other = b.other;
  }

  geometry_steps : StepsBefore reference geometry_rank r StepsBeforeGeometry s t u
  geometry_steps = record {
    next = late_put finished s;
    makes = quiet_step s b.sound is_quiet_then;
    later = subst (IsLater u) (sym (due_of_rank (late_put finished s) geometry_rank (omega arith))) after_it.later;
    still = waits_still;
  }

-- ---- what the step makes of due ticks: where geometry is hidden, as though a swap waited, the actor is the least of all

abbrev hidden : GxState → GxState
hidden g = record g { due = None; swap_waits = true }

hides : (s : MachineState) → is_quiet s.io ≡ true → (a : actor.Actor) → acting_due a s ≡ due_by a (gx_put (hidden s.io.gx) s)
hides s quiet Geometry = quiet_acts_never s quiet
hides s quiet a = sym (due_so a (hidden s.io.gx) s refl refl)

hidden_dues : (s : MachineState) → is_quiet s.io ≡ true → acting_dues s ≡ dues_of (gx_put (hidden s.io.gx) s)
unfolding acting_dues dues_of
hidden_dues s quiet = maps_same (λ (a : actor.Actor). acting_due a s) (λ (a : actor.Actor). due_by a (gx_put (hidden s.io.gx) s)) (hides s quiet) actors

hidden_sound : (s : MachineState) → HasSoundParts s → HasSoundParts (gx_put (hidden s.io.gx) s)
hidden_sound s sound =
    let waits = sound.io.gx in
    record {
      io = record { nine = sound.io.nine; seven = sound.io.seven; gx = record { entries = waits.entries; packed = waits.packed; given = waits.given; due = refl } };
      keys = sound.keys;
    }

-- what such a step comes to, and what follows it
record Steps (s next : MachineState) (r : ℕ) (t : Tick) (outs : List Shown) : Type 0 where
  made : MachineState
  took : step_by r (actor_of r) s ≡ Makes made outs
  ended_so : ended t made ≡ next
  parts : HasSoundParts made
  moves : Moves t s next
  sound : IsSound next
  gx : next.io.gx ≡ s.io.gx
  made_gx : made.io.gx ≡ s.io.gx
  made_arms : any_armed made.io.nine.dma ≡ false
  arms : any_armed next.io.nine.dma ≡ false

module _ (s made : MachineState) (r : ℕ) (t : Tick) (outs : List Shown) (b : StepsBeforeGeometry s r t) (quiet : is_quiet s.io ≡ true)
    (took : step_by r (actor_of r) s ≡ Makes made outs) where
  gx_stays : made.io.gx ≡ s.io.gx
  gx_stays = gx_left r (actor_of r) s made outs b.other b.acts.unobserving took

  arms_stay : any_armed made.io.nine.dma ≡ false
  arms_stay = arms_left r (actor_of r) s made outs b.other b.acts.unobserving took (quiet_parts s.io quiet).disarmed

  hidden_step : step_by r (actor_of r) (gx_put (hidden s.io.gx) s) ≡ Makes (gx_put (hidden s.io.gx) made) outs
  hidden_step = gx_commutes r (actor_of r) (hidden s.io.gx) s b.other b.acts.unobserving refl ∙ ap (step_with (gx_put (hidden s.io.gx))) took

  hidden_owes : Owes (actor_of r) t (gx_put (hidden s.io.gx) s) (gx_put (hidden s.io.gx) made)
  hidden_owes =
      let s0 = gx_put (hidden s.io.gx) s in
      let least = subst (λ (dues : List (Option Tick)). IsLeast dues t r) (hidden_dues s quiet) b.acts.least in
      owes_by (actor_of r) r t s0 (gx_put (hidden s.io.gx) made) outs (steps_here s0 t r (hidden_sound s b.sound.parts) least) hidden_step

  shown_moves : (a : actor.Actor) → is_geometry a ≡ false → IsNumbered a → Reschedules t (due_by a s) (due_by a made)
  shown_moves a other n =
      let g = hidden s.io.gx in
      let stalled : is_stalled g ≡ is_stalled made.io.gx = ap (λ (x : GxState). is_stalled x) (sym gx_stays) in
      subst (λ (o : Option Tick). Reschedules t o (due_by a made)) (due_so a g s other refl)
      (subst (λ (o : Option Tick). Reschedules t (due_by a (gx_put g s)) o) (due_so a g made other stalled) (hidden_owes.moves a n))

  made_moves : Moves t s made
  made_moves Geometry n = inl (ap (λ (g : GxState). g.due) gx_stays)
  made_moves a n = shown_moves a refl n

  made_parts : HasSoundParts made
  made_parts = record {
    io = record { nine = hidden_owes.sound.io.nine; seven = hidden_owes.sound.io.seven; gx = subst AreWaiting (sym gx_stays) b.sound.parts.io.gx };
    keys = hidden_owes.sound.keys;
  }

  end_made : Steps s (ended t made) r t outs
  end_made =
      let w = ends t made made_parts in
      record {
        made = made;
        took = took;
        ended_so = refl;
        parts = made_parts;
        moves = then_all t s made (ended t made) made_moves w.moves;
        sound = record { parts = w.sound; asleep = ended_asleep t made; settled = ended_settled t made made_parts.io };
        gx = ended_gx_left t made made_parts.io.nine.dma.four arms_stay ∙ gx_stays;
        made_gx = gx_stays;
        made_arms = arms_stay;
        arms = ended_disarmed t made made_parts.io.nine.dma.four arms_stay;
      }

-- ---- the two steps in either order

module _ (s late : MachineState) (r : ℕ) (t u : Tick) (b : StepsBeforeGeometry s r t) (least : IsLeast (dues_of s) u geometry_rank) (goes : reference_step geometry_rank s ≡ Makes late []) where
  quiet : is_quiet s.io ≡ true
  quiet = is_quiet_then s r t u b least

  abbrev g : GxState
  g = gx_finished s.io.gx

  leaves : QuietLeaves s.io.gx u
  leaves = after_it s r t u b least

  late_is : late_put g s ≡ late
  late_is = (same_makes (late_put g s) late [] [] (sym (quiet_step s b.sound quiet) ∙ goes)).0

  -- what it comes to after geometry's
  there : (came : MachineStep MachineState Shown LeftOut) → step_by r (actor_of r) s ≡ came → reference_step r late ≡ awake (Some t) (step_with (late_put g) came)
  there came took =
      let a = actor_of r in
      let free = (quiet_parts s.io quiet).free in
      let due = others_due a g s b.other (leaves.free ∙ sym free) ∙ own_due s r t b in
      let step = apart_commutes r a g s b.other b.acts.unobserving leaves.free free ∙ ap (step_with (late_put g)) took in
      subst (λ (m : MachineState). reference_step r m ≡ awake (Some t) (step_with (late_put g) came)) late_is
      (steps_as (late_put g s) r a (Some t) (awake (Some t) (step_with (late_put g) came)) refl due (ap (awake (Some t)) step))

  steps_so : (next : MachineState) (outs : List Shown) → reference_step r s ≡ Makes next outs → Steps s next r t outs
  steps_so next outs h =
      let came = step_by r (actor_of r) s in
      let k = awake_makes t came next outs (subst (λ (o : Option Tick). awake o came ≡ Makes next outs) (own_due s r t b) h) in
      subst (λ (m : MachineState). Steps s m r t outs) k.2 (end_made s k.0 r t outs b quiet k.1)

  halts : (left : MachineState) (stop : LeftOut) → reference_step r s ≡ Stops stop left → (after : MachineState) × (reference_step r late ≡ Stops stop after)
  halts left stop h = (late_put g left, there (Stops stop left) (awake_stops (due_by (actor_of r) s) (step_by r (actor_of r) s) left stop h))

  module _ (next : MachineState) (outs : List Shown) (k : Steps s next r t outs) where
    least_still : IsLeast (dues_of next) u geometry_rank
    least_still = record { there = due_of_rank next geometry_rank (omega arith) ∙ ap (λ (x : GxState). x.due) k.gx ∙ is_due_then s r t u b least; least = go } where
      go : (other : ℕ) (at : Tick) → due_at (dues_of next) other ≡ Some at → (u.0 < at.0) ⊎ ((u.0 ≡ at.0) × (geometry_rank ≤ other))
      go other at h = elim (at_rank t (dues_of s) (dues_of next) (moves_all t s next k.moves) other) [
        | inl same ↦ least.least other at (sym same ∙ h)
        | inr later ↦ (let lt = is_later t (due_at (dues_of next) other) at later h in let le = is_before s r t u b least in inl (omega (arith, lt, le)))
      ]

    own_after : reference_step r late ≡ Makes (late_put g next) outs
    own_after =
        let q = quiet_parts s.io quiet in
        let made : ended t (late_put g k.made) ≡ late_put g next =
        ended_late t g k.made k.parts.io.nine.dma.four k.made_arms (ap (λ (x : GxState). x.selector) k.made_gx ∙ q.selector) leaves.selector
        (leaves.free ∙ sym (ap (λ (x : GxState). is_stalled x) k.made_gx ∙ q.free)) ∙ ap (late_put g) k.ended_so in
        there (Makes k.made outs) k.took ∙ ap (λ (m : MachineState). (let step : MachineStep MachineState Shown LeftOut = Makes m outs in step)) made

    still_quiet : is_quiet next.io ≡ true
    still_quiet =
        let q = quiet_parts s.io quiet in
        quiet_where_due next.io (ap (λ (x : GxState). x.selector) k.gx ∙ q.selector) k.arms (ap (λ (x : GxState). is_stalled x) k.gx ∙ q.free)
        ∙ ap is_some (ap (λ (x : GxState). x.due) k.gx ∙ q.due)

    geometry_after_it : reference_step geometry_rank next ≡ Makes (late_put g next) []
    geometry_after_it =
        quiet_step next k.sound still_quiet
        ∙ ap (λ (x : GxState). (let step : MachineStep MachineState Shown LeftOut = Makes (late_put (gx_finished x) next) [] in step)) k.gx

pub may_lag : MayLag reference geometry_rank StepsBeforeGeometry
may_lag = record {
  first = steps_first;
  steps = λ s r t u b least. geometry_steps s r t u b least;
  commutes = λ s late next r t u outs b least goes h.
      (let k = steps_so s late r t u b least goes next outs h in (
        least_still s late r t u b least goes next outs k,
        (late_put (gx_finished s.io.gx) next, own_after s late r t u b least goes next outs k, geometry_after_it s late r t u b least goes next outs k),
      ));
  halts = λ s late left r t u stop b least goes h. halts s late r t u b least goes left stop h;
}

pub lag_runs : LagRuns
lag_runs s next rank tick limit outs b lt h end rest = lags.lag_agrees reference geometry_rank StepsBeforeGeometry may_lag limit end outs rest s next rank tick b lt h

pub lag_stops : LagStops
lag_stops s after rank tick limit stop b lt h = lags.lag_stops reference geometry_rank StepsBeforeGeometry may_lag limit s after rank tick stop b lt h
