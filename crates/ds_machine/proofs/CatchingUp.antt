use Rattle.ds_machine.proofs.Words.{Bool, CatchesUp, CatchesUpFor, CatchesUpIf, CatchingUpRuns, ComesBeforeAll, Ending, Geometry, GeometryCommand}
use Rattle.ds_machine.proofs.Words.{GxState, HasBothStatuses, HasNineStatuses, HasStatuses, IoState, IsEarly, IsLater, IsLeast, IsSome, IsSound}
use Rattle.ds_machine.proofs.Words.{LeftOut, List, MachineState, MachineStep, Makes, MayAct, NineState, None, Option, Runs, SevenState, Shown, Some}
use Rattle.ds_machine.proofs.Words.{Swapped, TakesGeometry, Tick, V4, [], acting_dues, actor_of, and_parts, ap, arith, complete_command, counts_of}
use Rattle.ds_machine.proofs.Words.{done_by, due_at, dues_of, false, geometry_after, geometry_rank, gx_finished, if◌then◌else◌, inl, inr, io_event}
use Rattle.ds_machine.proofs.Words.{is_behind, is_due_before, is_quiet, last_frame, last_lists, more_geometry, nat_lt, no_geometry, none-some}
use Rattle.ds_machine.proofs.Words.{observes_by, one_step, rank_of, reference, reference_step, refl, same_Some, same_makes, subst, sym, tick_after}
use Rattle.ds_machine.proofs.Words.{ticks_left, true, true_or_false, true≢false, with_gx, ℕ, ◌&&◌, ◌*◌, ◌+◌, ◌<◌, ◌==◌, ◌^◌, ◌||◌, ◌↔◌, ◌∙◌, ◌≡◌, ◌≤◌}
use Rattle.ds_machine.proofs.Words.{◌⊎◌}
use Rattle.ds_runs.specs.declared.actors.Actor as actor
use Rattle.ds_machine.proofs.ActingDues.{due_where_acts, loud_same}
use Rattle.ds_machine.proofs.GeometryFirst.{ComesFirst, least_acting, least_geometry}
use Rattle.ds_machine.proofs.LagCommutes.{late_put}
use Rattle.ds_machine.proofs.LagSteps.{acting_same, no_stall_ends, observes_same, quiet_leaves, quiet_parts, quiet_step, sound_late}
use Rattle.ds_machine.proofs.PrivateUnobserved.{rank_unobserved}

-- Quiet geometry's steps that are due before a place, where nobody acts before it: each is the least of all, and they change geometry alone, and the count of events.

-- ---- where geometry is behind

pub record Behind (tick rank : ℕ) (s : MachineState) : Type 0 where
  pub quiet : is_quiet s.io ≡ true
  pub next : Tick
  pub due : s.io.gx.due ≡ Some next
  pub earlier : (next.0 < tick) ⊎ ((next.0 ≡ tick) × (geometry_rank < rank))

earlier_place : (u tick rank : ℕ) → (nat_lt u tick || ((u == tick) && nat_lt geometry_rank rank)) ≡ true → (u < tick) ⊎ ((u ≡ tick) × (geometry_rank < rank))
earlier_place u tick rank h = grind (arith, h)

due_earlier : (due : Option Tick) (tick rank : ℕ) → is_due_before due tick rank ≡ true → (u : Tick) × (due ≡ Some u) × ((u.0 < tick) ⊎ ((u.0 ≡ tick) × (geometry_rank < rank)))
due_earlier None tick rank h = absurd (true≢false (sym h))
due_earlier (Some u) tick rank h = (u, refl, earlier_place u.0 tick rank h)

pub behind_is : (tick rank : ℕ) (s : MachineState) → is_behind tick rank s ≡ true → Behind tick rank s
behind_is tick rank s h =
    let k = and_parts (is_quiet s.io) (is_due_before s.io.gx.due tick rank) h in
    let d = due_earlier s.io.gx.due tick rank k.1 in
    record { quiet = k.0; next = d.0; due = d.1; earlier = d.2 }

-- its next step is the least of all, and earlier than the place
pub record BehindSteps (tick rank : ℕ) (s : MachineState) : Type 0 where
  pub next : Tick
  pub least : IsLeast (dues_of s) next geometry_rank
  pub early : next.0 ≤ tick
  pub earlier : 24 * next.0 + geometry_rank < 24 * tick + rank

pub behind_steps : (tick rank : ℕ) (s : MachineState) → ComesBeforeAll tick rank s → is_behind tick rank s ≡ true → BehindSteps tick rank s
behind_steps tick rank s before h =
    let k = behind_is tick rank s h in
    let first : ComesFirst k.next.0 geometry_rank tick rank = elim k.earlier [ inl lt ↦ inl lt | inr same ↦ (let low = same.1 in inr (same.0, omega (arith, low))) ] in
    record {
      next = k.next;
      least = least_geometry s k.next k.due tick rank before first;
      early = elim k.earlier [ inl lt ↦ omega (arith, lt) | inr same ↦ (let e = same.0 in omega (arith, e)) ];
      earlier = elim k.earlier [ inl lt ↦ omega (arith, lt) | inr same ↦ (let e = same.0 in let low = same.1 in omega (arith, e, low)) ];
    }

-- ---- what such steps leave

pub record CaughtSo (s now : MachineState) : Type 0 where
  pub sound : IsSound now
  pub dues : acting_dues now ≡ acting_dues s
  pub nine : now.nine ≡ s.nine
  pub seven : now.seven ≡ s.seven
  pub scan : now.io.video.scan ≡ s.io.video.scan
  pub frame : last_frame now ≡ last_frame s
  pub lists : last_lists now ≡ last_lists s
  pub more : counts_of s ≤ counts_of now
  -- all but geometry, and the count of events
  pub same : now ≡ record s { io = with_gx now.io.gx s.io; events = now.events }
  pub observes : (a : actor.Actor) → observes_by a now ≡ observes_by a s

stays_so : (s : MachineState) → IsSound s → CaughtSo s s
stays_so s sound = record {
  sound = sound;
  dues = refl;
  nine = refl;
  seven = refl;
  scan = refl;
  frame = refl;
  lists = refl;
  more = omega arith;
  same = refl;
  observes = λ a. refl;
}

-- a command leaves the lists of the last swap
last_kept : (due : Option Tick) (head : Option GeometryCommand) (g : GxState) → (done_by due head g).geometry.last ≡ g.geometry.last
unfolding geometry_after
last_kept None head g = refl
last_kept (Some now) None g = refl
last_kept (Some now) (Some command) g = refl

step_so : (s : MachineState) → IsSound s → is_quiet s.io ≡ true → CaughtSo s (late_put (gx_finished s.io.gx) s)
step_so s sound quiet = record {
  sound = sound_late s sound quiet;
  dues = acting_same s sound quiet;
  nine = refl;
  seven = refl;
  scan = refl;
  frame = refl;
  lists = ap (λ (last : Swapped). if last.tick.0 == 0 then None else Some last) (last_kept s.io.gx.due (complete_command s.io.gx.fifo.entries) s.io.gx);
  more = omega arith;
  same = refl;
  observes = λ a. observes_same a (gx_finished s.io.gx) s;
}

then_so : (s mid now : MachineState) → CaughtSo s mid → CaughtSo mid now → CaughtSo s now
then_so s mid now a b =
    let first = a.more in
    let second = b.more in
    record {
      sound = b.sound;
      dues = b.dues ∙ a.dues;
      nine = b.nine ∙ a.nine;
      seven = b.seven ∙ a.seven;
      scan = b.scan ∙ a.scan;
      frame = b.frame ∙ a.frame;
      lists = b.lists ∙ a.lists;
      more = omega (arith, first, second);
      same = b.same ∙ ap (λ (m : MachineState). (let left : MachineState = record m { io = with_gx now.io.gx m.io; events = now.events } in left)) a.same;
      observes = λ a₁. b.observes a₁ ∙ a.observes a₁;
    }

taken_so : (tick rank : ℕ) (s next : MachineState) → IsSound s → is_behind tick rank s ≡ true → reference_step geometry_rank s ≡ Makes next [] → CaughtSo s next
taken_so tick rank s next sound behind makes =
    let quiet = (behind_is tick rank s behind).quiet in
    subst (CaughtSo s) (same_makes (late_put (gx_finished s.io.gx) s) next [] [] (sym (quiet_step s sound quiet) ∙ makes)).0 (step_so s sound quiet)

pub caught_so : (tick rank : ℕ) (s now : MachineState) → IsSound s → TakesGeometry tick rank s now → CaughtSo s now
caught_so tick rank s now sound (no_geometry start) = stays_so start sound
caught_so tick rank s now sound (more_geometry start mid next takes behind makes) =
    let k = caught_so tick rank start mid sound takes in then_so start mid next k (taken_so tick rank mid next k.sound behind makes)

pub caught_statuses : (tick rank : ℕ) (s now : MachineState) → IsSound s → TakesGeometry tick rank s now → HasBothStatuses s → HasBothStatuses now
caught_statuses tick rank s now sound takes has =
    let k = caught_so tick rank s now sound takes in
    record {
      nine = subst (λ (n : NineState). HasNineStatuses n.processor.registers n.cp15) (sym k.nine) has.nine;
      seven = subst (λ (n : SevenState). HasStatuses V4 n.processor.registers) (sym k.seven) has.seven;
    }

-- ---- the place, before which nobody acts

pub comes_first : (tick : Tick) (rank : ℕ) (s : MachineState) → IsLeast (acting_dues s) tick rank → ComesBeforeAll tick.0 rank s
comes_first tick rank s least other at h = least.least other at h

pub still_before : (tick rank : ℕ) (s now : MachineState) → IsSound s → ComesBeforeAll tick rank s → TakesGeometry tick rank s now → ComesBeforeAll tick rank now
still_before tick rank s now sound before takes other at h =
    before other at (subst (λ (dues : List (Option Tick)). due_at dues other ≡ Some at) (caught_so tick rank s now sound takes).dues h)

-- once geometry caught up with the least acting actor, that is the least of all
later_place : (u tick rank : ℕ) → (nat_lt u tick || ((u == tick) && nat_lt geometry_rank rank)) ≡ false → ComesFirst tick rank u geometry_rank
later_place u tick rank h = grind (arith, h)

level_first : (quiet : Bool) (due : Option Tick) (u : Tick) (tick rank : ℕ) → quiet ≡ true → due ≡ Some u → (quiet && is_due_before due tick rank) ≡ false → ComesFirst tick rank u.0 geometry_rank
level_first quiet due u tick rank q d h =
    later_place u.0 tick rank
    (ap (λ (b : Bool). b && is_due_before (Some u) tick rank) (sym q) ∙ ap (λ (o : Option Tick). quiet && is_due_before o tick rank) (sym d) ∙ h)

pub caught_least : (tick : Tick) (rank : ℕ) (s caught : MachineState) → IsSound s → IsLeast (acting_dues s) tick rank → CatchesUp tick.0 rank s caught → IsLeast (dues_of caught) tick rank
caught_least tick rank s caught sound least up = elim (true_or_false (is_quiet caught.io)) [
  | inr loud ↦ subst (λ (dues : List (Option Tick)). IsLeast dues tick rank) (loud_same caught loud) still
  | inl quiet ↦ (let k = quiet_parts caught.io quiet in
      least_acting caught k.tick k.due tick rank still (due_where_acts caught rank tick still.there)
      (level_first (is_quiet caught.io) caught.io.gx.due k.tick tick.0 rank quiet k.due up.level))
] where
  still : IsLeast (acting_dues caught) tick rank
  still = subst (λ (dues : List (Option Tick)). IsLeast dues tick rank) (sym (caught_so tick.0 rank s caught sound up.steps).dues) least

-- ---- how many steps there were

some_more : (tick rank : ℕ) (s now : MachineState) → IsSound s → is_behind tick rank s ≡ true → TakesGeometry tick rank s now → is_behind tick rank now ≡ false → counts_of s < counts_of now
some_more tick rank s now sound behind (no_geometry start) level = absurd (true≢false (sym behind ∙ level))
some_more tick rank s now sound behind (more_geometry start mid next takes late makes) level =
    let k = caught_so tick rank start mid sound takes in
    let quiet = (behind_is tick rank mid late).quiet in
    let e = ap counts_of (same_makes (late_put (gx_finished mid.io.gx) mid) next [] [] (sym (quiet_step mid k.sound quiet) ∙ makes)).0 in
    let le = k.more in
    omega (arith, e, le)

pub caught_more : (tick rank : ℕ) (s caught : MachineState) → IsSound s → is_behind tick rank s ≡ true → CatchesUp tick rank s caught → counts_of s < counts_of caught
caught_more tick rank s caught sound behind up = some_more tick rank s caught sound behind up.steps up.level

-- ---- runs

takes_runs : (tick rank limit : ℕ) (s now : MachineState) → IsSound s → ComesBeforeAll tick rank s → TakesGeometry tick rank s now → 24 * tick + rank ≤ 24 * limit
    → (end : Ending MachineState LeftOut) (outs : List Shown) → Runs reference limit end s outs ↔ Runs reference limit end now outs
takes_runs tick rank limit s now sound before (no_geometry start) le end outs = (λ run. run, λ run. run)
takes_runs tick rank limit s now sound before (more_geometry start mid next takes behind makes) le end outs =
    let k = behind_steps tick rank mid (still_before tick rank start mid sound before takes) behind in
    let earlier = k.earlier in
    let first = takes_runs tick rank limit start mid sound before takes le end outs in
    let last = one_step reference limit end mid next [] outs k.next geometry_rank k.least (omega (arith, earlier, le)) makes in
    (λ run. last.0 (first.0 run), λ run. first.1 (last.1 run))

pub catching_up_runs : CatchingUpRuns
catching_up_runs s caught tick rank limit sound before up le end outs = takes_runs tick rank limit s caught sound before up.steps le end outs

-- ---- a loop over them

-- as many ticks are left to it, which each step takes away
fewer : (n : ℕ) (u : Tick) (due : Option Tick) → IsLater u due → u.0 < n → ticks_left n due < ticks_left n (Some u)
fewer n u None later lt = omega (arith, lt)
fewer n u (Some v) later lt = omega (arith, later, lt)

pub fewer_left : (tick rank : ℕ) (s next : MachineState) → IsSound s → is_behind tick rank s ≡ true → reference_step geometry_rank s ≡ Makes next []
    → ticks_left (tick + 1) next.io.gx.due < ticks_left (tick + 1) s.io.gx.due
fewer_left tick rank s next sound behind makes =
    let k = behind_is tick rank s behind in
    let made = (same_makes (late_put (gx_finished s.io.gx) s) next [] [] (sym (quiet_step s sound k.quiet) ∙ makes)).0 in
    let lt : k.next.0 < tick + 1 = elim k.earlier [ inl lt ↦ omega (arith, lt) | inr same ↦ (let e = same.0 in omega (arith, e)) ] in
    let falls = fewer (tick + 1) k.next (gx_finished s.io.gx).due (quiet_leaves s k.next sound k.quiet k.due).later lt in
    subst (λ (m : MachineState). ticks_left (tick + 1) m.io.gx.due < ticks_left (tick + 1) s.io.gx.due) made
    (subst (λ (o : Option Tick). ticks_left (tick + 1) (gx_finished s.io.gx).due < ticks_left (tick + 1) o) (sym k.due) falls)

-- it is due early
early_next : (due : Option Tick) (u : Tick) → due ≡ Some u → u.0 ≤ 2 ^ 56 → IsEarly due
early_next None u e le = absurd (none-some u e)
early_next (Some v) u e le = subst (λ (t : Tick). t.0 ≤ 2 ^ 56) (sym (same_Some v u e)) le

pub behind_early : (tick rank : ℕ) (s : MachineState) → is_behind tick rank s ≡ true → tick ≤ 2 ^ 56 → IsEarly s.io.gx.due
behind_early tick rank s behind early =
    let k = behind_is tick rank s behind in
    early_next s.io.gx.due k.next k.due (elim k.earlier [ inl lt ↦ omega (arith, lt, early) | inr same ↦ (let e = same.0 in omega (arith, e, early)) ])

-- its step is its event alone
abbrev event_made : MachineState → IoState → MachineStep MachineState Shown LeftOut
event_made s u = Makes (record s { io = u; events = s.events + 1 }) []

event_alone : (s : MachineState) → IsSound s → is_quiet s.io ≡ true → reference_step geometry_rank s ≡ event_made s (io_event [] Geometry s.io)
event_alone s sound quiet =
    quiet_step s sound quiet
    ∙ ap (λ (b : Bool). event_made s (record s.io { gx = gx_finished s.io.gx; released = if b then tick_after s.io.gx.due s.io.released else s.io.released }))
    (sym (no_stall_ends s (quiet_parts s.io quiet).free))

pub quiet_event : (old s : MachineState) (u : IoState) → old ≡ s → IsSound s → is_quiet s.io ≡ true → u ≡ io_event [] Geometry old.io → reference_step geometry_rank s ≡ event_made old u
quiet_event old s u same sound quiet is =
    event_alone s sound quiet ∙ ap (λ (m : MachineState). event_made m (io_event [] Geometry m.io)) (sym same) ∙ ap (event_made old) (sym is)

-- ---- before a step that may be taken

-- an actor that acts is due
pub acts_due : (s : MachineState) (tick : Tick) (rank : ℕ) → MayAct s tick rank → IsSome (due_at (dues_of s) rank)
acts_due s tick rank may = some_so (due_at (dues_of s) rank) tick (due_where_acts s rank tick may.due) where
  some_so : (o : Option Tick) (tick : Tick) → o ≡ Some tick → IsSome o
  some_so None tick e = absurd (none-some tick e)
  some_so (Some t) tick e = refl

-- where its step observes geometry, nobody acts before it: what may be taken before its turn observes nothing
pub observed_before : (s : MachineState) (tick : Tick) (rank : ℕ) → MayAct s tick rank → observes_by (actor_of rank) s ≡ true → ComesBeforeAll tick.0 rank s
observed_before s tick rank may observes = elim may.may [
  | inl least ↦ comes_first tick rank s least
  | inr ahead ↦ (let e : observes_by (actor_of (rank_of ahead.0)) s ≡ true = subst (λ (r : ℕ). observes_by (actor_of r) s ≡ true) ahead.1 observes in
      absurd (true≢false (sym e ∙ rank_unobserved s ahead.0 ahead.2.private)))
]

-- where geometry isn't behind, it caught up
pub level_caught : (tick rank : ℕ) (s : MachineState) → is_behind tick rank s ≡ false → CatchesUp tick rank s s
level_caught tick rank s level = record { steps = no_geometry s; level = level }

pub level_for : (tick rank : ℕ) (s : MachineState) → is_behind tick rank s ≡ false → CatchesUpFor tick rank s s
level_for tick rank s level = by_step (observes_by (actor_of rank) s) where
  by_step : (observes : Bool) → CatchesUpIf observes tick rank s s
  by_step true = level_caught tick rank s level
  by_step false = refl

pub unseen_for : (tick rank : ℕ) (s : MachineState) → observes_by (actor_of rank) s ≡ false → CatchesUpFor tick rank s s
unseen_for tick rank s unseen = by_step (observes_by (actor_of rank) s) unseen where
  by_step : (observes : Bool) → observes ≡ false → CatchesUpIf observes tick rank s s
  by_step true h = absurd (true≢false h)
  by_step false h = refl

-- what comes before a step is caught up, or nothing
pub caught_for : (observes : Bool) (tick rank : ℕ) (s caught : MachineState) → CatchesUpIf observes tick rank s caught → TakesGeometry tick rank s caught
caught_for true tick rank s caught up = up.steps
caught_for false tick rank s caught same = subst (TakesGeometry tick rank s) (sym same) (no_geometry s)
