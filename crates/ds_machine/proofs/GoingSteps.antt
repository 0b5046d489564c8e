use Rattle.ds_machine.proofs.Words.{BelongsToTurn, Bool, CatchesUpFor, CatchesUpIf, Fences, FetchStaysPrivate, Half, HasBothStatuses, HasLimit}
use Rattle.ds_machine.proofs.Words.{IsAhead, IsBelowFence, IsLeast, IsRunning, List, MachineState, Makes, MayStep, NextEvent, Nine, Option, Proc}
use Rattle.ds_machine.proofs.Words.{Processor, ProcessorState, ProcessorStaysPrivate, RegisterState, Seven, Some, TakesGeometry, TakesSteps, Tick}
use Rattle.ds_machine.proofs.Words.{TookStep, Width, Word, [], acting_dues, acting_events_of, actor_of, ap, arith, awake, due_at, due_unless, false}
use Rattle.ds_machine.proofs.Words.{geometry_rank, if◌then◌else◌, inl, inr, is_blocked, is_private_to, is_thumb, last_limit, line_of, lt_or_same}
use Rattle.ds_machine.proofs.Words.{more_steps, nine_reach, nine_side, no_steps, observes_by, other_proc, outcome_of, processor_due, processor_of}
use Rattle.ds_machine.proofs.Words.{rank_of, rank_there, refl, same_Some, same_or_not, seven_reach, seven_side, step_by, stepped_of, steps_as, subst}
use Rattle.ds_machine.proofs.Words.{sym, tick_of, true, with_processor, within, ℕ, ◌-◌, ◌<◌, ◌^◌, ◌∙◌, ◌∷◌, ◌≡◌, ◌≢◌, ◌≤◌, ◌⊎◌}
use Rattle.ds_machine.specs.NextEvents.{IsNextEvent, least_of, past_other, line_kept}
use Rattle.ds_machine.specs.TurnLaws.{ComesFirst}
use Rattle.ds_runs.specs.declared.actors.Actor as actor
use Rattle.ds_machine.specs.Lagging as geometry
use Rattle.ds_machine.specs.Touching.{DataStaysPrivate, MayBeAhead}
use Rattle.ds_machine.specs.declared.answers.Done.TheVariants as answers
use Rattle.ds_machine.proofs.ActingDues.{acting_processor, acting_split}
use Rattle.ds_machine.proofs.DecodedStays.{fetch_by_words}
use Rattle.ds_machine.proofs.FastSteps.{in_front}
use Rattle.ds_machine.proofs.OwnRemaining.{turn_steps_fall}
use Rattle.ds_machine.proofs.PlacesByWords.{nine_by_words, seven_by_words}
use Rattle.ds_machine.proofs.PrivatePlaces.{private_itself}
use Rattle.ds_machine.proofs.PrivateTests.{fetch_of_stays}
use Rattle.ds_machine.proofs.Statuses.{statuses_done}
use Rattle.ds_machine.proofs.Running.{steps_keep_running}

-- The steps of a processor's turn, by what is kept.

-- ---- a processor that waits for a tick

tick : ℕ → Tick
tick n = record { 0 = n }

pub actor_is : (proc : Proc) → actor_of (rank_of proc) ≡ Processor proc
actor_is Nine = refl
actor_is Seven = refl

pub record IsDueAt (s : MachineState) (proc : Proc) (n : ℕ) : Type 0 where
  pub free : is_blocked s proc ≡ false
  pub there : processor_due s proc ≡ Some (record { 0 = n })
  pub own : (let t : Tick = record { 0 = n } in t) ≡ tick_of (processor_of s proc)

-- ---- an event that acts

pub event_in : (s : MachineState) (rank : ℕ) (at : Tick) → due_at (acting_events_of s) rank ≡ Some at → (rank < rank_of Nine) × (due_at (acting_dues s) rank ≡ Some at)
event_in s rank at h =
    let back = processor_due s Nine ∷ processor_due s Seven ∷ [] in
    let lt = within (acting_events_of s) rank at h in
    (omega (arith, lt), ap (λ (dues : List (Option Tick)). due_at dues rank) (acting_split s) ∙ in_front (acting_events_of s) back rank lt ∙ h)

pub above_events : (proc : Proc) → rank_of Nine ≤ rank_of proc
above_events Nine = omega arith
above_events Seven = omega arith

-- ---- what is ahead

abbrev width_at : RegisterState → Width
width_at r = if is_thumb r then Half else Word

-- what is fetched at r15 lies in private places, where its first byte does
pub fetched_if : (s : MachineState) (proc : Proc) (at : ℕ) → at ≡ (processor_of s proc).registers.pc → at < 2 ^ 32 → is_private_to s proc false true at ≡ true → FetchStaysPrivate s proc
fetched_if s Nine at e lt h =
    let r = s.nine.processor.registers in
    fetch_by_words nine_side (nine_reach (tick_of s.nine.processor) s) nine_by_words r (width_at r) refl (subst (λ (x : ℕ). x < 2 ^ 32) e lt)
    (subst (λ (x : ℕ). is_private_to s Nine false true x ≡ true) e h)
fetched_if s Seven at e lt h =
    let r = s.seven.processor.registers in
    fetch_by_words seven_side (seven_reach (tick_of s.seven.processor) s) seven_by_words r (width_at r) refl (subst (λ (x : ℕ). x < 2 ^ 32) e lt)
    (subst (λ (x : ℕ). is_private_to s Seven false true x ≡ true) e h)

pub fetched_then : (s : MachineState) (proc : Proc) (at : ℕ) → at ≡ (processor_of s proc).registers.pc → at < 2 ^ 32 → FetchStaysPrivate s proc → is_private_to s proc false true at ≡ true
fetched_then s Nine at e lt k =
    let test = is_private_to s Nine false true in
    let r = s.nine.processor.registers in
    subst (λ (x : ℕ). test x ≡ true) (sym e) (private_itself test (width_at r) r.pc (subst (λ (x : ℕ). x < 2 ^ 32) e lt) k)
fetched_then s Seven at e lt k =
    let test = is_private_to s Seven false true in
    let r = s.seven.processor.registers in
    subst (λ (x : ℕ). test x ≡ true) (sym e) (private_itself test (width_at r) r.pc (subst (λ (x : ℕ). x < 2 ^ 32) e lt) k)

-- what is due before every event is below the fence
pub no_fence : (s : MachineState) (proc each : Proc) (rank : ℕ) → rank ≡ rank_of each → Fences (actor_of rank) proc s → ⊥
no_fence s proc Nine rank e f = subst (λ (r : ℕ). Fences (actor_of r) proc s) e f
no_fence s proc Seven rank e f = subst (λ (r : ℕ). Fences (actor_of r) proc s) e f

pub line_is : (next_event : NextEvent) (s : MachineState) → IsNextEvent next_event s → (proc : Proc) → line_kept next_event proc ≡ line_of s proc
line_is next_event s is Nine = is.nine_line
line_is next_event s is Seven = is.seven_line

own_stays : (s : MachineState) (proc : Proc) → FetchStaysPrivate s proc → DataStaysPrivate (tick_of (processor_of s proc)) s proc → ProcessorStaysPrivate s proc
own_stays s Nine fetch d = record { fetch = fetch; kind = d.kind; accesses = d.accesses }
own_stays s Seven fetch d = record { fetch = fetch; kind = d.kind; accesses = d.accesses }

data_of_own : (s : MachineState) (proc : Proc) → ProcessorStaysPrivate s proc → DataStaysPrivate (tick_of (processor_of s proc)) s proc
data_of_own s Nine k = record { kind = k.kind; accesses = k.accesses }
data_of_own s Seven k = record { kind = k.kind; accesses = k.accesses }

pub ahead_if : (s : MachineState) (proc : Proc) (n : ℕ) → IsDueAt s proc n → MayBeAhead (record { 0 = n }) s proc → DataStaysPrivate (record { 0 = n }) s proc → IsAhead s proc
ahead_if s proc n d may stays = record {
  private = record { free = d.free; down = may.down; deaf = may.deaf; own = own_stays s proc may.fetch (subst (λ (t : Tick). DataStaysPrivate t s proc) d.own stays) };
  below = subst (IsBelowFence s proc) d.own may.below;
}

pub ahead_may : (s : MachineState) (proc : Proc) (n : ℕ) → IsDueAt s proc n → IsAhead s proc → MayBeAhead (record { 0 = n }) s proc
ahead_may s proc n d ahead =
    record { fetch = fetch_of_stays s proc ahead.private.own; down = ahead.private.down; deaf = ahead.private.deaf; below = subst (IsBelowFence s proc) (sym d.own) ahead.below }

pub ahead_data : (s : MachineState) (proc : Proc) (n : ℕ) → IsDueAt s proc n → IsAhead s proc → DataStaysPrivate (record { 0 = n }) s proc
ahead_data s proc n d ahead = subst (λ (t : Tick). DataStaysPrivate t s proc) (sym d.own) (data_of_own s proc ahead.private.own)

-- ---- the other processor's tick

-- the other processor's rank
pub across : (proc : Proc) (other : ℕ) → (other ≡ rank_of Nine) ⊎ (other ≡ rank_of Seven) → other ≢ rank_of proc → other ≡ rank_of (other_proc proc)
across Nine other (inl e) ne = absurd (ne e)
across Nine other (inr e) ne = e
across Seven other (inl e) ne = e
across Seven other (inr e) ne = absurd (ne e)

pub after_other : (proc : Proc) (n wait at : ℕ) → n < past_other proc wait → wait ≡ at → (n < at) ⊎ ((n ≡ at) × (rank_of proc ≤ rank_of (other_proc proc)))
after_other Nine n wait at lt e = elim (lt_or_same n at (omega (arith, lt, e))) [ inl a ↦ inl a | inr b ↦ inr (b, omega arith) ]
after_other Seven n wait at lt e = inl (omega (arith, lt, e))

pub past_if : (proc : Proc) (n wait at : ℕ) → n < 2 ^ 56 → wait ≡ at → (n < at) ⊎ ((n ≡ at) × (rank_of proc ≤ rank_of (other_proc proc))) → n < past_other proc wait
past_if Nine n wait at low e (inl lt) = omega (arith, low, e, lt)
past_if Nine n wait at low e (inr same) = (let k = same.0 in omega (arith, low, e, k))
past_if Seven n wait at low e (inl lt) = omega (arith, e, lt)
past_if Seven n wait at low e (inr same) = (let k = same.1 in absurd (omega (arith, k)))

pub past_never : (proc : Proc) (n wait : ℕ) → n < 2 ^ 56 → 2 ^ 64 - 1 ≤ wait → n < past_other proc wait
past_never Nine n wait low late = omega (arith, low, late)
past_never Seven n wait low late = omega (arith, low, late)

pub free_by : (blocked : Bool) → least_of blocked ≡ 0 → blocked ≡ false
free_by true e = absurd (omega (arith, e))
free_by false e = refl

pub not_own : (proc : Proc) (rank : ℕ) → rank < rank_of Nine → rank ≢ rank_of proc
not_own Nine rank low = λ e. omega (arith, low, e)
not_own Seven rank low = λ e. omega (arith, low, e)

pub differs : (proc : Proc) → rank_of (other_proc proc) ≢ rank_of proc
differs Nine = λ e. omega (arith, e)
differs Seven = λ e. omega (arith, e)

-- ---- a processor that is due below its limit

-- it is the least
pub least_there : (until limit : ℕ) (s : MachineState) (proc : Proc) → HasLimit until s proc limit → (processor_of s proc).due < limit
    → IsLeast (acting_dues s) (tick_of (processor_of s proc)) (rank_of proc)
least_there until limit s proc has lt =
    let tick = tick_of (processor_of s proc) in
    let k = (has.first tick.0).0 lt in
    let due : processor_due s proc ≡ Some tick = ap (λ (b : Bool). due_unless b (processor_of s proc)) has.free in
    record { there = acting_processor s proc ∙ due; least = least tick due k.1 } where
      least : (tick : Tick) → processor_due s proc ≡ Some tick → ComesFirst s proc tick.0 → (other : ℕ) (at : Tick) → due_at (acting_dues s) other ≡ Some at
          → (tick.0 < at.0) ⊎ ((tick.0 ≡ at.0) × (rank_of proc ≤ other))
      least tick due first other at h = elim (same_or_not other (rank_of proc)) [
        | inl e ↦
            (let there = subst (λ (r : ℕ). due_at (acting_dues s) r ≡ Some at) e h in
            let same = same_Some tick at (sym due ∙ sym (acting_processor s proc) ∙ there) in
            inr (ap (λ (t : Tick). t.0) same, omega (arith, e)))
        | inr ne ↦ first other at ne h
      ]

-- and belongs to its turn
pub belongs_below : (until limit : ℕ) (s : MachineState) (proc : Proc) → HasLimit until s proc limit → (processor_of s proc).due < limit → BelongsToTurn until s proc
belongs_below until limit s proc has lt =
    let tick = tick_of (processor_of s proc) in
    let due : processor_due s proc ≡ Some tick = ap (λ (b : Bool). due_unless b (processor_of s proc)) has.free in
    record { tick = tick; due = due; below = ((has.first tick.0).0 lt).0; goes = inl (least_there until limit s proc has lt) }

-- ---- a step that is taken

-- one that doesn't observe geometry needs no catching up, and may be taken
apart_rank : (s : MachineState) (proc : Proc) → observes_by (Processor proc) s ≡ false → observes_by (actor_of (rank_of proc)) s ≡ false
apart_rank s proc apart = ap (λ (a : actor.Actor). observes_by a s) (actor_is proc) ∙ apart

pub needs_none : (s : MachineState) (proc : Proc) → observes_by (Processor proc) s ≡ false → CatchesUpFor (processor_of s proc).due (rank_of proc) s s
needs_none s proc apart = subst (λ (b : Bool). CatchesUpIf b (processor_of s proc).due (rank_of proc) s s) (sym (apart_rank s proc apart)) refl

abbrev apart_may : (s : MachineState) (proc : Proc) (n : ℕ) → IsDueAt s proc n → n ≤ 2 ^ 56 → IsLeast (acting_dues s) (record { 0 = n }) (rank_of proc) ⊎ IsAhead s proc
    → observes_by (Processor proc) s ≡ false → MayStep s (rank_of proc)
apart_may s proc n d early goes apart = record {
  tick = record { 0 = n };
  due = rank_there s proc ∙ d.there;
  early = early;
  may = elim goes [
    | inl least ↦ inr (inl (record { least = least; unobserving = apart_rank s proc apart }))
    | inr ahead ↦ inr (inr (proc, refl, ahead))
  ];
}

pub took_when : (s next : MachineState) (proc : Proc) (n until : ℕ) → IsRunning last_limit s → IsDueAt s proc n → n < until → until ≤ 2 ^ 56
    → IsLeast (acting_dues s) (record { 0 = n }) (rank_of proc) ⊎ IsAhead s proc → observes_by (Processor proc) s ≡ false
    → awake (Some (record { 0 = n })) (step_by (rank_of proc) (Processor proc) s) ≡ stepped_of s answers.Made next → next.io ≡ s.io → next.keys ≡ s.keys
    → (processor_of next (other_proc proc)).due ≡ (processor_of s (other_proc proc)).due → TookStep until proc s next
took_when s next proc n until running d lt early goes apart made io keys other =
    let b : BelongsToTurn until s proc = record { tick = record { 0 = n }; due = d.there; below = lt; goes = goes } in
    let step = steps_as s (rank_of proc) (Processor proc) (Some (record { 0 = n })) (Makes next []) (actor_is proc) d.there made in
    record {
      belongs = b;
      unobserving = apart;
      made = step;
      running = steps_keep_running last_limit (rank_of proc) s next [] running (apart_may s proc n d (omega (arith, lt, early)) goes apart) (omega (arith, lt, early)) step;
      fewer = turn_steps_fall until s s next proc [] running.sound b (needs_none s proc apart) step;
      io = io;
      keys = keys;
      other = other;
    }

-- ---- what some of them leave

statuses_caught : (tick rank : ℕ) (s now : MachineState) → TakesGeometry tick rank s now → HasBothStatuses s → HasBothStatuses now
statuses_caught tick rank s now (geometry.no_geometry start) h = h
statuses_caught tick rank s now (geometry.more_geometry start before next earlier behind made) h =
    statuses_done before next geometry_rank answers.Made (statuses_caught tick rank start before earlier h) made

statuses_if : (observes : Bool) (tick rank : ℕ) (s caught : MachineState) → CatchesUpIf observes tick rank s caught → HasBothStatuses s → HasBothStatuses caught
statuses_if true tick rank s caught catches h = statuses_caught tick rank s caught catches.steps h
statuses_if false tick rank s caught catches h = subst HasBothStatuses (sym catches) h

pub statuses_taken : (until : ℕ) (proc : Proc) (s next : MachineState) → TakesSteps until proc s next → HasBothStatuses s → HasBothStatuses next
statuses_taken until proc s next (no_steps start) h = h
statuses_taken until proc s next (more_steps start before caught last earlier b catches made) h =
    statuses_done caught last (rank_of proc) answers.Made
    (statuses_if (observes_by (actor_of (rank_of proc)) before) (processor_of before proc).due (rank_of proc) before caught catches (statuses_taken until proc start before earlier h)) made

-- ---- the other processor

pub other_stays : (proc : Proc) (now : Tick) (s m next : MachineState) (p : ProcessorState) → m ≡ (outcome_of proc now s).machine → next ≡ with_processor proc m p
    → (processor_of next (other_proc proc)).due ≡ (processor_of s (other_proc proc)).due
other_stays proc now s m next p machine e =
    ap (λ (x : MachineState). (processor_of x (other_proc proc)).due) (e ∙ ap (λ (x : MachineState). with_processor proc x p) machine) ∙ by_proc proc where
      by_proc : (proc : Proc) → (processor_of (with_processor proc (outcome_of proc now s).machine p) (other_proc proc)).due ≡ (processor_of s (other_proc proc)).due
      by_proc Nine = refl
      by_proc Seven = refl
