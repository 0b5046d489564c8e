use Rattle.run_ahead.proofs.Words.{BelongsToTurn, CatchesUpFor, IsLeast, IsSound, IsTickBefore, LeftOut, MachineState, Makes, MeetsStop, Proc, Stops}
use Rattle.run_ahead.proofs.Words.{StopsActing, StretchStops, TakesActing, TakesSteps, TakesStretch, Tick, TurnsOfOneTick, [], acting_dues}
use Rattle.run_ahead.proofs.Words.{acting_processor, ap, arith, due_where_acts, inl, inr, more_steps, no_steps, own_remaining, own_tick, processor_of}
use Rattle.run_ahead.proofs.Words.{rank_of, reference_step, refl, subst, sym, ticks_left, turn_steps_fall, ℕ, ◌+◌, ◌-◌, ◌<◌, ◌∙◌, ◌≡◌, ◌⊎◌}
use Rattle.run_ahead.specs.declared.turns.Turned.TheVariants as answers

-- Turns of one tick.

-- what acts below the limit is due at that tick
pub acts_at_it : (until : ℕ) (s : MachineState) (tick : Tick) (rank : ℕ) → IsTickBefore until s → IsLeast (acting_dues s) tick rank → tick.0 < until → tick.0 + 1 ≡ until
acts_at_it until s tick rank before least below =
    let not_earlier = before.least.least rank tick (due_where_acts s rank tick least.there) in
    let last = before.last in
    elim not_earlier [ inl lt ↦ omega (arith, lt, last, below) | inr same ↦ (let e = same.0 in omega (arith, e, last)) ]

module _ (until : ℕ) (tick : Tick) (proc : Proc) (s : MachineState) (sound : IsSound s) (least : IsLeast (acting_dues s) tick (rank_of proc)) (below : tick.0 < until) (last : tick.0 + 1 ≡ until) where
  belongs_first : BelongsToTurn until s proc
  belongs_first = record { tick = tick; due = sym (acting_processor s proc) ∙ least.there; below = below; goes = inl least }

  -- what one step of the processor does
  abbrev StepsOnce : MachineState → Type 0
  StepsOnce next = (caught : MachineState) × CatchesUpFor (processor_of s proc).due (rank_of proc) s caught × (reference_step (rank_of proc) caught ≡ Makes next [])

  -- after it the processor is due at the limit at the earliest
  none_after : (next : MachineState) → StepsOnce next → BelongsToTurn until next proc → ⊥
  unfolding belongs_first
  none_after next once belongs =
      let falls : own_remaining until next proc < own_remaining until s proc = turn_steps_fall until s once.0 next proc [] sound belongs_first once.1 once.2 in
      let here : own_remaining until s proc ≡ until - tick.0 = ap (ticks_left until) belongs_first.due in
      let there : own_remaining until next proc ≡ until - belongs.tick.0 = ap (ticks_left until) belongs.due in
      let before = belongs.below in
      omega (arith, falls, here, there, before, last)

  -- so it takes none, or one
  at_most_one : (now : MachineState) → TakesSteps until proc s now → (now ≡ s) ⊎ StepsOnce now
  at_most_one now steps = go s now steps refl where
    go : (start now : MachineState) → TakesSteps until proc start now → start ≡ s → (now ≡ s) ⊎ StepsOnce now
    go start now (no_steps m) is = inl is
    go start now (more_steps m before caught next earlier belongs catches h) is = elim (go m before earlier is) [
      | inl same ↦ (let P : MachineState → Type 0 = λ x. CatchesUpFor (processor_of x proc).due (rank_of proc) x caught in inr (caught, subst P same catches, h))
      | inr once ↦ absurd (none_after before once belongs)
    ]

  -- told by the tick
  catches_then : (caught : MachineState) → CatchesUpFor (processor_of s proc).due (rank_of proc) s caught → CatchesUpFor tick.0 (rank_of proc) s caught
  unfolding belongs_first
  catches_then caught catches = subst (λ (t : Tick). CatchesUpFor t.0 (rank_of proc) s caught) (sym (own_tick s proc tick belongs_first.due)) catches

  one_taken : (new : MachineState) → TakesSteps until proc s new → ¬ BelongsToTurn until new proc → TakesActing until s [] new
  one_taken new steps longest = elim (at_most_one new steps) [
    | inl same ↦ absurd (longest (subst (λ (m : MachineState). BelongsToTurn until m proc) (sym same) belongs_first))
    | inr once ↦ record { tick = tick; rank = rank_of proc; least = least; below = below; caught = once.0; catches = catches_then once.0 once.1; step = once.2 }
  ]

  first_stops : (before caught new : MachineState) (left : LeftOut) → TakesSteps until proc s before → BelongsToTurn until before proc
      → CatchesUpFor (processor_of before proc).due (rank_of proc) before caught → reference_step (rank_of proc) caught ≡ Stops left new → StopsActing until s left new
  first_stops before caught new left steps belongs catches h = elim (at_most_one before steps) [
    | inl same ↦ (let P : MachineState → Type 0 = λ x. CatchesUpFor (processor_of x proc).due (rank_of proc) x caught in
        record { tick = tick; rank = rank_of proc; least = least; below = below; caught = caught; catches = catches_then caught (subst P same catches); step = h })
    | inr once ↦ absurd (none_after before once belongs)
  ]

stretch_taken : (until : ℕ) (old new : MachineState) → IsSound old → IsTickBefore until old → TakesStretch until old new → TakesActing until old [] new
stretch_taken until old new sound before t =
    one_taken until t.tick t.proc old sound t.least t.below (acts_at_it until old t.tick (rank_of t.proc) before t.least t.below) new t.steps t.longest

stop_met : (until : ℕ) (old new : MachineState) (left : LeftOut) → IsSound old → IsTickBefore until old → MeetsStop until old left new → StopsActing until old left new
stop_met until old new left sound before t = elim t [
  | inl event ↦ event.0
  | inr stretch ↦ stretch_stopped stretch
] where
  stretch_stopped : StretchStops until old left new → StopsActing until old left new
  stretch_stopped s =
      first_stops until s.tick s.proc old sound s.least s.below (acts_at_it until old s.tick (rank_of s.proc) before s.least s.below) s.before s.caught new left s.steps s.belongs s.catches s.step

pub turns_of_one_tick : TurnsOfOneTick
turns_of_one_tick until old answers.Ran new sound open_ before t = elim t.1 [
  | inl event ↦ inl event.0
  | inr other ↦ elim other [
    | inl stretch ↦ inl (stretch_taken until old.machine new.machine sound before stretch)
    | inr quiet ↦ inr quiet
  ]
]
turns_of_one_tick until old (answers.Frame swapped) new sound open_ before t = t.1.0
turns_of_one_tick until old answers.AtEnd new sound open_ before t =
    let le = t.1 before.rank before.tick before.least.there in let last = before.last in omega (arith, le, last)
turns_of_one_tick until old (answers.Stopped left) new sound open_ before t = stop_met until old.machine new.machine left sound before (t.0 open_).0
