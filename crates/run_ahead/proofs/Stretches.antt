use Rattle.run_ahead.proofs.Words.{ActedLeaves, ActedStops, BelongsToTurn, CatchesUpFor, GoesOn, IsLeast, IsLeastBelow, IsRunning, IsSound, LeftOut}
use Rattle.run_ahead.proofs.Words.{MachineState, Makes, MayAct, None, Option, Proc, Runs, Some, StretchStops, TakesSteps, TakesStretch, Tick}
use Rattle.run_ahead.proofs.Words.{TookStretch, [], acted_keeps, acted_stops, acting_dues, acting_processor, acting_stops, ap, arith, counts_of}
use Rattle.run_ahead.proofs.Words.{few_where_stops, inl, inr, is_some, last_frame, last_lists, more_steps, no_steps, own_remaining, own_tick}
use Rattle.run_ahead.proofs.Words.{places_remaining, processor_of, rank_of, reference, reference_step, refl, running_along, subst, sym, takes_along}
use Rattle.run_ahead.proofs.Words.{tick_of, true, true≢false, turn_steps_fall, ℕ, ◌*◌, ◌<◌, ◌∙◌, ◌≡◌, ◌≤◌, ◌⊎◌}
use Rattle.ds_machine.proofs.ActingPlaces.{acted_fewer, acted_no_more}
use Rattle.ds_runs.specs.Runs as runs
use Rattle.ds_machine.proofs.TurnSteps.{belongs_acted, belongs_acts, belongs_below, belongs_stops, takes_run}

-- A stretch: steps of a processor that belong to its turn, one after another; before one that observes geometry, geometry catches up.

-- some steps and then more
pub takes_twice : (until : ℕ) (proc : Proc) (a b c : MachineState) → TakesSteps until proc a b → TakesSteps until proc b c → TakesSteps until proc a c
takes_twice until proc a b c first (no_steps start) = first
takes_twice until proc a b c first (more_steps start before caught next earlier belongs catches h) = more_steps a before caught next (takes_twice until proc a start before first earlier) belongs catches h

-- some steps and then a stretch
pub took_twice : (until : ℕ) (proc : Proc) (a b c : MachineState) (stop : Option LeftOut) → TakesSteps until proc a b → TookStretch until proc b stop c → TookStretch until proc a stop c
took_twice until proc a b c None first then = (takes_twice until proc a b c first then.0, then.1)
took_twice until proc a b c (Some left) first then = (then.0, takes_twice until proc a b then.0 first then.1, then.2, then.3)

-- there is a stop where one is told
pub some_of : (stop : Option LeftOut) → is_some stop ≡ true → (left : LeftOut) × (stop ≡ Some left)
some_of None e = absurd (true≢false (sym e))
some_of (Some left) e = (left, refl)

-- ---- a step by the rank and the tick that are told

module _ (until : ℕ) (s : MachineState) (proc : Proc) (rank : ℕ) (tick : Tick) (is : rank ≡ rank_of proc) (told_tick : tick ≡ tick_of (processor_of s proc)) where
  pub told_acts : BelongsToTurn until s proc → MayAct s tick rank
  told_acts belongs =
      subst (λ (t : Tick). MayAct s t rank) (sym told_tick) (subst (λ (r : ℕ). MayAct s (tick_of (processor_of s proc)) r) (sym is) (belongs_acts until s proc belongs))

  pub told_below : BelongsToTurn until s proc → tick.0 < until
  told_below belongs = (let same : tick.0 ≡ (processor_of s proc).due = ap (λ (t : Tick). t.0) told_tick in let below = belongs_below until s proc belongs in omega (arith, same, below))

  pub told_catches : (caught : MachineState) → CatchesUpFor tick.0 rank s caught → CatchesUpFor (processor_of s proc).due (rank_of proc) s caught
  told_catches caught k =
      subst (λ (t : Tick). CatchesUpFor t.0 (rank_of proc) s caught) told_tick (subst (λ (r : ℕ). CatchesUpFor tick.0 r s caught) is k)

-- ---- steps one after another

pub sound_along : (until : ℕ) (proc : Proc) (start now : MachineState) → IsSound start → TakesSteps until proc start now → IsSound now
sound_along until proc start now sound steps = (takes_along until proc start now sound steps).sound

-- the processor has no more ticks left
pub own_along : (until : ℕ) (proc : Proc) (start now : MachineState) → IsSound start → TakesSteps until proc start now → own_remaining until now proc ≤ own_remaining until start proc
own_along until proc start now sound (no_steps s) = omega arith
own_along until proc start now sound (more_steps s before caught next earlier belongs catches h) =
    let k = own_along until proc s before sound earlier in
    let falls = turn_steps_fall until before caught next proc [] (sound_along until proc s before sound earlier) belongs catches h in
    omega (arith, k, falls)

-- what comes of them is the rest of the run
pub goes_along : (until : ℕ) (proc : Proc) (start now : MachineState) → IsSound start → TakesSteps until proc start now → GoesOn until start now []
goes_along until proc start now sound steps = λ limit le end outs run. (takes_run until proc start now sound steps limit le end outs).1 run

-- ---- a turn of such steps begins with that of the least acting actor, which belongs to it

pub first_belongs : (until : ℕ) (s : MachineState) (proc : Proc) (tick : Tick) → IsLeast (acting_dues s) tick (rank_of proc) → tick.0 < until → BelongsToTurn until s proc
first_belongs until s proc tick least below = record { tick = tick; due = sym (acting_processor s proc) ∙ least.there; below = below; goes = inl least }

-- it takes a step
abbrev pub TookSome : MachineState → MachineState → Type 0
TookSome start now = counts_of start < counts_of now

some_or_none : (until : ℕ) (proc : Proc) (start now : MachineState) → IsSound start → TakesSteps until proc start now → (now ≡ start) ⊎ TookSome start now
some_or_none until proc start now sound (no_steps s) = inl refl
some_or_none until proc start now sound (more_steps s before caught next earlier belongs catches h) =
    let along = takes_along until proc s before sound earlier in
    let few = along.more in
    let one = (acted_keeps before next (tick_of (processor_of before proc)) (rank_of proc) [] along.sound (belongs_acted until before caught next proc [] belongs catches h)).more in
    inr (omega (arith, few, one))

pub stretch_took : (until : ℕ) (old new : MachineState) → IsSound old → TakesStretch until old new → TookSome old new
stretch_took until old new sound t = elim (some_or_none until t.proc old new sound t.steps) [
  | inl same ↦ absurd (t.longest (subst (λ (m : MachineState). BelongsToTurn until m t.proc) (sym same) (first_belongs until old t.proc t.tick t.least t.below)))
  | inr some ↦ some
]

-- ---- it leaves fewer places of acting actors

abbrev pub places_left : ℕ → MachineState → ℕ
places_left until s = places_remaining 24 until 0 (acting_dues s)

-- its first step does
first_fewer : (until : ℕ) (start before caught next : MachineState) (proc : Proc) → before ≡ start → IsSound before → IsLeastBelow until start proc → BelongsToTurn until before proc
    → CatchesUpFor (processor_of before proc).due (rank_of proc) before caught → reference_step (rank_of proc) caught ≡ Makes next [] → places_left until next < places_left until start
first_fewer until start before caught next proc same sound first belongs catches h =
    let tick = tick_of (processor_of before proc) in
    let here = subst (λ (m : MachineState). IsLeastBelow until m proc) (sym same) first in
    let own = own_tick before proc here.tick (sym (acting_processor before proc) ∙ here.least.there) in
    let least = subst (λ (t : Tick). IsLeast (acting_dues before) t (rank_of proc)) own here.least in
    let below : tick.0 < until = subst (λ (t : Tick). t.0 < until) own here.below in
    let fewer = acted_fewer before next tick (rank_of proc) [] until sound least below (belongs_acted until before caught next proc [] belongs catches h) in
    subst (λ (m : MachineState). places_left until next < places_left until m) same fewer

-- and no further one leaves more
fewer_along : (until : ℕ) (proc : Proc) (start now : MachineState) → IsSound start → IsLeastBelow until start proc → TakesSteps until proc start now
    → (now ≡ start) ⊎ (places_left until now < places_left until start)
fewer_along until proc start now sound first (no_steps s) = inl refl
fewer_along until proc start now sound first (more_steps s before caught next earlier belongs catches h) = elim (fewer_along until proc s before sound first earlier) [
  | inl same ↦ inr (first_fewer until s before caught next proc same (sound_along until proc s before sound earlier) first belongs catches h)
  | inr fewer ↦
      (let here = sound_along until proc s before sound earlier in
      let k = acted_no_more before next (tick_of (processor_of before proc)) (rank_of proc) [] until here (belongs_acted until before caught next proc [] belongs catches h) in
      inr (omega (arith, fewer, k)))
]

pub stretch_fewer : (until : ℕ) (old new : MachineState) → IsSound old → TakesStretch until old new → places_left until new < places_left until old
stretch_fewer until old new sound t =
    elim (fewer_along until t.proc old new sound (record { tick = t.tick; least = t.least; below = t.below }) t.steps) [
      | inl same ↦ (let took = stretch_took until old new sound t in let e : counts_of new ≡ counts_of old = ap counts_of same in absurd (omega (arith, took, e)))
      | inr fewer ↦ fewer
    ]

-- ---- a step of it stops

module _ (until : ℕ) (old new : MachineState) (stop : LeftOut) (sound : IsSound old) (t : StretchStops until old stop new) where
  there : IsSound t.before
  there = sound_along until t.proc old t.before sound t.steps

  stop_below : (processor_of t.before t.proc).due < until
  stop_below = belongs_below until t.before t.proc t.belongs

  stop_acted : ActedStops t.before new (tick_of (processor_of t.before t.proc)) (rank_of t.proc) stop
  stop_acted = belongs_stops until t.before t.caught new t.proc stop t.belongs t.catches t.step

  stop_leaves : ActedLeaves t.before new (tick_of (processor_of t.before t.proc))
  stop_leaves = acted_stops t.before new (tick_of (processor_of t.before t.proc)) (rank_of t.proc) stop there stop_acted

  -- a run comes to that stop
  pub stretch_stops : Runs reference until (runs.Stopped stop) old []
  stretch_stops =
      goes_along until t.proc old t.before sound t.steps until (omega arith) (runs.Stopped stop) []
      (acting_stops t.before t.caught new (tick_of (processor_of t.before t.proc)) (rank_of t.proc) until stop there (belongs_acts until t.before t.proc t.belongs) t.catches stop_below t.step)

  -- and what it leaves
  pub stop_frame : last_frame new ≡ last_frame old
  stop_frame = stop_leaves.frame ∙ (takes_along until t.proc old t.before sound t.steps).frame

  pub stop_lists : last_lists new ≡ last_lists old
  stop_lists = stop_leaves.lists ∙ (takes_along until t.proc old t.before sound t.steps).lists

  pub stop_few : (limit : ℕ) → until ≤ limit → IsRunning limit old → counts_of new ≤ 24 * limit
  stop_few limit le running =
      let below = stop_below in
      few_where_stops limit t.before new (tick_of (processor_of t.before t.proc)) (rank_of t.proc) stop stop_acted (omega (arith, below, le))
      (running_along until limit t.proc old t.before le t.steps running)

  pub stop_takes_none_back : counts_of old ≤ counts_of new
  stop_takes_none_back = (let k = (takes_along until t.proc old t.before sound t.steps).more in let last = stop_leaves.more in omega (arith, k, last))
