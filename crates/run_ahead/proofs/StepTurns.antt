use Rattle.run_ahead.proofs.Words.{Acted, ActedKeeps, ActedLeaves, ActedStops, Bool, CatchesUpFor, CatchesUpIf, ComesBeforeAll, ConsoleState, Ends}
use Rattle.run_ahead.proofs.Words.{Fits, HasEnds, IsLeast, IsLeastBelow, IsOver, IsRunning, IsSome, IsSound, LeftOut, List, MachineState, MachineStep}
use Rattle.run_ahead.proofs.Words.{Makes, MeetsStop, Nine, None, Option, Proc, Seven, Shown, Some, Steps, StopsActing, TakesActing, TakesQuiet, Tick}
use Rattle.run_ahead.proofs.Words.{TookStretch, TookTurn, Turns, [], acted_keeps, acted_stops, acting_dues, acting_low, acting_processor, actor_of}
use Rattle.run_ahead.proofs.Words.{acts_then, ap, arith, caught_more, caught_so, counts_of, due_at, due_of_rank, due_or_never, dues_of, false}
use Rattle.run_ahead.proofs.Words.{few_where_stops, geometry_rank, inl, inr, is_behind, is_blocked, is_due_before, loud_same, low_or_high, ltb-false}
use Rattle.run_ahead.proofs.Words.{max, nat_lt, next_shown, observes_by, one_more_turn, open_of, or_parts, own_tick, processor_of, rank_of}
use Rattle.run_ahead.proofs.Words.{reference_step, refl, run_to, running_acted, running_along, running_taken, sort_rank, subst, sym, tick_of, true}
use Rattle.run_ahead.proofs.Words.{true≢false, w64, ℕ, ◌&&◌, ◌*◌, ◌+◌, ◌<◌, ◌==◌, ◌^◌, ◌||◌, ◌∙◌, ◌∷◌, ◌≡◌, ◌≤◌, ◌⊎◌}
use Rattle.ds_machine.specs.NextEvents.{least_of}
use Rattle.ds_machine.proofs.FastSteps.{wait_is}
use Rattle.std.proofs.Math.Facts.{Fits-of_lt}
use Rattle.ds_machine.specs.declared.answers.Done as answer
use Rattle.ds_machine.specs.declared.answers.Done.TheVariants as answers
use Rattle.run_ahead.specs.declared.turns.Turned.TheVariants as turned
use Rattle.run_ahead.proofs.Stretches.{stop_few, stop_takes_none_back, stretch_took}

-- What a machine's turn leaves, by what it came to.

-- a stretch is a turn of the processor that is the least of those who act
pub is_stretch : (until : ℕ) (proc : Proc) (s next : MachineState) → IsLeastBelow until s proc → TookStretch until proc s None next → TookTurn until s answers.Made next
is_stretch until proc s next first t = inr (inl (record { proc = proc; tick = first.tick; least = first.least; below = first.below; steps = t.0; longest = t.1 }))

pub is_stop : (until : ℕ) (proc : Proc) (s next : MachineState) (left : LeftOut) → IsLeastBelow until s proc → TookStretch until proc s (Some left) next
    → TookTurn until s (answers.Stopped left) next
is_stop until proc s next left first t =
    inr (record {
      proc = proc;
      tick = first.tick;
      least = first.least;
      below = first.below;
      before = t.0;
      steps = t.1;
      belongs = t.2;
      caught = t.3.0;
      catches = t.3.1;
      step = t.3.2;
    })

-- an event is a step of the least of those who act
pub event_acted : (until : ℕ) (s next : MachineState) (outs : List Shown) (t : TakesActing until s outs next) → Acted s next t.tick t.rank outs
event_acted until s next outs t = record { caught = t.caught; may = record { due = t.least.there; may = inl t.least }; catches = t.catches; makes = t.step }

pub event_keeps : (until : ℕ) (s next : MachineState) (outs : List Shown) → IsSound s → (t : TakesActing until s outs next) → ActedKeeps s next t.tick outs
event_keeps until s next outs sound t = acted_keeps s next t.tick t.rank outs sound (event_acted until s next outs t)

event_stops : (until : ℕ) (s next : MachineState) (left : LeftOut) (t : StopsActing until s left next) → ActedStops s next t.tick t.rank left
event_stops until s next left t = record { caught = t.caught; may = record { due = t.least.there; may = inl t.least }; catches = t.catches; stops = t.step }

pub event_leaves : (until : ℕ) (s next : MachineState) (left : LeftOut) → IsSound s → (t : StopsActing until s left next) → ActedLeaves s next t.tick
event_leaves until s next left sound t = acted_stops s next t.tick t.rank left sound (event_stops until s next left t)

-- whether geometry caught up or not, the display is where it was
scan_if : (observes : Bool) (tick rank : ℕ) (s caught : MachineState) → IsSound s → CatchesUpIf observes tick rank s caught → caught.io.video.scan ≡ s.io.video.scan
scan_if true tick rank s caught sound k = (caught_so tick rank s caught sound k.steps).scan
scan_if false tick rank s caught sound k = ap (λ (m : MachineState). m.io.video.scan) k

shown_same : (s caught next : MachineState) (swapped : Bool) → caught.io.video.scan ≡ s.io.video.scan → next_shown caught next swapped ≡ next_shown s next swapped
shown_same s caught next swapped same = rw same refl

-- so an event's step is a turn
pub event_took : (until : ℕ) (s caught next : MachineState) (tick : Tick) (rank : ℕ) (done : answer.Done) → IsSound s → IsLeast (acting_dues s) tick rank → rank < rank_of Nine → tick.0 < until
    → CatchesUpFor tick.0 rank s caught → Steps rank caught done next → TookTurn until s done next
event_took until s caught next tick rank answers.Made sound least event below catches h =
    inl (record { tick = tick; rank = rank; least = least; below = below; caught = caught; catches = catches; step = h }, event)
event_took until s caught next tick rank (answers.Frame swapped) sound least event below catches h =
    let same = scan_if (observes_by (actor_of rank) s) tick.0 rank s caught sound catches in
    let step : reference_step rank caught ≡ Makes next (next_shown s next swapped ∷ []) =
    h ∙ ap (λ (shown : Shown). (let made : MachineStep MachineState Shown LeftOut = Makes next (shown ∷ []) in made)) (shown_same s caught next swapped same) in
    (record { tick = tick; rank = rank; least = least; below = below; caught = caught; catches = catches; step = step }, event)
event_took until s caught next tick rank (answers.Stopped left) sound least event below catches h =
    inl (record { tick = tick; rank = rank; least = least; below = below; caught = caught; catches = catches; step = h }, event)

-- where nobody acts below a limit, nobody acts before it
from_limit : (until at other : ℕ) → until ≤ at → (until < at) ⊎ ((until ≡ at) × (0 ≤ other))
from_limit until at other le = grind (arith, le)

pub over_from : (until : ℕ) (s : MachineState) (tick : Tick) (rank : ℕ) → IsLeast (acting_dues s) tick rank → until ≤ tick.0 → IsOver (acting_dues s) until
over_from until s tick rank least le other at due = elim (least.least other at due) [ inl later ↦ omega (arith, later, le) | inr same ↦ (let e = same.0 in omega (arith, e, le)) ]

pub before_all : (until : ℕ) (s : MachineState) → IsOver (acting_dues s) until → ComesBeforeAll until 0 s
before_all until s none other at due = from_limit until at.0 other (none other at due)

-- and where quiet geometry isn't behind it either, nobody is due below it
not_behind : (due until : ℕ) → (nat_lt due until || ((due == until) && nat_lt geometry_rank 0)) ≡ false → until ≤ due
not_behind due until h = ltb-false due until (or_parts (nat_lt due until) ((due == until) && nat_lt geometry_rank 0) h).0

over_by : (quiet : Bool) (until : ℕ) (s : MachineState) (tick : Tick) → (quiet ≡ false → acting_dues s ≡ dues_of s) → (quiet && is_due_before s.io.gx.due until 0) ≡ false
    → IsOver (acting_dues s) until → due_at (dues_of s) geometry_rank ≡ Some tick → until ≤ tick.0
over_by false until s tick loud level none h = none geometry_rank tick (subst (λ (dues : List (Option Tick)). due_at dues geometry_rank ≡ Some tick) (sym (loud refl)) h)
over_by true until s tick loud level none h =
    let due : s.io.gx.due ≡ Some tick = sym (due_of_rank s geometry_rank (omega arith)) ∙ h in
    not_behind tick.0 until (subst (λ (o : Option Tick). is_due_before o until 0 ≡ false) due level)

pub over_all : (until : ℕ) (s : MachineState) → IsOver (acting_dues s) until → is_behind until 0 s ≡ false → IsOver (dues_of s) until
over_all until s none level rank tick h = elim (acts_then s rank tick h) [
  | inr acts ↦ none rank tick acts
  | inl twelve ↦ over_by _ until s tick (loud_same s) level none (subst (λ (r : ℕ). due_at (dues_of s) r ≡ Some tick) twelve h)
]

-- after one that took a step and didn't stop the machine goes on, by a limit that isn't below the turn's, and that step counts
pub record IsTaken (limit : ℕ) (s next : MachineState) : Type 0 where
  pub running : IsRunning limit next
  pub more : counts_of s < counts_of next

event_taken : (until limit : ℕ) (s next : MachineState) (outs : List Shown) → until ≤ limit → IsRunning limit s → TakesActing until s outs next → IsTaken limit s next
event_taken until limit s next outs le running t =
    let k = event_keeps until s next outs running.sound t in
    let below = t.below in
    record { running = running_acted limit s next t.tick t.rank outs (event_acted until s next outs t) (omega (arith, below, le)) running; more = k.more }

quiet_taken : (until limit : ℕ) (s next : MachineState) → until ≤ limit → IsRunning limit s → TakesQuiet until s next → IsTaken limit s next
quiet_taken until limit s next le running t = record {
  running = running_taken limit until 0 s next (before_all until s t.none) (λ u early earlier. omega (arith, earlier, le)) t.catches.steps running;
  more = caught_more until 0 s next running.sound t.some t.catches;
}

pub made_taken : (until limit : ℕ) (s next : MachineState) → until ≤ limit → IsRunning limit s → TookTurn until s answers.Made next → IsTaken limit s next
made_taken until limit s next le running t = elim t [
  | inl event ↦ event_taken until limit s next [] le running event.0
  | inr other ↦ elim other [
    | inl stretch ↦ record { running = running_along until limit stretch.proc s next le stretch.steps running; more = stretch_took until s next running.sound stretch }
    | inr quiet ↦ quiet_taken until limit s next le running quiet
  ]
]

pub frame_taken : (until limit : ℕ) (s next : MachineState) (swapped : Bool) → until ≤ limit → IsRunning limit s → TookTurn until s (answers.Frame swapped) next → IsTaken limit s next
frame_taken until limit s next swapped le running t = event_taken until limit s next (next_shown s next swapped ∷ []) le running t.0

-- where one stopped there were as few steps
pub stopped_few : (until limit : ℕ) (s next : MachineState) (left : LeftOut) → until ≤ limit → IsRunning limit s → TookTurn until s (answers.Stopped left) next → counts_of next ≤ 24 * limit
stopped_few until limit s next left le running t = elim t [
  | inl event ↦ (let acting = event.0 in let below = acting.below in few_where_stops limit s next acting.tick acting.rank left (event_stops until s next left acting) (omega (arith, below, le)) running)
  | inr stretch ↦ stop_few until s next left running.sound stretch limit le running
]

-- and no step is taken back by one that stopped
pub stopped_counts : (until : ℕ) (s next : MachineState) (left : LeftOut) → IsSound s → TookTurn until s (answers.Stopped left) next → counts_of s ≤ counts_of next
stopped_counts until s next left sound t = elim t [
  | inl event ↦ (event_leaves until s next left sound event.0).more
  | inr stretch ↦ stop_takes_none_back until s next left sound stretch
]

-- one more turn fits a console's count
pub one_fits : (turns limit : ℕ) (s : MachineState) → counts_of s ≤ 24 * limit → limit ≤ 2 ^ 56 → turns ≤ counts_of s → Fits w64 (turns + 1)
one_fits turns limit s all most few = Fits-of_lt (omega (arith, all, most, few))

-- ---- a turn that raises no limit, and that runs: what the console is after it

pub ran_is : (until limit turns : ℕ) (m next : MachineState) (stopped stop : Option LeftOut) → max limit until ≡ limit → stopped ≡ None → stop ≡ None
    → (let new : ConsoleState = record { machine = next; limit = limit; stopped = stop; turns = turns + 1 } in new)
    ≡ one_more_turn (run_to (record { machine = m; limit = limit; stopped = stopped; turns = turns }) until next)
ran_is until limit turns m next stopped stop same was none =
    ap (λ (l : ℕ). (let c : ConsoleState = record { machine = next; limit = l; stopped = stop; turns = turns + 1 } in c)) (sym same)
    ∙ ap (λ (o : Option LeftOut). (let c : ConsoleState = record { machine = next; limit = max limit until; stopped = o; turns = turns + 1 } in c)) (none ∙ sym was)

-- and one that stops
abbrev pub StopsNow : ℕ → LeftOut → ConsoleState → ConsoleState → Type 0
StopsNow until left old new = Turns until old (turned.Stopped left) new

pub stops_now : (until limit turns : ℕ) (m next : MachineState) (stopped stop : Option LeftOut) (left : LeftOut) → max limit until ≡ limit → stopped ≡ None → stop ≡ Some left
    → MeetsStop until m left next
    → StopsNow until left (record { machine = m; limit = limit; stopped = stopped; turns = turns }) (record { machine = next; limit = limit; stopped = stop; turns = turns })
stops_now until limit turns m next stopped stop left same was is meets = (
  λ none. (
    meets,
    ap (λ (l : ℕ). (let c : ConsoleState = record { machine = next; limit = l; stopped = stop; turns = turns } in c)) (sym same)
        ∙ ap (λ (o : Option LeftOut). (let c : ConsoleState = record { machine = next; limit = max limit until; stopped = o; turns = turns } in c)) is,
  ),
  λ some. absurd (true≢false (sym (subst (λ (o : Option LeftOut). IsSome o) was some))),
)

-- ---- a turn that is taken at once

-- it is known at once, where the turn's limit isn't above the one that is kept
pub at_once : (until limit : ℕ) (stopped : Option LeftOut) (tick : Tick) → until ≤ open_of limit stopped → tick.0 < until
    → (max limit until ≡ limit) × (stopped ≡ None)
at_once until limit None tick le lt = (omega (arith, le), refl)
at_once until limit (Some left) tick le lt = absurd (omega (arith, le, lt))

-- ---- what is known at once of who acts

-- nobody acts below a limit up to which no event acts, where both processors are due later
pub ends_over : (until : ℕ) (s : MachineState) (ends : Ends) → HasEnds until s ends → ends.end ≡ until → until ≤ ends.nine → until ≤ ends.seven → IsOver (acting_dues s) until
ends_over until s ends has end nine seven rank tick h = elim (low_or_high tick.0 until) [
  | inr le ↦ le
  | inl lt ↦ elim (sort_rank rank (acting_low s rank tick h)) [
    | inl event ↦ (let before = ((has.end (omega (arith, lt, end)) tick.0).0 (omega (arith, lt, end))).1 rank tick event h in absurd (omega (arith, before)))
    | inr (inl e) ↦ (let w = waits Nine (subst (λ (r : ℕ). due_at (acting_dues s) r ≡ Some tick) e h) in let is = has.nine in omega (arith, w, is, nine))
    | inr (inr e) ↦ (let w = waits Seven (subst (λ (r : ℕ). due_at (acting_dues s) r ≡ Some tick) e h) in let is = has.seven in omega (arith, w, is, seven))
  ]
] where
  waits : (proc : Proc) → due_at (acting_dues s) (rank_of proc) ≡ Some tick → due_or_never s proc ≡ tick.0
  waits proc there =
      wait_is (is_blocked s proc) (least_of (is_blocked s proc)) (processor_of s proc) tick refl (sym (acting_processor s proc) ∙ there)

-- a processor that is the least acting actor is due at its tick
pub first_acts : (until : ℕ) (s : MachineState) (proc : Proc) → IsLeastBelow until s proc → IsLeast (acting_dues s) (tick_of (processor_of s proc)) (rank_of proc)
first_acts until s proc first =
    subst (λ (t : Tick). IsLeast (acting_dues s) t (rank_of proc)) (own_tick s proc first.tick (sym (acting_processor s proc) ∙ first.least.there)) first.least
