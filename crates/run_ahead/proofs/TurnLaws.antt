use Rattle.run_ahead.proofs.Words.{Bool, ConsoleState, FollowFrames, FollowLists, GoesOn, HasTurned, IsSound, LeftOut, List, MachineState, MeetsStop}
use Rattle.run_ahead.proofs.Words.{None, Option, RunsOn, Shown, Some, TakesActing, TakesQuiet, Tick, Turns, [], acting_stops, ap, arith, caught_so}
use Rattle.run_ahead.proofs.Words.{counted_of, false, inl, inr, is_behind, last_frame, last_lists, next_shown, no_turn, one_turn, places_remaining}
use Rattle.run_ahead.proofs.Words.{reference, refl, shown_in, takes_along, true, turns_in, turns_remaining, ℕ, ◌+◌, ◌<◌, ◌∷◌, ◌≡◌, ◌≤◌}
use Rattle.ds_machine.proofs.ActingPlaces.{acted_fewer}
use Rattle.ds_runs.specs.Runs.{over}
use Rattle.ds_runs.proofs.RunExists.{run_exists}
use Rattle.ds_machine.specs.Sound.{HasSoundParts}
use Rattle.ds_machine.proofs.ActingSteps.{acting_runs}
use Rattle.ds_machine.proofs.CatchingUp.{catching_up_runs}
use Rattle.ds_machine.proofs.MachineSchedule.{reference_schedules}
use Rattle.run_ahead.specs.TurnLaws.{HasRuns, one_if, TurnsAddUp}
use Rattle.run_ahead.specs.declared.turns.Turned as turned
use Rattle.run_ahead.specs.declared.turns.Turned.TheVariants as answers
use Rattle.run_ahead.proofs.StepTurns.{before_all, event_acted, event_keeps, event_leaves}
use Rattle.run_ahead.proofs.Stretches.{goes_along, places_left, stop_frame, stop_lists, stretch_fewer, stretch_stops}

-- The laws of turns.

-- a console's machine is sound unless it stopped
abbrev pub IsSoundUnlessStopped : ConsoleState → Type 0
IsSoundUnlessStopped c = c.stopped ≡ None → IsSound c.machine

-- from every sound machine there are runs
pub has_runs : (s : MachineState) → HasSoundParts s → HasRuns s
has_runs s sound = λ limit. run_exists reference 24 HasSoundParts reference_schedules limit s sound

-- the reference run from before an event goes through it
event_goes_on : (until : ℕ) (old new : MachineState) (front : List Shown) → IsSound old → TakesActing until old front new → GoesOn until old new front
event_goes_on until old new front sound t = λ limit le end outs run.
    (let below = t.below in
    let a = event_acted until old new front t in
    (acting_runs old t.caught new t.tick t.rank limit front sound a.may t.catches (omega (arith, below, le)) t.step end outs).1 run)

-- and so from before quiet geometry caught up with the limit
quiet_goes_on : (until : ℕ) (old new : MachineState) → IsSound old → TakesQuiet until old new → GoesOn until old new []
quiet_goes_on until old new sound t = λ limit le end outs run.
    (catching_up_runs old new until 0 limit sound (before_all until old t.none) t.catches (omega (arith, le)) end outs).1 run

-- ---- each leaves fewer turns below the limit

one_at_most : (b : Bool) → one_if b ≤ 1
one_at_most true = omega arith
one_at_most false = omega arith

-- fewer places of acting actors: whether geometry is behind the limit or not
fewer_turns : (until : ℕ) (old new : MachineState) → places_left until new < places_left until old → turns_remaining until new < turns_remaining until old
fewer_turns until old new fewer = (let one = one_at_most (is_behind until 0 new) in omega (arith, fewer, one))

event_fewer : (until : ℕ) (old new : MachineState) (front : List Shown) → IsSound old → TakesActing until old front new → turns_remaining until new < turns_remaining until old
event_fewer until old new front sound t =
    fewer_turns until old new (acted_fewer old new t.tick t.rank front until sound t.least t.below (event_acted until old new front t))

-- the same places, and geometry isn't behind the limit any more
quiet_fewer : (until : ℕ) (old new : MachineState) → IsSound old → TakesQuiet until old new → turns_remaining until new < turns_remaining until old
quiet_fewer until old new sound t =
    let same : places_left until new ≡ places_left until old = ap (λ (dues : List (Option Tick)). places_remaining 24 until 0 dues) (caught_so until 0 old new sound t.catches.steps).dues in
    let before : one_if (is_behind until 0 old) ≡ 1 = ap one_if t.some in
    let after : one_if (is_behind until 0 new) ≡ 0 = ap one_if t.catches.level in
    omega (arith, same, before, after)

-- ---- what a turn says of the reference run

pub runs_on : (until : ℕ) (old : ConsoleState) (answer : turned.Turned) (new : ConsoleState) → IsSoundUnlessStopped old → Turns until old answer new → old.stopped ≡ None
    → RunsOn until old.machine answer new.machine
runs_on until old answers.Ran new sound t open_ = elim t.1 [
  | inl event ↦ event_goes_on until old.machine new.machine [] (sound open_) event.0
  | inr other ↦ elim other [
    | inl stretch ↦ goes_along until stretch.proc old.machine new.machine (sound open_) stretch.steps
    | inr quiet ↦ quiet_goes_on until old.machine new.machine (sound open_) quiet
  ]
]
runs_on until old (answers.Frame swapped) new sound t open_ = event_goes_on until old.machine new.machine (next_shown old.machine new.machine swapped ∷ []) (sound open_) t.1.0
runs_on until old answers.AtEnd new sound t open_ = over old.machine t.1
runs_on until old (answers.Stopped left) new sound t open_ = elim (t.0 open_).0 [
  | inl event ↦
      (let acting = event.0 in
      acting_stops old.machine acting.caught new.machine acting.tick acting.rank until left (sound open_)
      (record { due = acting.least.there; may = inl acting.least }) acting.catches acting.below acting.step)
  | inr stretch ↦ stretch_stops until old.machine new.machine left (sound open_) stretch
]

-- a turn that counts leaves fewer below the limit
pub turn_falls : (until : ℕ) (old : ConsoleState) (answer : turned.Turned) (new : ConsoleState) → IsSoundUnlessStopped old → Turns until old answer new → counted_of answer ≡ 1
    → turns_remaining until new.machine < turns_remaining until old.machine
turn_falls until old answers.Ran new sound t counts = elim t.1 [
  | inl event ↦ event_fewer until old.machine new.machine [] (sound t.0) event.0
  | inr other ↦ elim other [
    | inl stretch ↦ fewer_turns until old.machine new.machine (stretch_fewer until old.machine new.machine (sound t.0) stretch)
    | inr quiet ↦ quiet_fewer until old.machine new.machine (sound t.0) quiet
  ]
]
turn_falls until old (answers.Frame swapped) new sound t counts =
    event_fewer until old.machine new.machine (next_shown old.machine new.machine swapped ∷ []) (sound t.0) t.1.0
turn_falls until old answers.AtEnd new sound t counts = absurd (omega (arith, counts))
turn_falls until old (answers.Stopped left) new sound t counts = absurd (omega (arith, counts))

-- ---- how many turns count

-- a stop leaves the count as it was
stopped_counts : (until : ℕ) (old new : ConsoleState) (o : Option LeftOut) → old.stopped ≡ o → (left : LeftOut) → Turns until old (answers.Stopped left) new → new.turns ≡ old.turns
stopped_counts until old new None e left t = ap (λ (x : ConsoleState). x.turns) (t.0 e).1
stopped_counts until old new (Some l) e left t = ap (λ (x : ConsoleState). x.turns) (t.1 (rw e refl)).1

pub turn_counts : (until : ℕ) (old : ConsoleState) (answer : turned.Turned) (new : ConsoleState) → Turns until old answer new → new.turns ≡ counted_of answer + old.turns
turn_counts until old answers.Ran new t = let e : new.turns ≡ old.turns + 1 = ap (λ (x : ConsoleState). x.turns) t.2 in omega (arith, e)
turn_counts until old (answers.Frame swapped) new t = let e : new.turns ≡ old.turns + 1 = ap (λ (x : ConsoleState). x.turns) t.2 in omega (arith, e)
turn_counts until old answers.AtEnd new t = let e : new.turns ≡ old.turns = ap (λ (x : ConsoleState). x.turns) t.2 in omega (arith, e)
turn_counts until old (answers.Stopped left) new t = let e = stopped_counts until old new old.stopped refl left t in omega (arith, e)

-- all turns together
pub turns_add_up : TurnsAddUp
turns_add_up until start now t = add t where
  add : {until : ℕ} {start now : ConsoleState} (t : HasTurned until start now) → now.turns ≡ turns_in t + start.turns
  add (no_turn start) = omega arith
  add {until} (one_turn start before now answer earlier last) =
      let e = turn_counts until before answer now last in
      let f = add earlier in
      omega (arith, e, f)

-- ---- the frame that a turn made whole is the last whole one after it, and the others leave that one

stop_frames : (until : ℕ) (old new : MachineState) (left : LeftOut) → IsSound old → MeetsStop until old left new → last_frame new ≡ last_frame old
stop_frames until old new left sound t = elim t [
  | inl event ↦ (event_leaves until old new left sound event.0).frame
  | inr stretch ↦ stop_frame until old new left sound stretch
]

stopped_frames : (until : ℕ) (old new : ConsoleState) (o : Option LeftOut) → old.stopped ≡ o → (left : LeftOut) → IsSoundUnlessStopped old → Turns until old (answers.Stopped left) new
    → last_frame new.machine ≡ last_frame old.machine
stopped_frames until old new None e left sound t = stop_frames until old.machine new.machine left (sound e) (t.0 e).0
stopped_frames until old new (Some l) e left sound t = ap (λ (x : ConsoleState). last_frame x.machine) (t.1 (rw e refl)).1

pub turn_frames : (until : ℕ) (old : ConsoleState) (answer : turned.Turned) (new : ConsoleState) → IsSoundUnlessStopped old → Turns until old answer new
    → FollowFrames old.machine new.machine (shown_in answer old.machine new.machine)
turn_frames until old answers.Ran new sound t = elim t.1 [
  | inl event ↦ (event_keeps until old.machine new.machine [] (sound t.0) event.0).frames
  | inr other ↦ elim other [
    | inl stretch ↦ (takes_along until stretch.proc old.machine new.machine (sound t.0) stretch.steps).frame
    | inr quiet ↦ (caught_so until 0 old.machine new.machine (sound t.0) quiet.catches.steps).frame
  ]
]
turn_frames until old (answers.Frame swapped) new sound t = (event_keeps until old.machine new.machine (next_shown old.machine new.machine swapped ∷ []) (sound t.0) t.1.0).frames
turn_frames until old answers.AtEnd new sound t = ap (λ (x : ConsoleState). last_frame x.machine) t.2
turn_frames until old (answers.Stopped left) new sound t = stopped_frames until old new old.stopped refl left sound t

-- and so with the lists of a swap
stop_keeps_lists : (until : ℕ) (old new : MachineState) (left : LeftOut) → IsSound old → MeetsStop until old left new → last_lists new ≡ last_lists old
stop_keeps_lists until old new left sound t = elim t [
  | inl event ↦ (event_leaves until old new left sound event.0).lists
  | inr stretch ↦ stop_lists until old new left sound stretch
]

stopped_lists : (until : ℕ) (old new : ConsoleState) (o : Option LeftOut) → old.stopped ≡ o → (left : LeftOut) → IsSoundUnlessStopped old → Turns until old (answers.Stopped left) new
    → last_lists new.machine ≡ last_lists old.machine
stopped_lists until old new None e left sound t = stop_keeps_lists until old.machine new.machine left (sound e) (t.0 e).0
stopped_lists until old new (Some l) e left sound t = ap (λ (x : ConsoleState). last_lists x.machine) (t.1 (rw e refl)).1

pub turn_lists : (until : ℕ) (old : ConsoleState) (answer : turned.Turned) (new : ConsoleState) → IsSoundUnlessStopped old → Turns until old answer new
    → FollowLists old.machine new.machine (shown_in answer old.machine new.machine)
turn_lists until old answers.Ran new sound t = elim t.1 [
  | inl event ↦ (event_keeps until old.machine new.machine [] (sound t.0) event.0).lists
  | inr other ↦ elim other [
    | inl stretch ↦ (takes_along until stretch.proc old.machine new.machine (sound t.0) stretch.steps).lists
    | inr quiet ↦ (caught_so until 0 old.machine new.machine (sound t.0) quiet.catches.steps).lists
  ]
]
turn_lists until old (answers.Frame swapped) new sound t = (event_keeps until old.machine new.machine (next_shown old.machine new.machine swapped ∷ []) (sound t.0) t.1.0).lists
turn_lists until old answers.AtEnd new sound t = ap (λ (x : ConsoleState). last_lists x.machine) t.2
turn_lists until old (answers.Stopped left) new sound t = stopped_lists until old new old.stopped refl left sound t
