use Rattle.run_ahead.proofs.Words.{BelongsToTurn, Bool, CatchesUp, CatchesUpFor, CatchesUpIf, ConsoleState, Due, IsLeast, IsLeastBelow, IsSome}
use Rattle.run_ahead.proofs.Words.{IsSound, LeftOut, List, MachineState, MachineStep, Makes, Nine, None, Option, Proc, Seven, Shown, Some, Steps}
use Rattle.run_ahead.proofs.Words.{Stops, TakesGeometry, TakesSteps, TookStretch, TookTurn, Turns, [], acting_dues, acting_low, actor_of, ap, arith}
use Rattle.run_ahead.proofs.Words.{at_end, behind_is, caught_for, caught_so, caught_steps, caught_up, counted_of, counts, false, fewer_left, inl, inr}
use Rattle.run_ahead.proofs.Words.{is_behind, low_or_high, meets_stop, more_steps, next_shown, no_steps, observes_by, one_more_turn, own_remaining}
use Rattle.run_ahead.proofs.Words.{processor_of, rank_of, reference_step, refl, run_to, still_due, subst, suc, sym, ticks_left, true, true_or_false}
use Rattle.run_ahead.proofs.Words.{true≢false, turn_silent, turn_steps_fall, turns_remaining, zero, ℕ, ◌+◌, ◌<◌, ◌∙◌, ◌∷◌, ◌≡◌, ◌≤◌, ◌⊎◌}
use Rattle.ds_machine.specs.Lagging as lagging
use Rattle.ds_machine.specs.declared.answers.Done as answer
use Rattle.ds_machine.specs.declared.answers.Done.TheVariants as answers
use Rattle.ds_machine.proofs.LagCommutes.{late_put}
use Rattle.ds_machine.proofs.LagSteps.{quiet_step}
use Rattle.ds_machine.proofs.StepsMay.{answer_of}
use Rattle.gx_fifo.specs.GxStates.{gx_finished}
use Rattle.run_ahead.specs.ToEndLaws.{HasTurnsToEnd, TurnsEnd}
use Rattle.run_ahead.specs.declared.turns.Turned as turned
use Rattle.run_ahead.specs.declared.turns.Turned.TheVariants as turns
use Rattle.run_ahead.proofs.StepTurns.{event_keeps, event_took, is_stop, is_stretch, over_all, over_from}
use Rattle.run_ahead.proofs.Stretches.{sound_along}
use Rattle.run_ahead.proofs.TurnLaws.{turn_falls}
use Rattle.run_ahead.proofs.TurnTests.{belongs_or_not, least_acts}

-- From each sound machine a turn is taken with each limit, and so turns go on to their end.

-- ---- geometry catches up: each step leaves fewer ticks

abbrev HasCaught : ℕ → ℕ → MachineState → Type 0
HasCaught tick rank start = (caught : MachineState) × CatchesUp tick rank start caught

catch_test : (tick rank : ℕ) (start s : MachineState) → IsSound start → TakesGeometry tick rank start s → (behind : Bool) → is_behind tick rank s ≡ behind
    → ((next : MachineState) → TakesGeometry tick rank start next → ticks_left (tick + 1) next.io.gx.due < ticks_left (tick + 1) s.io.gx.due → HasCaught tick rank start) → HasCaught tick rank start
catch_test tick rank start s sound takes false e rec = (s, record { steps = takes; level = e })
catch_test tick rank start s sound takes true e rec =
    let here = (caught_so tick rank start s sound takes).sound in
    let next = late_put (gx_finished s.io.gx) s in
    let makes = quiet_step s here (behind_is tick rank s e).quiet in
    rec next (lagging.more_geometry start s next takes e makes) (fewer_left tick rank s next here e makes)

catches_from : (n tick rank : ℕ) (start s : MachineState) → IsSound start → TakesGeometry tick rank start s → ticks_left (tick + 1) s.io.gx.due ≤ n → HasCaught tick rank start
catches_from zero tick rank start s sound takes few = catch_test tick rank start s sound takes (is_behind tick rank s) refl (λ next more_steps falls. absurd (omega (arith, falls, few)))
catches_from (suc n) tick rank start s sound takes few =
    catch_test tick rank start s sound takes (is_behind tick rank s) refl (λ next more_steps falls. catches_from n tick rank start next sound more_steps (omega (arith, falls, few)))

catches_up : (tick rank : ℕ) (s : MachineState) → IsSound s → (caught : MachineState) × CatchesUp tick rank s caught
catches_up tick rank s sound = catches_from (ticks_left (tick + 1) s.io.gx.due) tick rank s s sound (lagging.no_geometry s) (omega arith)

catches_if : (observes : Bool) (tick rank : ℕ) (s : MachineState) → IsSound s → (caught : MachineState) × CatchesUpIf observes tick rank s caught
catches_if true tick rank s sound = catches_up tick rank s sound
catches_if false tick rank s sound = (s, refl)

-- ---- a processor takes its steps that belong to its turn

abbrev HasStretch : ℕ → Proc → MachineState → Type 0
HasStretch until proc start = (stop : Option LeftOut) × (next : MachineState) × TookStretch until proc start stop next

module _ (until : ℕ) (proc : Proc) (start : MachineState) (sound : IsSound start) where
  stretch_step : (s : MachineState) → TakesSteps until proc start s
      → ((next : MachineState) → TakesSteps until proc start next → own_remaining until next proc < own_remaining until s proc → HasStretch until proc start) → HasStretch until proc start
  stretch_step s takes rec = by_test (belongs_or_not until s proc) where
    here : IsSound s
    here = sound_along until proc start s sound takes

    catching : (caught : MachineState) × CatchesUpFor (processor_of s proc).due (rank_of proc) s caught
    catching = catches_if (observes_by (actor_of (rank_of proc)) s) (processor_of s proc).due (rank_of proc) s here

    makes_nothing : BelongsToTurn until s proc → (caught : MachineState) → CatchesUpFor (processor_of s proc).due (rank_of proc) s caught → (next : MachineState) (outs : List Shown)
        → reference_step (rank_of proc) caught ≡ Makes next outs → reference_step (rank_of proc) caught ≡ Makes next []
    makes_nothing b caught catches next outs h =
        let up = caught_for (observes_by (actor_of (rank_of proc)) s) (processor_of s proc).due (rank_of proc) s caught catches in
        let due = still_due s caught proc (caught_so (processor_of s proc).due (rank_of proc) s caught here up).dues ∙ b.due in
        let step : List Shown → MachineStep MachineState Shown LeftOut = λ o. Makes next o in
        h ∙ ap step (turn_silent caught next proc b.tick outs due h)

    by_step : (b : BelongsToTurn until s proc) (caught : MachineState) → CatchesUpFor (processor_of s proc).due (rank_of proc) s caught
        → (came : MachineStep MachineState Shown LeftOut) → reference_step (rank_of proc) caught ≡ came → HasStretch until proc start
    by_step b caught catches (Stops left next) e = (Some left, next, (s, takes, b, (caught, catches, e)))
    by_step b caught catches (Makes next outs) e =
        let h = makes_nothing b caught catches next outs e in
        rec next (more_steps start s caught next takes b catches h) (turn_steps_fall until s caught next proc [] here b catches h)

    by_test : (BelongsToTurn until s proc) ⊎ (BelongsToTurn until s proc → ⊥) → HasStretch until proc start
    by_test (inr never) = (None, s, (takes, never))
    by_test (inl b) = (let k = catching in by_step b k.0 k.1 (reference_step (rank_of proc) k.0) refl)

  stretch_from : (n : ℕ) (s : MachineState) → TakesSteps until proc start s → own_remaining until s proc ≤ n → HasStretch until proc start
  stretch_from zero s takes few = stretch_step s takes (λ next further falls. absurd (omega (arith, falls, few)))
  stretch_from (suc n) s takes few = stretch_step s takes (λ next further falls. stretch_from n next further (omega (arith, falls, few)))

  has_stretch : HasStretch until proc start
  has_stretch = stretch_from (own_remaining until start proc) start (no_steps start) (omega arith)

-- ---- a machine takes a turn

abbrev HasTook : ℕ → MachineState → Type 0
HasTook until s = (done : answer.Done) × (next : MachineState) × TookTurn until s done next

module _ (until : ℕ) (s : MachineState) (sound : IsSound s) where
  stretch_took : (proc : Proc) → IsLeastBelow until s proc → HasTook until s
  stretch_took proc first = by_stop (has_stretch until proc s sound) where
    by_stop : HasStretch until proc s → HasTook until s
    by_stop (None, next, t) = (answers.Made, next, is_stretch until proc s next first t)
    by_stop (Some left, next, t) = (answers.Stopped left, next, is_stop until proc s next left first t)

  event_came : (first : Due) → IsLeast (acting_dues s) first.tick first.rank → first.rank < rank_of Nine → first.tick.0 < until → HasTook until s
  event_came first least event below = by_came (reference_step first.rank catching.0) refl where
    catching : (caught : MachineState) × CatchesUpFor first.tick.0 first.rank s caught
    catching = catches_if (observes_by (actor_of first.rank) s) first.tick.0 first.rank s sound

    took : (done : answer.Done) (next : MachineState) → Steps first.rank catching.0 done next → HasTook until s
    took done next h = (done, next, event_took until s catching.0 next first.tick first.rank done sound least event below catching.1 h)

    by_came : (came : MachineStep MachineState Shown LeftOut) → reference_step first.rank catching.0 ≡ came → HasTook until s
    by_came (Stops left next) e = took (answers.Stopped left) next e
    by_came (Makes next outs) e =
        let up = caught_up s first.tick first.rank sound catching.0 (record { due = least.there; may = inl least }) catching.1 in
        let k = answer_of catching.0 next first.tick first.rank outs (caught_steps s catching.0 first.tick first.rank up) e in
        took k.0 next k.1

  rank_kind : (rank : ℕ) → rank < 24 → (rank < rank_of Nine) ⊎ ((proc : Proc) × (rank ≡ rank_of proc))
  rank_kind rank low = elim (low_or_high rank (rank_of Nine)) [
    | inl event ↦ inl event
    | inr other ↦ elim (low_or_high rank (rank_of Seven)) [ inl nine ↦ inr (Nine, omega (arith, nine, other)) | inr seven ↦ inr (Seven, omega (arith, seven, low)) ]
  ]

  has_turn_below : (first : Due) → IsLeast (acting_dues s) first.tick first.rank → first.tick.0 < until → HasTook until s
  has_turn_below first least below = elim (rank_kind first.rank (acting_low s first.rank first.tick least.there)) [
    | inl event ↦ event_came first least event below
    | inr k ↦ stretch_took k.0 (record { tick = first.tick; least = subst (λ (r : ℕ). IsLeast (acting_dues s) first.tick r) k.1 least; below = below })
  ]

  quiet_took : (first : Due) → IsLeast (acting_dues s) first.tick first.rank → until ≤ first.tick.0 → is_behind until 0 s ≡ true → HasTook until s
  quiet_took first least le behind =
      let k = catches_up until 0 s sound in
      (answers.Made, k.0, inr (inr (record { none = over_from until s first.tick first.rank least le; some = behind; catches = k.1 })))

-- ---- a console takes one

abbrev HasTurn : ℕ → ConsoleState → Type 0
HasTurn until c = (answer : turned.Turned) × (new : ConsoleState) × Turns until c answer new

module _ (until : ℕ) (c : ConsoleState) (still_open : c.stopped ≡ None) (sound : IsSound c.machine) where
  console_took : (done : answer.Done) (next : MachineState) → TookTurn until c.machine done next → HasTurn until c
  console_took answers.Made next t = (turns.Ran, one_more_turn (run_to c until next), (still_open, t, refl))
  console_took (answers.Frame swapped) next t = (turns.Frame swapped, one_more_turn (run_to c until next), (still_open, t, refl))
  console_took (answers.Stopped left) next t =
      (turns.Stopped left, record (run_to c until next) { stopped = Some left }, (λ no_steps. (t, refl), λ some. absurd (true≢false (sym (subst (λ (o : Option LeftOut). IsSome o) still_open some)))))

  has_turn : HasTurn until c
  has_turn =
      let first = least_acts c.machine in
      elim (low_or_high first.0.tick.0 until) [
        | inl below ↦ (let k = has_turn_below until c.machine sound first.0 first.1 below in console_took k.0 k.1 k.2)
        | inr le ↦ elim (true_or_false (is_behind until 0 c.machine)) [
          | inl behind ↦ (let k = quiet_took until c.machine sound first.0 first.1 le behind in console_took k.0 k.1 k.2)
          | inr level ↦ (turns.AtEnd, run_to c until c.machine, (still_open, over_all until c.machine (over_from until c.machine first.0.tick first.0.rank first.1 le) level, refl))
        ]
      ]

-- ---- and turns go on to their end

abbrev AllEndFrom : ℕ → ℕ → Type 0
AllEndFrom until n = (c : ConsoleState) → c.stopped ≡ None → IsSound c.machine → turns_remaining until c.machine ≤ n → HasTurnsToEnd until c

-- what is so after one that counts
pub record GoesFurther (c : ConsoleState) : Type 0 where
  pub still_open : c.stopped ≡ None
  pub sound : IsSound c.machine

made_sound : (until : ℕ) (s next : MachineState) → IsSound s → TookTurn until s answers.Made next → IsSound next
made_sound until s next sound t = elim t [
  | inl event ↦ (event_keeps until s next [] sound event.0).sound
  | inr other ↦ elim other [
    | inl stretch ↦ sound_along until stretch.proc s next sound stretch.steps
    | inr quiet ↦ (caught_so until 0 s next sound quiet.catches.steps).sound
  ]
]

pub further : (until : ℕ) (c new : ConsoleState) (a : turned.Turned) → IsSound c.machine → Turns until c a new → counted_of a ≡ 1 → GoesFurther new
further until c new turns.Ran sound t one =
    record { still_open = ap (λ (x : ConsoleState). x.stopped) t.2 ∙ t.0; sound = made_sound until c.machine new.machine sound t.1 }
further until c new (turns.Frame swapped) sound t one =
    record { still_open = ap (λ (x : ConsoleState). x.stopped) t.2 ∙ t.0; sound = (event_keeps until c.machine new.machine (next_shown c.machine new.machine swapped ∷ []) sound t.1.0).sound }
further until c new turns.AtEnd sound t one = absurd (omega (arith, one))
further until c new (turns.Stopped left) sound t one = absurd (omega (arith, one))

module _ (until : ℕ) (c : ConsoleState) (still_open : c.stopped ≡ None) (sound : IsSound c.machine) where
  one_more : (n : ℕ) → turns_remaining until c.machine ≤ n → ((k : ℕ) → k < n → AllEndFrom until k) → (a : turned.Turned) (new : ConsoleState) → Turns until c a new → counted_of a ≡ 1
      → HasTurnsToEnd until c
  one_more n few rec a new t one =
      let falls = turn_falls until c a new (λ no_steps. sound) t one in
      let go = further until c new a sound t one in
      let rest = rec (turns_remaining until new.machine) (omega (arith, falls, few)) new go.still_open go.sound (omega arith) in
      (rest.0, rest.1, counts c new rest.1 a rest.0 one t rest.2)

  goes_to_end : (n : ℕ) → turns_remaining until c.machine ≤ n → ((k : ℕ) → k < n → AllEndFrom until k) → (a : turned.Turned) (new : ConsoleState) → Turns until c a new → HasTurnsToEnd until c
  goes_to_end n few rec turns.Ran new t = one_more n few rec turns.Ran new t refl
  goes_to_end n few rec (turns.Frame swapped) new t = one_more n few rec (turns.Frame swapped) new t refl
  goes_to_end n few rec turns.AtEnd new t = (_, new, at_end c new t)
  goes_to_end n few rec (turns.Stopped left) new t = (_, new, meets_stop c new left t)

all_end : (until n : ℕ) → (k : ℕ) → k < n → AllEndFrom until k
all_end until zero k lt c still_open sound few = absurd (omega (arith, lt))
all_end until (suc n) k lt c still_open sound few =
    let t = has_turn until c still_open sound in
    goes_to_end until c still_open sound k few (λ j less. all_end until n j (omega (arith, less, lt))) t.0 t.1 t.2

pub turns_end : TurnsEnd
turns_end until c still_open sound =
    all_end until (turns_remaining until c.machine + 1) (turns_remaining until c.machine) (omega arith) c still_open sound (omega arith)
