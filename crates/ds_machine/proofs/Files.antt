use Rattle.ds_machine.proofs.Words.{ActsUnobserving, Bool, Card, CartFile, Dma, HasBothStatuses, HasSoundParts, IsAhead, IsBelowFence, IsPrivate}
use Rattle.ds_machine.proofs.Words.{KeyScript, LeftOut, List, MachineState, MachineStep, Makes, MayStep, Nine, None, Option, Proc, Processor, Seven}
use Rattle.ds_machine.proofs.Words.{Shown, Some, StepsKeepFile, Stops, Tick, acting_dues, actor_of, after_event, ap, awake, due_by, dues_of, ended}
use Rattle.ds_machine.proofs.Words.{false, goes_on, if◌then◌else◌, inl, inr, io_event, left_by, machine_graft, machine_settled, observes_by}
use Rattle.ds_machine.proofs.Words.{one_event, processor_due, processor_of, reference_step, refl, step_by, step_with, stepped_of, subst, sym, tick_of}
use Rattle.ds_machine.proofs.Words.{true, true_or_false, true≢false, untouched_by, wakes, with_file, with_io, woken_one, ℕ, ◌∙◌, ◌≡◌}
use Rattle.ds_runs.specs.declared.actors.Actor as actor
use Rattle.ds_machine.specs.Lagging as lagging
use Rattle.ds_machine.specs.declared.answers.Done as answer
use Rattle.ds_machine.specs.declared.answers.Done.TheVariants as answers
use Rattle.ds_machine.proofs.Apart.{picked}
use Rattle.ds_machine.proofs.FenceFirsts.{fences_as}
use Rattle.ds_machine.proofs.Running.{running_taken, steps_keep_running}
use Rattle.ds_machine.proofs.Touched.{comes_to_same}

-- With another file a machine is due when it was, and its actors' steps come to the same: none but the card looks at it. What is said of `s` is said
-- of `with_file file s`.

abbrev pub is_card : actor.Actor → Bool
is_card Card = true
is_card _ = false

abbrev Step : Type 0
Step = MachineStep MachineState Shown LeftOut

module _ (file : List ℕ) where
  abbrev put : MachineState → MachineState
  put s = with_file file s

  -- ---- when actors are due

  pub processor_due_put : (s : MachineState) (proc : Proc) → processor_due (put s) proc ≡ processor_due s proc
  processor_due_put s Nine = refl
  processor_due_put s Seven = refl

  pub due_put : (a : actor.Actor) (s : MachineState) → due_by a (put s) ≡ due_by a s
  due_put KeyScript s = refl
  due_put (Processor proc) s = processor_due_put s proc
  due_put _ s = refl

  pub own_put : (s : MachineState) (proc : Proc) → processor_of (put s) proc ≡ processor_of s proc
  own_put s Nine = refl
  own_put s Seven = refl

  -- ---- steps

  none_uses : (a : actor.Actor) (s : MachineState) → is_card a ≡ false → (untouched_by a s).rest CartFile ≡ true
  none_uses Card s other = absurd (true≢false other)
  none_uses (Dma Nine channel) s other = refl
  none_uses (Dma Seven channel) s other = refl
  none_uses (Processor Nine) s other = refl
  none_uses (Processor Seven) s other = refl
  none_uses _ s other = refl

  step_put : (rank : ℕ) (a : actor.Actor) (s : MachineState) → is_card a ≡ false → step_by rank a (put s) ≡ step_with put (step_by rank a s)
  step_put rank a s other = comes_to_same rank a s put (record { shared = refl; vram = refl }) (λ left.
      λ i. record (machine_graft (untouched_by a s) (put s) left) { file = picked ((untouched_by a s).rest CartFile) file left.file (none_uses a s other) i })

  go_put : (proc : Proc) (tick : Tick) (s : MachineState) → goes_on proc tick (put s) ≡ put (goes_on proc tick s)
  go_put Nine tick s = refl
  go_put Seven tick s = refl

  if_put : (b : Bool) (x y : MachineState) → (if b then put x else put y) ≡ put (if b then x else y)
  if_put true x y = refl
  if_put false x y = refl

  woken_put : (proc : Proc) (tick : Tick) (s : MachineState) → woken_one proc tick (put s) ≡ put (woken_one proc tick s)
  woken_put proc tick s =
      ap (λ (m : MachineState). if wakes s proc then m else put s) (go_put proc tick s) ∙ if_put (wakes s proc) (goes_on proc tick s) s

  ended_put : (tick : Tick) (s : MachineState) → ended tick (put s) ≡ put (ended tick s)
  unfolding ended
  ended_put tick s =
      let first = machine_settled tick s in ap (woken_one Seven tick) (woken_put Nine tick first) ∙ woken_put Seven tick (woken_one Nine tick first)

  awake_put : (due : Option Tick) (came : Step) → awake due (step_with put came) ≡ step_with put (awake due came)
  awake_put None came = refl
  awake_put (Some tick) (Makes next outs) = ap (λ (m : MachineState). (let step : Step = Makes m outs in step)) (ended_put tick next)
  awake_put (Some tick) (Stops stop left) = refl

  pub reference_put : (rank : ℕ) (s : MachineState) → is_card (actor_of rank) ≡ false → reference_step rank (put s) ≡ step_with put (reference_step rank s)
  reference_put rank s other =
      let a = actor_of rank in
      ap (λ (due : Option Tick). awake due (step_by rank a (put s))) (due_put a s)
      ∙ ap (awake (due_by a s)) (step_put rank a s other)
      ∙ awake_put (due_by a s) (step_by rank a s)

  kept_put : (came : Step) → came ≡ step_with put came → (left_by came).file ≡ file
  kept_put (Makes next outs) h = ap (λ (step : Step). (left_by step).file) h
  kept_put (Stops stop left) h = ap (λ (step : Step). (left_by step).file) h

  stepped_put : (old new : MachineState) (done : answer.Done) → step_with put (stepped_of old done new) ≡ stepped_of (put old) done (put new)
  stepped_put old new answers.Made = refl
  stepped_put old new (answers.Frame swapped) = refl
  stepped_put old new (answers.Stopped left) = refl

  -- so what a step comes to on a machine without its file, it comes to with it
  pub awake_with : (rank : ℕ) (a : actor.Actor) (tick : Tick) (old new : MachineState) (done : answer.Done) → is_card a ≡ false
      → awake (Some tick) (step_by rank a old) ≡ stepped_of old done new → awake (Some tick) (step_by rank a (put old)) ≡ stepped_of (put old) done (put new)
  awake_with rank a tick old new done other h =
      ap (awake (Some tick)) (step_put rank a old other) ∙ awake_put (Some tick) (step_by rank a old) ∙ ap (step_with put) h ∙ stepped_put old new done

  -- the event of an actor behind the ports, by what it left of the units
  pub event_with : (a : actor.Actor) (tick : Tick) (old new : MachineState) → new ≡ ended tick (one_event (with_io old (io_event file a old.io)))
      → put new ≡ ended tick (after_event a (put old))
  event_with a tick old new h = ap put h ∙ sym (ended_put tick (one_event (with_io old (io_event file a old.io))))

  -- ---- what holds of it

  pub parts_put : (s : MachineState) → HasSoundParts s → HasSoundParts (put s)
  parts_put s is = record { io = is.io; keys = is.keys }

  pub statuses_put : (s : MachineState) → HasBothStatuses s → HasBothStatuses (put s)
  statuses_put s has = record { nine = has.nine; seven = has.seven }

  private_put : (s : MachineState) (proc : Proc) → IsPrivate s proc → IsPrivate (put s) proc
  private_put s Nine is = record { free = is.free; down = is.down; deaf = is.deaf; own = is.own }
  private_put s Seven is = record { free = is.free; down = is.down; deaf = is.deaf; own = is.own }

  below_put : (s : MachineState) (tick : Tick) (proc : Proc) → IsBelowFence s proc tick → IsBelowFence (put s) proc tick
  unfolding acting_dues
  below_put s tick proc is = λ rank at there f. is rank at there (fences_as (actor_of rank) proc s (put s) refl f)

  ahead_put : (s : MachineState) (proc : Proc) → IsAhead s proc → IsAhead (put s) proc
  ahead_put s Nine is = record { private = private_put s Nine is.private; below = below_put s (tick_of s.nine.processor) Nine is.below }
  ahead_put s Seven is = record { private = private_put s Seven is.private; below = below_put s (tick_of s.seven.processor) Seven is.below }

  observes_put : (a : actor.Actor) (s : MachineState) → observes_by a (put s) ≡ observes_by a s
  observes_put (Dma Nine channel) s = refl
  observes_put (Dma Seven channel) s = refl
  observes_put (Processor Nine) s = refl
  observes_put (Processor Seven) s = refl
  observes_put _ s = refl

  apart_put : (s : MachineState) (tick : Tick) (rank : ℕ) → ActsUnobserving s rank tick → ActsUnobserving (put s) rank tick
  unfolding acting_dues
  apart_put s tick rank is = record { least = is.least; unobserving = observes_put (actor_of rank) s ∙ is.unobserving }

  pub may_step_put : (s : MachineState) (rank : ℕ) → MayStep s rank → MayStep (put s) rank
  unfolding dues_of
  may_step_put s rank is = record {
    tick = is.tick;
    due = is.due;
    early = is.early;
    may = elim is.may [
      | inl least ↦ inl least
      | inr other ↦ elim other [ inl acts ↦ inr (inl (apart_put s is.tick rank acts)) | inr k ↦ inr (inr (k.0, k.1, ahead_put s k.0 k.2)) ]
    ];
  }

-- ---- no step changes the file

card_there : (a : actor.Actor) → is_card a ≡ true → a ≡ Card
card_there Card h = refl
card_there _ h = absurd (true≢false (sym h))

card_keeps : (rank : ℕ) (due : Option Tick) (s : MachineState) → (left_by (awake due (step_by rank Card s))).file ≡ s.file
card_keeps rank None s = refl
card_keeps rank (Some tick) s = ap (λ (m : MachineState). m.file) (ended_put s.file tick (after_event Card s))

pub steps_keep_file : StepsKeepFile
steps_keep_file rank s = elim (true_or_false (is_card (actor_of rank))) [
  | inl card ↦ (let due = due_by (actor_of rank) s in
      subst (λ (a : actor.Actor). (left_by (awake due (step_by rank a s))).file ≡ s.file) (sym (card_there (actor_of rank) card)) (card_keeps rank due s))
  | inr other ↦ kept_put s.file (reference_step rank s) (reference_put s.file rank s other)
]
