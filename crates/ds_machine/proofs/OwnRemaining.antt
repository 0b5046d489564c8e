use Rattle.ds_machine.proofs.Words.{BelongsToTurn, Bool, CatchesUpIf, Cost, Halted, HasOnlyLaterEvents, HasSoundParts, IsLater, IsLeast, Left, List}
use Rattle.ds_machine.proofs.Words.{MachineState, Makes, Nine, None, Option, Proc, Processor, Seven, Shown, Some, Tick, TurnStepsFall, []}
use Rattle.ds_machine.proofs.Words.{acting_dues, actor_of, ap, arith, awake, due_at, ended, false, gone_by, inl, inr, io_of, machine_concluded}
use Rattle.ds_machine.proofs.Words.{not_both, observes_by, own_remaining, own_tick, processor_due, processor_of, rank_of, reference_step, refl}
use Rattle.ds_machine.proofs.Words.{same_makes, step_by, still_later, subst, sym, ticks_left, true, true≢false, ℕ, ◌<◌, ◌∙◌, ◌≡◌}
use Rattle.arm_core.specs.declared.outcomes.Stepped as arm
use Rattle.ds_machine.proofs.ActingDues.{acting_processor}
use Rattle.ds_machine.proofs.CatchingUp.{caught_so}
use Rattle.ds_machine.proofs.MachineSchedule.{awake_makes}
use Rattle.ds_machine.proofs.ProcessorSteps.{Operation, came_by, concludes, costs_some, gone_sound, processor_io_later, reached_by}
use Rattle.ds_machine.proofs.PrivateUnobserved.{rank_unobserved}
use Rattle.ds_machine.proofs.Quiet.{quiet_acting, quiet_ahead}
use Rattle.ds_machine.proofs.Wakes.{ends}

-- A step of a processor's turn that is taken leaves the processor due later, or not at all: so a loop over such steps ends.

quiet_turn : (until : ℕ) (s : MachineState) (proc : Proc) (b : BelongsToTurn until s proc) → HasOnlyLaterEvents b.tick (io_of s.io proc)
quiet_turn until s proc b = elim b.goes [
  | inl least ↦ quiet_acting s b.tick proc least
  | inr ahead ↦ subst (λ (t : Tick). HasOnlyLaterEvents t (io_of s.io proc)) (sym (own_tick s proc b.tick b.due)) (quiet_ahead s proc ahead)
]

-- what came of it
came_of : (s next : MachineState) (proc : Proc) (tick : Tick) (outs : List Shown) → processor_due s proc ≡ Some tick → reference_step (rank_of proc) s ≡ Makes next outs
    → awake (Some tick) (step_by (rank_of proc) (Processor proc) s) ≡ Makes next outs
came_of s next Nine tick outs due h = subst (λ (o : Option Tick). awake o (step_by (rank_of Nine) (Processor Nine) s) ≡ Makes next outs) due h
came_of s next Seven tick outs due h = subst (λ (o : Option Tick). awake o (step_by (rank_of Seven) (Processor Seven) s) ≡ Makes next outs) due h

pub turn_later : (until : ℕ) (s next : MachineState) (proc : Proc) (outs : List Shown) → HasSoundParts s → (b : BelongsToTurn until s proc)
    → reference_step (rank_of proc) s ≡ Makes next outs → IsLater b.tick (processor_due next proc)
turn_later until s next proc outs sound b h =
    let r : Operation proc b.tick s = record { sound = sound; quiet = quiet_turn until s proc b; due = b.due } in
    let k = awake_makes b.tick (step_by (rank_of proc) (Processor proc) s) next outs (came_of s next proc b.tick outs b.due h) in
    let came = came_by proc s in
    let m = reached_by proc s in
    let c = concludes (rank_of proc) proc m k.0 outs came (costs_some proc s) k.1 in
    let made = gone_by proc came m in
    let last = ended b.tick made in
    let later = still_later b.tick (processor_due made proc) (processor_due last proc) (processor_io_later proc b.tick s r came c.0)
    ((ends b.tick made (gone_sound proc b.tick s r came c.0)).moves (Processor proc) tt) in
    subst (λ (x : MachineState). IsLater b.tick (processor_due x proc)) (ap (ended b.tick) c.1 ∙ k.2) later

-- it puts out nothing
concluded_silent : (rank : ℕ) (proc : Proc) (m made : MachineState) (outs : List Shown) (came : arm.Stepped) → machine_concluded rank proc m came ≡ Makes made outs → outs ≡ []
concluded_silent rank proc m made outs (Cost clocks) h = sym (same_makes (gone_by proc (Cost clocks) m) made [] outs h).1
concluded_silent rank proc m made outs (Halted clocks) h = sym (same_makes (gone_by proc (Halted clocks) m) made [] outs h).1
concluded_silent rank proc m made outs (Left stop) h = absurd (not_both made m outs _ (sym h))

pub turn_silent : (s next : MachineState) (proc : Proc) (tick : Tick) (outs : List Shown) → processor_due s proc ≡ Some tick → reference_step (rank_of proc) s ≡ Makes next outs → outs ≡ []
turn_silent s next proc tick outs due h =
    let k = awake_makes tick (step_by (rank_of proc) (Processor proc) s) next outs (came_of s next proc tick outs due h) in
    concluded_silent (rank_of proc) proc (reached_by proc s) k.0 outs (came_by proc s) k.1

pub fewer_left : (until : ℕ) (tick : Tick) (due : Option Tick) → tick.0 < until → IsLater tick due → ticks_left until due < ticks_left until (Some tick)
fewer_left until tick None lt later = omega (arith, lt)
fewer_left until tick (Some at) lt later = omega (arith, lt, later)

pub step_falls : (until : ℕ) (s next : MachineState) (proc : Proc) (outs : List Shown) → HasSoundParts s → BelongsToTurn until s proc
    → reference_step (rank_of proc) s ≡ Makes next outs → own_remaining until next proc < own_remaining until s proc
step_falls until s next proc outs sound b h =
    subst (λ (o : Option Tick). ticks_left until (processor_due next proc) < ticks_left until o) (sym b.due)
    (fewer_left until b.tick (processor_due next proc) b.below (turn_later until s next proc outs sound b h))

-- ---- where the step observes geometry, geometry caught up before it, which leaves what acts

pub still_belongs : (until : ℕ) (s caught : MachineState) (proc : Proc) (b : BelongsToTurn until s proc) → acting_dues caught ≡ acting_dues s
    → IsLeast (acting_dues s) b.tick (rank_of proc) → BelongsToTurn until caught proc
still_belongs until s caught proc b same least =
    let still = subst (λ (dues : List (Option Tick)). IsLeast dues b.tick (rank_of proc)) (sym same) least in
    record { tick = b.tick; due = sym (acting_processor caught proc) ∙ still.there; below = b.below; goes = inl still }

pub still_due : (s caught : MachineState) (proc : Proc) → acting_dues caught ≡ acting_dues s → processor_due caught proc ≡ processor_due s proc
still_due s caught proc same =
    sym (acting_processor caught proc) ∙ ap (λ (dues : List (Option Tick)). due_at dues (rank_of proc)) same ∙ acting_processor s proc

pub turn_steps_fall : TurnStepsFall
turn_steps_fall until s caught next proc outs sound b catches h = by_test (observes_by (actor_of (rank_of proc)) s) refl catches where
  by_test : (observes : Bool) → observes_by (actor_of (rank_of proc)) s ≡ observes → CatchesUpIf observes (processor_of s proc).due (rank_of proc) s caught
      → own_remaining until next proc < own_remaining until s proc
  by_test false e same = step_falls until s next proc outs sound.parts b (subst (λ (m : MachineState). reference_step (rank_of proc) m ≡ Makes next outs) same h)
  by_test true e up = elim b.goes [
    | inl least ↦ (let k = caught_so (processor_of s proc).due (rank_of proc) s caught sound up.steps in
        subst (λ (o : Option Tick). own_remaining until next proc < ticks_left until o) (still_due s caught proc k.dues)
        (step_falls until caught next proc outs k.sound.parts (still_belongs until s caught proc b k.dues least) h))
    | inr ahead ↦ absurd (true≢false (sym e ∙ rank_unobserved s proc ahead.private))
  ]
