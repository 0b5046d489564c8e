use Rattle.ds_machine.proofs.Words.{BelongsToTurn, CatchesUpFor, Ending, IsLeast, IsRunning, IsSound, LeftOut, List, MachineState, Makes, MayAct}
use Rattle.ds_machine.proofs.Words.{Option, Proc, Runs, Shown, Some, Stops, TakesSteps, Tick, [], acting_dues, ap, arith, counts_of, inl, inr}
use Rattle.ds_machine.proofs.Words.{last_frame, last_lists, more_steps, no_steps, own_tick, processor_of, rank_of, reference, reference_step, refl}
use Rattle.ds_machine.proofs.Words.{subst, tick_of, ℕ, ◌<◌, ◌↔◌, ◌∙◌, ◌≡◌, ◌≤◌}
use Rattle.ds_machine.proofs.ActingDues.{acting_processor}
use Rattle.ds_machine.proofs.ActingSteps.{Acted, ActedStops, acted_keeps, acting_runs}
use Rattle.ds_machine.proofs.Running.{running_acted}

-- What the steps of a processor's turn leave: a machine that goes on, and from which the reference run goes on.

-- a step of a turn is one that may be taken
pub belongs_acts : (until : ℕ) (s : MachineState) (proc : Proc) → BelongsToTurn until s proc → MayAct s (tick_of (processor_of s proc)) (rank_of proc)
belongs_acts until s proc b =
    let at = own_tick s proc b.tick b.due in
    record {
      due = acting_processor s proc ∙ b.due ∙ ap (λ (t : Tick). (let due : Option Tick = Some t in due)) at;
      may = elim b.goes [
        | inl least ↦ inl (subst (λ (t : Tick). IsLeast (acting_dues s) t (rank_of proc)) at least)
        | inr ahead ↦ inr (proc, refl, ahead)
      ];
    }

pub belongs_below : (until : ℕ) (s : MachineState) (proc : Proc) → BelongsToTurn until s proc → (processor_of s proc).due < until
belongs_below until s proc b =
    let at = ap (λ (t : Tick). t.0) (own_tick s proc b.tick b.due) in
    let below = b.below in
    omega (arith, at, below)

pub belongs_acted : (until : ℕ) (s caught next : MachineState) (proc : Proc) (outs : List Shown) → BelongsToTurn until s proc
    → CatchesUpFor (processor_of s proc).due (rank_of proc) s caught → reference_step (rank_of proc) caught ≡ Makes next outs
    → Acted s next (tick_of (processor_of s proc)) (rank_of proc) outs
belongs_acted until s caught next proc outs b catches h = record { caught = caught; may = belongs_acts until s proc b; catches = catches; makes = h }

pub belongs_stops : (until : ℕ) (s caught left : MachineState) (proc : Proc) (stop : LeftOut) → BelongsToTurn until s proc
    → CatchesUpFor (processor_of s proc).due (rank_of proc) s caught → reference_step (rank_of proc) caught ≡ Stops stop left
    → ActedStops s left (tick_of (processor_of s proc)) (rank_of proc) stop
belongs_stops until s caught left proc stop b catches h = record { caught = caught; may = belongs_acts until s proc b; catches = catches; stops = h }

-- ---- the machine goes on

pub running_along : (until limit : ℕ) (proc : Proc) (s next : MachineState) → until ≤ limit → TakesSteps until proc s next → IsRunning limit s → IsRunning limit next
running_along until limit proc s next le (no_steps start) running = running
running_along until limit proc s next le (more_steps start before caught last earlier b catches h) running =
    let below = belongs_below until before proc b in
    running_acted limit before last (tick_of (processor_of before proc)) (rank_of proc) [] (belongs_acted until before caught last proc [] b catches h) (omega (arith, below, le))
    (running_along until limit proc start before le earlier running)

-- ---- frames and lists stay, and no step is taken back

pub record KeptAlong (s next : MachineState) : Type 0 where
  pub sound : IsSound next
  pub frame : last_frame next ≡ last_frame s
  pub lists : last_lists next ≡ last_lists s
  pub more : counts_of s ≤ counts_of next

pub takes_along : (until : ℕ) (proc : Proc) (s next : MachineState) → IsSound s → TakesSteps until proc s next → KeptAlong s next
takes_along until proc s next sound (no_steps start) = record { sound = sound; frame = refl; lists = refl; more = omega arith }
takes_along until proc s next sound (more_steps start before caught last earlier b catches h) =
    let first = takes_along until proc start before sound earlier in
    let then = acted_keeps before last (tick_of (processor_of before proc)) (rank_of proc) [] first.sound (belongs_acted until before caught last proc [] b catches h) in
    let one = first.more in
    let two = then.more in
    record { sound = then.sound; frame = then.frames ∙ first.frame; lists = then.lists ∙ first.lists; more = omega (arith, one, two) }

-- ---- the reference run goes on

pub takes_run : (until : ℕ) (proc : Proc) (s next : MachineState) → IsSound s → TakesSteps until proc s next → (limit : ℕ) → until ≤ limit
    → (end : Ending MachineState LeftOut) (outs : List Shown) → Runs reference limit end s outs ↔ Runs reference limit end next outs
takes_run until proc s next sound (no_steps start) limit room end outs = (λ run. run, λ run. run)
takes_run until proc s next sound (more_steps start before caught last earlier b catches h) limit room end outs =
    let below = belongs_below until before proc b in
    let first = takes_run until proc start before sound earlier limit room end outs in
    let then =
    acting_runs before caught last (tick_of (processor_of before proc)) (rank_of proc) limit [] (takes_along until proc start before sound earlier).sound
    (belongs_acts until before proc b) catches (omega (arith, below, room)) h end outs in
    (λ run. then.0 (first.0 run), λ run. first.1 (then.1 run))
