use Rattle.ds_machine.proofs.Words.{AreKeyLines, Bool, Cost, CostsSome, Goes, Halted, HasOnlyLaterEvents, HasSoundParts, IsIo, IsLater, IsProcessorIo}
use Rattle.ds_machine.proofs.Words.{Left, LeftOut, List, MachineState, MachineStep, Makes, Nine, Proc, Processor, ProcessorState, Reschedules}
use Rattle.ds_machine.proofs.Words.{ReschedulesEach, Seven, Shown, Some, Stops, Tick, [], all_io_dues, ap, arith, awake, counts_of, due_then}
use Rattle.ds_machine.proofs.Words.{due_unless, ended, false, goes_io, gone_by, inl, inr, io_of, is_blocked, is_halted, machine_concluded, not_both}
use Rattle.ds_machine.proofs.Words.{of_both, other_proc, outcome_of, processor_due, processor_io_is, processor_of, refl, same_makes, same_stops}
use Rattle.ds_machine.proofs.Words.{scan_due, shown_at, step_by, stepped_of, subst, sym, tick_is, tick_of, true, true≢false, went_on, with_halt, ℕ}
use Rattle.ds_machine.proofs.Words.{◌+◌, ◌<◌, ◌^◌, ◌∙◌, ◌∷◌, ◌≡◌, ◌≤◌}
use Rattle.arm_core.specs.declared.outcomes.Stepped as arm
use Rattle.ds_machine.specs.declared.answers.Done as answer
use Rattle.ds_machine.specs.declared.answers.Done.TheVariants as answers
use Rattle.ds_machine.proofs.Costs.{step_costs}
use Rattle.ds_machine.proofs.Moves.{Moves, blocked_moves, moves_of, other_held, same_keys, then_io_dues}
use Rattle.ds_machine.proofs.Others.{step_goes}
use Rattle.ds_machine.proofs.Rooms.{reached_within}
use Rattle.ds_machine.proofs.Wakes.{halt_blocked, halt_other, halt_steps, halted_blocks, halted_io_dues, halted_io, put_beside, put_counts, put_other, put_processor_io}

-- A processor's step: what its accesses leave, and how it goes on.

-- ---- its accesses

-- the machine after the accesses of a processor's step, and with its registers
pub record Reaches (proc : Proc) (s m : MachineState) : Type 0 where
  pub due : (processor_of m proc).due ≡ (processor_of s proc).due
  pub other : processor_of m (other_proc proc) ≡ processor_of s (other_proc proc)
  pub keys : m.keys ≡ s.keys
  pub counts : counts_of m ≡ counts_of s

-- what a processor's step at its tick came to, with what it left
abbrev pub reached_by : Proc → MachineState → MachineState
reached_by proc s = (outcome_of proc (tick_of (processor_of s proc)) s).machine

abbrev pub came_by : Proc → MachineState → arm.Stepped
came_by proc s = (outcome_of proc (tick_of (processor_of s proc)) s).stepped

pub step_is : (rank : ℕ) (proc : Proc) (s : MachineState) → step_by rank (Processor proc) s ≡ machine_concluded rank proc (reached_by proc s) (came_by proc s)
step_is rank proc s = refl

left_reaches : (proc : Proc) (now : Tick) (s : MachineState) → Reaches proc s (outcome_of proc now s).machine
left_reaches Nine now s = record { due = refl; other = refl; keys = refl; counts = refl }
left_reaches Seven now s = record { due = refl; other = refl; keys = refl; counts = refl }

pub reaches : (proc : Proc) (s : MachineState) → Reaches proc s (reached_by proc s)
reaches proc s = left_reaches proc (tick_of (processor_of s proc)) s

pub costs_some : (proc : Proc) (s : MachineState) → CostsSome (came_by proc s)
costs_some proc s = step_costs proc (tick_of (processor_of s proc)) s

-- a processor is due as before, and its steps are as before
pub reached_early : (proc : Proc) (tick : Tick) (s m : MachineState) → m ≡ (outcome_of proc tick s).machine → tick ≡ tick_of (processor_of s proc) → tick.0 ≤ 2 ^ 56
    → (processor_of m proc).due ≤ 2 ^ 56
reached_early proc tick s m machine at early =
    let e = (left_reaches proc tick s).due in
    let t : tick.0 ≡ (processor_of s proc).due = ap (λ (x : Tick). x.0) at in
    let due : (processor_of (outcome_of proc tick s).machine proc).due ≤ 2 ^ 56 = omega (arith, e, t, early) in
    subst (λ (x : MachineState). (processor_of x proc).due ≤ 2 ^ 56) (sym machine) due

pub reached_few : (proc : Proc) (tick : Tick) (s m : MachineState) → m ≡ (outcome_of proc tick s).machine → (processor_of s proc).steps ≤ 2 ^ 61
    → (processor_of m proc).steps ≤ 2 ^ 61
reached_few proc tick s m machine few = subst (λ (x : MachineState). (processor_of x proc).steps ≤ 2 ^ 61) (sym machine) (by_proc proc few) where
  by_proc : (proc : Proc) → (processor_of s proc).steps ≤ 2 ^ 61 → (processor_of (outcome_of proc tick s).machine proc).steps ≤ 2 ^ 61
  by_proc Nine few = few
  by_proc Seven few = few

-- the step is what it came to, concluded; it shows no frame
pub none_shown : (shown : Shown) → (let none : List Shown = [] in none) ≡ shown ∷ [] → ⊥
none_shown shown e = true≢false (ap is_none e) where
  is_none : List Shown → Bool
  is_none [] = true
  is_none (one ∷ more) = false

same_shown : (rank : ℕ) (proc : Proc) (tick : Tick) (m s next : MachineState) (came : arm.Stepped) (done : answer.Done)
    → awake (Some tick) (machine_concluded rank proc m came) ≡ stepped_of m done next → awake (Some tick) (machine_concluded rank proc m came) ≡ stepped_of s done next
same_shown rank proc tick m s next came answers.Made h = h
same_shown rank proc tick m s next (Cost clocks) (answers.Frame swapped) h =
    absurd (none_shown (shown_at (scan_due m.io.video.scan) next swapped) (same_makes (ended tick (gone_by proc (Cost clocks) m)) next [] (shown_at (scan_due m.io.video.scan) next swapped ∷ []) h).1)
same_shown rank proc tick m s next (Halted clocks) (answers.Frame swapped) h =
    absurd (none_shown (shown_at (scan_due m.io.video.scan) next swapped) (same_makes (ended tick (gone_by proc (Halted clocks) m)) next [] (shown_at (scan_due m.io.video.scan) next swapped ∷ []) h).1)
same_shown rank proc tick m s next (Left stop) (answers.Frame swapped) h = absurd (not_both next m (shown_at (scan_due m.io.video.scan) next swapped ∷ []) _ (sym h))
same_shown rank proc tick m s next came (answers.Stopped left) h = h

pub step_concluded : (rank : ℕ) (proc : Proc) (tick : Tick) (s m next : MachineState) (came : arm.Stepped) (done : answer.Done) → tick ≡ tick_of (processor_of s proc)
    → m ≡ (outcome_of proc tick s).machine → came ≡ (outcome_of proc tick s).stepped → awake (Some tick) (machine_concluded rank proc m came) ≡ stepped_of m done next
    → awake (Some tick) (step_by rank (Processor proc) s) ≡ stepped_of s done next
step_concluded rank proc tick s m next came done at machine stepped h =
    let step : MachineState → arm.Stepped → MachineStep MachineState Shown LeftOut = λ x by. awake (Some tick) (machine_concluded rank proc x by) in
    ap (λ (t : Tick). step (outcome_of proc t s).machine (outcome_of proc t s).stepped) (sym at)
    ∙ ap (λ (x : MachineState). step x (outcome_of proc tick s).stepped) (sym machine)
    ∙ ap (step m) (sym stepped)
    ∙ same_shown rank proc tick m s next came done h

reach_goes : (proc : Proc) (tick : Tick) (s : MachineState) → tick_of (processor_of s proc) ≡ tick → IsProcessorIo (io_of s.io proc) → HasOnlyLaterEvents tick (io_of s.io proc)
    → Goes proc tick s.io (reached_by proc s).io
reach_goes proc tick s e is quiet =
    subst (λ (t : Tick). Goes proc t s.io (reached_by proc s).io) e
    (step_goes proc (tick_of (processor_of s proc)) s is (subst (λ (t : Tick). HasOnlyLaterEvents t (io_of s.io proc)) (sym e) quiet))

-- ---- how it goes on

-- a step was taken, and cost something where it didn't halt
abbrev pub Took : arm.Stepped → Type 0
Took (Cost clocks) = 0 < clocks
Took (Halted clocks) = Unit {0}
Took (Left stop) = ⊥

-- one more step is counted
pub gone_counts : (proc : Proc) (m : MachineState) (came : arm.Stepped) → Took came → counts_of (gone_by proc came m) ≡ counts_of m + 1
gone_counts proc m (Cost clocks) took = let k = put_counts proc m (went_on clocks (is_halted m proc) (processor_of m proc)) in omega (arith, k)
gone_counts proc m (Halted clocks) took =
    let halt = with_halt proc m true in
    let k = put_counts proc halt (went_on clocks true (processor_of m proc)) in
    let e = halt_steps proc m true in
    omega (arith, k, e)
gone_counts proc m (Left stop) took = absurd took

-- a processor that went on is due later, or not at all
went_later : (p : ProcessorState) (tick : Tick) (clocks : ℕ) (halted blocked : Bool) → (halted ≡ true → blocked ≡ true) → p.due ≡ tick.0 → 0 < clocks
    → IsLater tick (due_unless blocked (went_on clocks halted p))
went_later p tick clocks halted true h e some = tt
went_later p tick clocks true false h e some = absurd (true≢false (sym (h refl)))
went_later p tick clocks false false h e some = omega (arith, e, some)

gone_later : (proc : Proc) (m : MachineState) (tick : Tick) (came : arm.Stepped) → (processor_of m proc).due ≡ tick.0 → Took came
    → IsLater tick (processor_due (gone_by proc came m) proc)
gone_later proc m tick (Cost clocks) e took =
    subst (IsLater tick) (sym (put_processor_io proc m (went_on clocks (is_halted m proc) (processor_of m proc))))
    (went_later (processor_of m proc) tick clocks (is_halted m proc) (is_blocked m proc) (halted_blocks m proc) e took)
gone_later proc m tick (Halted clocks) e took =
    let p = went_on clocks true (processor_of m proc) in
    let halt = with_halt proc m true in
    subst (IsLater tick) (sym (put_processor_io proc halt p ∙ ap (λ (blocked : Bool). due_unless blocked p) (halt_blocked proc m))) tt
gone_later proc m tick (Left stop) e took = absurd took

gone_other : (proc : Proc) (m : MachineState) (came : arm.Stepped) → Took came → processor_due (gone_by proc came m) (other_proc proc) ≡ processor_due m (other_proc proc)
gone_other proc m (Cost clocks) took = put_other proc m (went_on clocks (is_halted m proc) (processor_of m proc))
gone_other proc m (Halted clocks) took = put_other proc (with_halt proc m true) (went_on clocks true (processor_of m proc)) ∙ halt_other proc m true
gone_other proc m (Left stop) took = absurd took

-- the units behind the ports, and the key script
record Stays (tick : Tick) (m n : MachineState) : Type 0 where
  dues : ReschedulesEach tick m.io n.io
  io : IsIo m.io → IsIo n.io
  keys : n.keys ≡ m.keys

gone_stays : (proc : Proc) (m : MachineState) (tick : Tick) (came : arm.Stepped) → Took came → Stays tick m (gone_by proc came m)
gone_stays proc m tick (Cost clocks) took =
    let b = put_beside proc m (went_on clocks (is_halted m proc) (processor_of m proc)) in
    record {
      dues = subst (ReschedulesEach tick m.io) (sym b.io) (λ who n. inl refl);
      io = λ are. subst IsIo (sym b.io) are;
      keys = b.keys;
    }
gone_stays proc m tick (Halted clocks) took =
    let b = put_beside proc (with_halt proc m true) (went_on clocks true (processor_of m proc)) in
    record {
      dues = subst (ReschedulesEach tick m.io) (sym b.io) (halted_io_dues tick proc m.io true);
      io = λ are. subst IsIo (sym b.io) (halted_io proc m.io true are);
      keys = b.keys;
    }
gone_stays proc m tick (Left stop) took = absurd took

-- ---- the whole step

-- where it makes its accesses
pub record Operation (proc : Proc) (tick : Tick) (s : MachineState) : Type 0 where
  pub sound : HasSoundParts s
  pub quiet : HasOnlyLaterEvents tick (io_of s.io proc)
  pub due : processor_due s proc ≡ Some tick

module _ (proc : Proc) (tick : Tick) (s : MachineState) (r : Operation proc tick s) where
  is_due : (processor_of s proc).due ≡ tick.0
  is_due = (due_then (is_blocked s proc) (processor_of s proc) tick r.due).1

  not_blocked : is_blocked s proc ≡ false
  not_blocked = (due_then (is_blocked s proc) (processor_of s proc) tick r.due).0

  pub goes : Goes proc tick s.io (reached_by proc s).io
  goes = reach_goes proc tick s (tick_is (processor_of s proc) tick is_due) (processor_io_is s.io r.sound.io proc) r.quiet

  -- the other processor is due as before
  other_same : processor_due (reached_by proc s) (other_proc proc) ≡ processor_due s (other_proc proc)
  other_same =
      let m = reached_by proc s in
      ap (λ (blocked : Bool). due_unless blocked (processor_of m (other_proc proc))) (other_held proc tick s.io m.io goes)
      ∙ ap (λ (p : ProcessorState). due_unless (is_blocked s (other_proc proc)) p) (reaches proc s).other

  -- what a step leaves that is taken
  pub gone_moves : (came : arm.Stepped) → Took came → Moves tick s (gone_by proc came (reached_by proc s))
  gone_moves came took =
      let m = reached_by proc s in
      let n = gone_by proc came m in
      let st = gone_stays proc m tick came took in
      let re = reaches proc s in
      moves_of tick s n (same_keys tick s.keys n.keys (st.keys ∙ re.keys))
      (then_io_dues tick s.io m.io n.io (all_io_dues proc tick s.io m.io goes) st.dues)
      (of_both (λ each. Reschedules tick (processor_due s each) (processor_due n each)) proc (inr (gone_later proc m tick came (re.due ∙ is_due) took))
      (inl (gone_other proc m came took ∙ other_same)))

  pub processor_io_later : (came : arm.Stepped) → Took came → IsLater tick (processor_due (gone_by proc came (reached_by proc s)) proc)
  processor_io_later came took = gone_later proc (reached_by proc s) tick came ((reaches proc s).due ∙ is_due) took

  pub reached_sound : HasSoundParts (reached_by proc s)
  reached_sound = record {
    io = goes_io proc tick s.io (reached_by proc s).io (reached_within proc s r.sound.io.gx not_blocked) r.sound.io goes;
    keys = subst AreKeyLines (sym (reaches proc s).keys) r.sound.keys;
  }

  pub gone_sound : (came : arm.Stepped) → Took came → HasSoundParts (gone_by proc came (reached_by proc s))
  gone_sound came took =
      let st = gone_stays proc (reached_by proc s) tick came took in
      record { io = st.io reached_sound.io; keys = subst AreKeyLines (sym st.keys) reached_sound.keys }

  -- what a step leaves that stops: its accesses before the refused one
  pub reached_moves : Moves tick s (reached_by proc s)
  reached_moves =
      let m = reached_by proc s in
      let re = reaches proc s in
      moves_of tick s m (same_keys tick s.keys m.keys re.keys) (all_io_dues proc tick s.io m.io goes)
      (of_both (λ each. Reschedules tick (processor_due s each) (processor_due m each)) proc
      (blocked_moves tick (is_blocked s proc) (is_blocked m proc) (processor_of s proc) (processor_of m proc) re.due (λ h. absurd (true≢false (sym h ∙ not_blocked))))
      (inl other_same))

-- what a step comes to
pub concludes : (rank : ℕ) (proc : Proc) (m next : MachineState) (outs : List Shown) (came : arm.Stepped) → CostsSome came
    → machine_concluded rank proc m came ≡ Makes next outs → Took came × (gone_by proc came m ≡ next)
concludes rank proc m next outs (Cost clocks) some h = (some, (same_makes (gone_by proc (Cost clocks) m) next [] outs h).0)
concludes rank proc m next outs (Halted clocks) some h = (tt, (same_makes (gone_by proc (Halted clocks) m) next [] outs h).0)
concludes rank proc m next outs (Left stop) some h = absurd (not_both next m outs _ (sym h))

pub concluded_stops : (rank : ℕ) (proc : Proc) (m left : MachineState) (stop : LeftOut) (came : arm.Stepped) → (let step : MachineStep MachineState Shown LeftOut = machine_concluded rank proc m came in step ≡ Stops stop left)
    → m ≡ left
concluded_stops rank proc m left stop (Cost clocks) h = absurd (not_both (gone_by proc (Cost clocks) m) left [] stop h)
concluded_stops rank proc m left stop (Halted clocks) h = absurd (not_both (gone_by proc (Halted clocks) m) left [] stop h)
concluded_stops rank proc m left stop (Left why) h = (same_stops m left _ stop h).1
