use Rattle.ds_machine.proofs.Words.{AreAsleep, Bool, Cost, Due, IoState, IsIo, IsLeast, IsOver, KeyLine, LeftOut, List, MachineState, MachineStep}
use Rattle.ds_machine.proofs.Words.{Makes, NextEvent, Nine, Option, Proc, Processor, ProcessorState, Seven, Shown, Some, Tick, [], acting_dues}
use Rattle.ds_machine.proofs.Words.{acting_events_of, acting_io_dues, ap, arith, awake, due_at, due_then, due_unless, ended, false, first_from}
use Rattle.ds_machine.proofs.Words.{first_is_least, goes_on, if◌then◌else◌, inl, inr, io_of, is_blocked, is_held, is_settled, keys_due, length}
use Rattle.ds_machine.proofs.Words.{line_is_up, line_of, lt_or_same, machine_concluded, outcome_of, processor_due, processor_of, rank_of, refl}
use Rattle.ds_machine.proofs.Words.{same_Some, settled_stays, shares_bit, sort_rank, step_by, stepped_of, subst, suc, sym, tick_is, tick_of, true}
use Rattle.ds_machine.proofs.Words.{true≢false, wakes, went_on, with_io, with_processor, woken, woken_one, zero, ℕ, ◌&&◌, ◌++◌, ◌<◌, ◌^◌, ◌∙◌, ◌∷◌}
use Rattle.ds_machine.proofs.Words.{◌≡◌, ◌≤◌, ◌⊎◌}
use Rattle.ds_machine.specs.NextEvents.{IsNextEvent, least_kept, least_of, due_at_least}
use Rattle.ds_machine.specs.declared.answers.Done.TheVariants as answers
use Rattle.ds_machine.proofs.ActingDues.{acting_low, acting_processor, acting_split}
use Rattle.ds_machine.proofs.ProcessorSteps.{step_concluded}
use Rattle.ds_machine.proofs.Quiet.{not_halted}
use Rattle.ds_machine.proofs.Wakes.{Beside, put_beside}

-- A processor that is due before every other actor that acts.

-- no event acts before the first
pub events_over : (s : MachineState) (first : Due) → Some first ≡ first_from 0 (acting_events_of s) → IsOver (acting_events_of s) first.tick.0
events_over s first h = λ rank tick due. (let l = (first_is_least (acting_events_of s) first (sym h)).least rank tick due in omega (arith, l))

-- and one is at its tick
pub event_first : (s : MachineState) (first : Due) → Some first ≡ first_from 0 (acting_events_of s) → (rank : ℕ) × (due_at (acting_events_of s) rank ≡ Some first.tick)
event_first s first h = (first.rank, (first_is_least (acting_events_of s) first (sym h)).there)

-- an entry in the former of two lists
pub in_front : (xs ys : List (Option Tick)) (rank : ℕ) → rank < length xs → due_at (xs ++ ys) rank ≡ due_at xs rank
in_front [] ys rank lt = absurd (omega (arith, lt))
in_front (x ∷ xs) ys zero lt = refl
in_front (x ∷ xs) ys (suc rank) lt = in_front xs ys rank (omega (arith, lt))

pub event_there : (s : MachineState) (rank : ℕ) (at : Tick) → rank < rank_of Nine → due_at (acting_dues s) rank ≡ Some at → due_at (acting_events_of s) rank ≡ Some at
event_there s rank at lt h =
    let back = processor_due s Nine ∷ processor_due s Seven ∷ [] in
    sym (in_front (acting_events_of s) back rank lt) ∙ ap (λ (dues : List (Option Tick)). due_at dues rank) (sym (acting_split s)) ∙ h

nine_there : (s : MachineState) (rank : ℕ) (at : Tick) → rank ≡ rank_of Nine → due_at (acting_dues s) rank ≡ Some at → processor_due s Nine ≡ Some at
nine_there s rank at e h = sym (acting_processor s Nine) ∙ subst (λ (r : ℕ). due_at (acting_dues s) r ≡ Some at) e h

seven_there : (s : MachineState) (rank : ℕ) (at : Tick) → rank ≡ rank_of Seven → due_at (acting_dues s) rank ≡ Some at → processor_due s Seven ≡ Some at
seven_there s rank at e h = sym (acting_processor s Seven) ∙ subst (λ (r : ℕ). due_at (acting_dues s) r ≡ Some at) e h

-- ARM9 is the least, where no event acts at its tick or before it, and ARM7 isn't due before it
nine_least : (s : MachineState) (until : ℕ) (tick : Tick) → IsOver (acting_events_of s) until → tick.0 < until → processor_due s Nine ≡ Some tick
    → ((at : Tick) → processor_due s Seven ≡ Some at → tick.0 ≤ at.0) → IsLeast (acting_dues s) tick (rank_of Nine)
nine_least s until tick over lt there after = record { there = acting_processor s Nine ∙ there; least = go } where
  go : (other : ℕ) (at : Tick) → due_at (acting_dues s) other ≡ Some at → (tick.0 < at.0) ⊎ ((tick.0 ≡ at.0) × (rank_of Nine ≤ other))
  go other at h = elim (sort_rank other (acting_low s other at h)) [
    | inl event ↦ inl (let k = over other at (event_there s other at event h) in omega (arith, k, lt))
    | inr rest ↦ elim rest [
      | inl e ↦ inr (ap (λ (x : Tick). x.0) (same_Some tick at (sym there ∙ nine_there s other at e h)), omega (arith, e))
      | inr e ↦ elim (lt_or_same tick.0 at.0 (after at (seven_there s other at e h))) [ inl a ↦ inl a | inr b ↦ inr (b, omega (arith, e)) ]
    ]
  ]

-- and ARM7, where ARM9 is due after it
seven_least : (s : MachineState) (until : ℕ) (tick : Tick) → IsOver (acting_events_of s) until → tick.0 < until → processor_due s Seven ≡ Some tick
    → ((at : Tick) → processor_due s Nine ≡ Some at → tick.0 < at.0) → IsLeast (acting_dues s) tick (rank_of Seven)
seven_least s until tick over lt there after = record { there = acting_processor s Seven ∙ there; least = go } where
  go : (other : ℕ) (at : Tick) → due_at (acting_dues s) other ≡ Some at → (tick.0 < at.0) ⊎ ((tick.0 ≡ at.0) × (rank_of Seven ≤ other))
  go other at h = elim (sort_rank other (acting_low s other at h)) [
    | inl event ↦ inl (let k = over other at (event_there s other at event h) in omega (arith, k, lt))
    | inr rest ↦ elim rest [
      | inl e ↦ inl (after at (nine_there s other at e h))
      | inr e ↦ inr (ap (λ (x : Tick). x.0) (same_Some tick at (sym there ∙ seven_there s other at e h)), omega (arith, e))
    ]
  ]

-- ---- by what is kept

-- a processor that waits for an early tick isn't blocked, and is due then
pub wait_ends : (blocked : Bool) (least due : ℕ) → least ≡ least_of blocked → due_at_least least due < 2 ^ 56 → (blocked ≡ false) × (due_at_least least due ≡ due)
wait_ends true least due e lt = absurd (omega (arith, e, lt))
wait_ends false least due e lt = (refl, omega (arith, e))

-- a processor that is due waits for its tick
pub wait_is : (blocked : Bool) (least : ℕ) (p : ProcessorState) (at : Tick) → least ≡ least_of blocked → due_unless blocked p ≡ Some at → due_at_least least p.due ≡ at.0
wait_is blocked least p at e h =
    let k = due_then blocked p at h in
    let none : least ≡ 0 = e ∙ ap least_of k.0 in
    let there = k.1 in
    omega (arith, none, there)

pub due_there : (blocked : Bool) (least : ℕ) (p : ProcessorState) (n : ℕ) → least ≡ least_of blocked → n ≡ due_at_least least p.due → n < 2 ^ 56 → due_unless blocked p ≡ Some (record { 0 = n })
due_there blocked least p n e w lt =
    let k = wait_ends blocked least p.due e (omega (arith, w, lt)) in
    let t = tick_is p (record { 0 = n }) (sym (w ∙ k.1)) in
    rw k.0 (ap Some t)

abbrev pub ComesBefore : Proc → ℕ → ℕ → Type 0
ComesBefore Nine n other = n ≤ other
ComesBefore Seven n other = n < other

pub kept_is : (next_event : NextEvent) (s : MachineState) → IsNextEvent next_event s → (proc : Proc) → least_kept next_event proc ≡ least_of (is_blocked s proc)
kept_is next_event s is Nine = is.nine_least
kept_is next_event s is Seven = is.seven_least

-- ---- what is kept stays so, while the units behind the ports and the script stay

pub kept_stays : (next_event : NextEvent) (s next : MachineState) → IsNextEvent next_event s → Beside s next → IsNextEvent next_event next
kept_stays next_event s next is b = record {
  events = subst (λ (u : IoState). IsOver (keys_due next.keys ∷ acting_io_dues u) next_event.events_until.0) (sym b.io)
      (subst (λ (lines : List KeyLine). IsOver (keys_due lines ∷ acting_io_dues s.io) next_event.events_until.0) (sym b.keys) is.events);
  first = λ some.
      (let k = is.first some in (
        k.0,
        subst (λ (u : IoState). due_at (keys_due next.keys ∷ acting_io_dues u) k.0 ≡ Some next_event.events_until) (sym b.io)
            (subst (λ (lines : List KeyLine). due_at (keys_due lines ∷ acting_io_dues s.io) k.0 ≡ Some next_event.events_until) (sym b.keys) k.1),
      ));
  asleep = λ some proc. wakes_so proc (is.asleep some proc);
  settled = λ some. ap is_settled b.io ∙ is.settled some;
  nine_least = is.nine_least ∙ ap least_of (blocked Nine);
  seven_least = is.seven_least ∙ ap least_of (blocked Seven);
  nine_line = is.nine_line ∙ line Nine;
  seven_line = is.seven_line ∙ line Seven;
} where
  blocked : (proc : Proc) → is_blocked s proc ≡ is_blocked next proc
  blocked proc = ap (λ (u : IoState). is_held u proc) (sym b.io)

  line : (proc : Proc) → line_of s proc ≡ line_of next proc
  line proc = ap (λ (u : IoState). line_is_up (io_of u proc).irq) (sym b.io)

  wakes_so : (proc : Proc) → wakes s proc ≡ false → wakes next proc ≡ false
  wakes_so proc h = ap (λ (u : IoState). (io_of u proc).halted && shares_bit (io_of u proc).irq) b.io ∙ h

-- ---- a step at once that costs and no more: nothing settles, and nobody wakes at it

pub asleep_stays : (tick : Tick) (s : MachineState) → AreAsleep s → woken tick s ≡ s
asleep_stays tick s asleep = ap (λ (m : MachineState). woken_one Seven tick m) (one Nine (wakes s Nine) (asleep Nine)) ∙ one Seven (wakes s Seven) (asleep Seven) where
  one : (proc : Proc) (b : Bool) → b ≡ false → (if b then goes_on proc tick s else s) ≡ s
  one proc true e = absurd (true≢false e)
  one proc false e = refl

-- so such a step ends where it is
pub end_stays : (tick : Tick) (s : MachineState) → IsIo s.io → is_settled s.io ≡ true → AreAsleep s → ended tick s ≡ s
unfolding ended
end_stays tick s is settled asleep =
    ap (λ (u : IoState). woken tick (with_io s u)) (settled_stays tick s.io is settled) ∙ asleep_stays tick s asleep

-- so ends a step that costs
pub cost_ends : (s : MachineState) (rank : ℕ) (proc : Proc) (tick : Tick) (clocks : ℕ) → IsIo s.io → is_settled s.io ≡ true → AreAsleep s → is_blocked s proc ≡ false
    → awake (Some tick) (machine_concluded rank proc s (Cost clocks)) ≡ Makes (with_processor proc s (went_on clocks false (processor_of s proc))) []
cost_ends s rank proc tick clocks sound settled asleep blocked =
    let p = went_on clocks false (processor_of s proc) in
    let next = with_processor proc s p in
    let io = (put_beside proc s p).io in
    let came : Bool → MachineStep MachineState Shown LeftOut = λ b. awake (Some tick) (Makes (with_processor proc s (went_on clocks b (processor_of s proc))) []) in
    ap came (not_halted s proc blocked)
    ∙ ap (λ (m : MachineState). (let step : MachineStep MachineState Shown LeftOut = Makes m [] in step)) (end_stays tick next (subst IsIo (sym io) sound) (ap is_settled io ∙ settled)
    (λ who. ap (λ (u : IoState). (io_of u who).halted && shares_bit (io_of u who).irq) io ∙ asleep who))

pub cost_fast : (s : MachineState) (rank : ℕ) (proc : Proc) (tick : Tick) (clocks : ℕ) → IsIo s.io → is_settled s.io ≡ true → AreAsleep s → is_blocked s proc ≡ false
    → awake (Some tick) (machine_concluded rank proc s (Cost clocks)) ≡ stepped_of s answers.Made (with_processor proc s (went_on clocks false (processor_of s proc)))
cost_fast s rank proc tick clocks sound settled asleep blocked = cost_ends s rank proc tick clocks sound settled asleep blocked

-- the accesses before it leave the units
pub reach_beside : (s next : MachineState) (proc : Proc) (now : Tick) → next ≡ (outcome_of proc now s).machine → next.io ≡ s.io → Beside s next
reach_beside s next proc now e io = record { io = io; keys = ap (λ (m : MachineState). m.keys) e ∙ same_keys proc } where
  same_keys : (proc : Proc) → (outcome_of proc now s).machine.keys ≡ s.keys
  same_keys Nine = refl
  same_keys Seven = refl

-- who is asleep before them is so after them
pub asleep_by : (s next : MachineState) → next.io ≡ s.io → AreAsleep s → AreAsleep next
asleep_by s next io asleep = λ proc. ap (λ (u : IoState). (io_of u proc).halted && shares_bit (io_of u proc).irq) io ∙ asleep proc

-- what isn't blocked before them isn't blocked after them
pub free_stays : (proc : Proc) (s next : MachineState) → next.io ≡ s.io → is_blocked s proc ≡ false → is_blocked next proc ≡ false
free_stays proc s next io free = ap (λ (u : IoState). is_held u proc) io ∙ free

-- the whole of it
pub made_fast : (s m next : MachineState) (rank : ℕ) (proc : Proc) (tick : Tick) (clocks : ℕ) → IsIo m.io → is_settled m.io ≡ true → AreAsleep m → is_blocked m proc ≡ false
    → tick ≡ tick_of (processor_of s proc) → m ≡ (outcome_of proc tick s).machine → Cost clocks ≡ (outcome_of proc tick s).stepped
    → next ≡ with_processor proc m (went_on clocks false (processor_of m proc))
    → awake (Some tick) (step_by rank (Processor proc) s) ≡ stepped_of s answers.Made next
made_fast s m next rank proc tick clocks sound settled asleep blocked at machine stepped e =
    step_concluded rank proc tick s m next (Cost clocks) answers.Made at machine stepped
    (cost_fast m rank proc tick clocks sound settled asleep blocked ∙ ap (λ (x : MachineState). stepped_of m answers.Made x) (sym e))
