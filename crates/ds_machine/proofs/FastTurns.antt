use Rattle.ds_machine.proofs.Words.{BelongsToTurn, Bool, Cost, DataStaysNear, GoesFast, IoState, IsAhead, IsIo, IsLeast, MachineState, Option, Proc}
use Rattle.ds_machine.proofs.Words.{Some, TakesSteps, Tick, TookStep, WentOn, acting_dues, ap, arith, due_unless, false, inl, inr, io_of, is_blocked}
use Rattle.ds_machine.proofs.Words.{is_settled, line_is_up, more_steps, no_steps, outcome_of, own_remaining, own_tick, processor_due, processor_of}
use Rattle.ds_machine.proofs.Words.{rank_of, refl, same_Some, subst, sym, tick_of, ticks_left, went_on, with_processor, ℕ, ◌-◌, ◌<◌, ◌^◌, ◌∙◌, ◌≡◌}
use Rattle.ds_machine.proofs.Words.{◌≤◌, ◌⊎◌}
use Rattle.ds_machine.proofs.EndTicks.{LeavesOthers, end_stays, limit_stays}
use Rattle.ds_machine.proofs.FastSteps.{asleep_by, free_stays, made_fast, reach_beside}
use Rattle.ds_machine.proofs.GoingSteps.{IsDueAt, least_there, needs_none, other_stays, took_when}
use Rattle.ds_machine.proofs.NearUnobserved.{near_unobserved}
use Rattle.ds_machine.proofs.Wakes.{put_beside}

-- One step of the fast path and a loop over them, by what they go by.

took_leaves : (until : ℕ) (s next : MachineState) (proc : Proc) → TookStep until proc s next → LeavesOthers proc s next
took_leaves until s next proc took = record { beside = record { io = took.io; keys = took.keys }; other = took.other }

module _ (s : MachineState) (proc : Proc) (until end limit : ℕ) (up : Bool) (n : ℕ) (goes : GoesFast until proc end limit up s)
    (due : n ≡ (processor_of s proc).due) (early : until ≤ 2 ^ 56) where
  pub is_due : IsDueAt s proc n
  is_due =
      let own : processor_due s proc ≡ Some (tick_of (processor_of s proc)) = ap (λ (b : Bool). due_unless b (processor_of s proc)) goes.least.free in
      let there : processor_due s proc ≡ Some (record { 0 = n }) = own ∙ ap (λ (m : ℕ). (let t : Option Tick = Some (record { 0 = m }) in t)) (sym due) in
      record { free = goes.least.free; there = there; own = own_tick s proc (record { 0 = n }) there }

  -- before that tick it is the least acting one, and due below the limit of the turn
  pub below_turn : n < limit → n < until
  below_turn lt = ((goes.least.first n).0 lt).0

  pub least_now : n < limit → IsLeast (acting_dues s) (record { 0 = n }) (rank_of proc)
  least_now lt =
      subst (λ (t : Tick). IsLeast (acting_dues s) t (rank_of proc)) (sym is_due.own)
      (least_there until limit s proc goes.least (subst (λ (m : ℕ). m < limit) due lt))

  -- a step of its turn is due then
  same_due : (b : BelongsToTurn until s proc) → b.tick ≡ record { 0 = n }
  same_due b = same_Some b.tick (record { 0 = n }) (sym b.due ∙ is_due.there)

  below_then : BelongsToTurn until s proc → n < until
  below_then b = subst (λ (t : Tick). t.0 < until) (same_due b) b.below

  -- from it on no step belongs to the turn but one that may be taken before its turn
  pub over_past : limit ≤ n → (n < until → IsAhead s proc → ⊥) → BelongsToTurn until s proc → ⊥
  over_past le behind b = elim b.goes [
    | inl least ↦
        (let l = subst (λ (t : Tick). IsLeast (acting_dues s) t (rank_of proc)) (same_due b) least in
        let lt = (goes.least.first n).1 (below_then b, λ other at ne h. l.least other at h) in
        absurd (omega (arith, le, lt)))
    | inr ahead ↦ behind (below_then b) ahead
  ]

  pub over_at_end : until ≤ n → BelongsToTurn until s proc → ⊥
  over_at_end le b = let lt = below_then b in absurd (omega (arith, le, lt))

  goes_after : (next : MachineState) → TookStep until proc s next → GoesFast until proc end limit up next
  goes_after next took =
      let leaves = took_leaves until s next proc took in
      record {
        line = ap (λ (u : IoState). line_is_up (io_of u proc).irq) took.io ∙ goes.line;
        events = λ some. end_stays until end s next leaves.beside (goes.events some);
        least = limit_stays until limit s next proc leaves goes.least;
        running = took.running;
      }

  -- a step that costs and reaches what is near
  pub went_fast : (m next : MachineState) (clocks : ℕ) → n < until → IsLeast (acting_dues s) (record { 0 = n }) (rank_of proc) ⊎ IsAhead s proc
      → m ≡ (outcome_of proc (record { 0 = n }) s).machine → (outcome_of proc (record { 0 = n }) s).stepped ≡ Cost clocks → m.io ≡ s.io
      → next ≡ with_processor proc m (went_on clocks false (processor_of m proc)) → DataStaysNear (record { 0 = n }) s proc
      → TookStep until proc s next × GoesFast until proc end limit up next
  went_fast m next clocks lt goes_now machine stepped io e near =
      let tick : Tick = record { 0 = n } in
      let d = is_due in
      let sound = goes.running.sound in
      let made = made_fast s m next (rank_of proc) proc tick clocks (subst IsIo (sym io) sound.parts.io) (ap is_settled io ∙ sound.settled) (asleep_by s m io sound.asleep)
      (free_stays proc s m io d.free) d.own machine (sym stepped) e in
      let put = put_beside proc m (went_on clocks false (processor_of m proc)) in
      let reach = reach_beside s m proc tick machine io in
      let units : next.io ≡ s.io = ap (λ (x : MachineState). x.io) e ∙ put.io ∙ io in
      let script : next.keys ≡ s.keys = ap (λ (x : MachineState). x.keys) e ∙ put.keys ∙ reach.keys in
      let took = took_when s next proc n until goes.running d lt early goes_now (near_unobserved s proc tick d.own near) made units script
      (other_stays proc tick s m next (went_on clocks false (processor_of m proc)) machine e) in
      (took, goes_after next took)

-- a step that was taken made the processor due later
pub later : (until : ℕ) (proc : Proc) (end limit : ℕ) (up : Bool) (s next : MachineState) → GoesFast until proc end limit up s
    → TookStep until proc s next × GoesFast until proc end limit up next → (processor_of s proc).due ≤ (processor_of next proc).due
later until proc end limit up s next goes went =
    let left : (m : MachineState) → is_blocked m proc ≡ false → own_remaining until m proc ≡ until - (processor_of m proc).due =
    λ m free. ap (λ (b : Bool). ticks_left until (due_unless b (processor_of m proc))) free in
    let fewer = went.0.fewer in
    let before = left s goes.least.free in
    let after = left next went.1.least.free in
    omega (arith, fewer, before, after)

-- steps, and then more of the same turn
pub steps_then : (until : ℕ) (proc : Proc) (a b c : MachineState) → TakesSteps until proc a b → TakesSteps until proc b c → TakesSteps until proc a c
steps_then until proc a b c first (no_steps start) = first
steps_then until proc a b c first (more_steps start before caught next earlier belongs catches h) =
    more_steps a before caught next (steps_then until proc a start before first earlier) belongs catches h

-- ---- a loop over them: the steps so far were of the turn, and the next goes by the same

pub went_none : (until : ℕ) (proc : Proc) (end limit : ℕ) (up : Bool) (s : MachineState) → GoesFast until proc end limit up s → WentOn until proc end limit up s s
went_none until proc end limit up s goes = record { steps = no_steps s; goes = goes; io = refl; keys = refl; other = refl }

pub went_more : (until : ℕ) (proc : Proc) (end limit : ℕ) (up : Bool) (start before now : MachineState) → WentOn until proc end limit up start before
    → TookStep until proc before now × GoesFast until proc end limit up now → WentOn until proc end limit up start now
went_more until proc end limit up start before now g k =
    let took = k.0 in
    record {
      steps = more_steps start before before now g.steps took.belongs (needs_none before proc took.unobserving) took.made;
      goes = k.1;
      io = took.io ∙ g.io;
      keys = took.keys ∙ g.keys;
      other = took.other ∙ g.other;
    }

-- where it ends, the last try left all as it was
pub went_same : (until : ℕ) (proc : Proc) (end limit : ℕ) (up : Bool) (start before now : MachineState) → WentOn until proc end limit up start before
    → now ≡ before → WentOn until proc end limit up start now
went_same until proc end limit up start before now g same = subst (WentOn until proc end limit up start) (sym same) g

-- some, and then more
pub went_then : (until : ℕ) (proc : Proc) (end limit : ℕ) (up : Bool) (start before now : MachineState) → WentOn until proc end limit up start before
    → WentOn until proc end limit up before now → WentOn until proc end limit up start now
went_then until proc end limit up start before now g k = record {
  steps = steps_then until proc start before now g.steps k.steps;
  goes = k.goes;
  io = k.io ∙ g.io;
  keys = k.keys ∙ g.keys;
  other = k.other ∙ g.other;
}

-- so it leaves the others as they were
pub leaves_others : (until : ℕ) (proc : Proc) (end limit : ℕ) (up : Bool) (s next : MachineState) → WentOn until proc end limit up s next → LeavesOthers proc s next
leaves_others until proc end limit up s next w = record { beside = record { io = w.io; keys = w.keys }; other = w.other }
