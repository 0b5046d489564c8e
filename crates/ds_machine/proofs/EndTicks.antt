use Rattle.ds_machine.proofs.Words.{Bool, Ends, Fences, HasEnds, HasLimit, IoState, IsBelowFence, KeyLine, List, MachineState, NextEvent, Nine}
use Rattle.ds_machine.proofs.Words.{Option, Proc, ProcessorState, Seven, Some, Tick, acting_dues, acting_events_of, acting_io_dues, actor_of, ap}
use Rattle.ds_machine.proofs.Words.{arith, due_at, due_unless, false, inl, inr, is_blocked, is_held, keys_due, max, min, other_proc, processor_due}
use Rattle.ds_machine.proofs.Words.{processor_of, rank_of, refl, sort_rank, subst, sym, tick_of, true, ℕ, ◌-◌, ◌<◌, ◌^◌, ◌∙◌, ◌∷◌, ◌≡◌, ◌≤◌, ◌⊎◌}
use Rattle.ds_machine.specs.NextEvents.{IsNextEvent, due_at_least, least_kept, least_of, past_other, limit_by, limit_in, due_put, wait_in}
use Rattle.ds_machine.specs.NextEvents.{waits_until}
use Rattle.ds_machine.specs.TurnLaws.{ComesFirst, IsTurnEnd, due_or_never, ComesBeforeEvents, IsFirst}
use Rattle.ds_machine.specs.declared.next_events.First.{First}
use Rattle.ds_machine.proofs.ActingDues.{acting_low, acting_processor}
use Rattle.ds_machine.proofs.FastSteps.{ComesBefore, event_there, kept_is, wait_ends, wait_is}
use Rattle.ds_machine.proofs.GoingSteps.{above_events, across, after_other, event_in, free_by, least_there, no_fence, not_own, past_if, past_never, differs}
use Rattle.ds_machine.proofs.Wakes.{Beside}

-- By what the processor whose turn begins is found.

-- ---- the first tick at which an event acts

pub end_kept : (next_event : NextEvent) (s : MachineState) (until : ℕ) → IsNextEvent next_event s → 0 < next_event.events_until.0 → IsTurnEnd until s (min next_event.events_until.0 until)
end_kept next_event s until is some n =
    (λ lt. (omega (arith, lt), λ event at low h. (let k = is.events event at (event_there s event at low h) in omega (arith, k, lt))), λ k. back k.0 k.1) where
      back : n < until → ComesBeforeEvents s n → n < min next_event.events_until.0 until
      back lt before =
          let k = is.first some in
          let at = event_in s k.0 next_event.events_until k.1 in
          let first = before k.0 next_event.events_until at.0 at.1 in
          omega (arith, lt, first)

-- what is due before it is below the limit of a turn and below the fence
pub below_end : (until end : ℕ) (s : MachineState) (proc : Proc) (tick : Tick) → IsTurnEnd until s end → tick.0 < end → (tick.0 < until) × IsBelowFence s proc tick
below_end until end s proc tick is lt = (((is tick.0).0 lt).0, λ rank at there f. below rank at there f (sort_rank rank (acting_low s rank at there))) where
  below : (rank : ℕ) (at : Tick) → due_at (acting_dues s) rank ≡ Some at → Fences (actor_of rank) proc s → (rank < rank_of Nine) ⊎ ((rank ≡ rank_of Nine) ⊎ (rank ≡ rank_of Seven)) → tick.0 < at.0
  below rank at there f (inl event) = ((is tick.0).0 lt).1 rank at event there
  below rank at there f (inr (inl e)) = absurd (no_fence s proc Nine rank e f)
  below rank at there f (inr (inr e)) = absurd (no_fence s proc Seven rank e f)

-- also by what is kept
pub below_kept : (next_event : NextEvent) (s : MachineState) (proc : Proc) (tick : Tick) → IsNextEvent next_event s → tick.0 < next_event.events_until.0 → IsBelowFence s proc tick
below_kept next_event s proc tick is lt =
    let n = next_event.events_until.0 in (below_end n (min n n) s proc tick (end_kept next_event s n is (omega (arith, lt))) (omega (arith, lt))).1

-- ---- when a processor is due

pub never_kept : (next_event : NextEvent) (s : MachineState) (proc : Proc) → IsNextEvent next_event s → waits_until next_event s proc ≡ due_or_never s proc
never_kept next_event s proc is = ap (λ (least : ℕ). due_at_least least (processor_of s proc).due) (kept_is next_event s is proc)

pub never_free : (s : MachineState) (proc : Proc) → is_blocked s proc ≡ false → due_or_never s proc ≡ (processor_of s proc).due
never_free s proc free =
    let is : due_or_never s proc ≡ max (processor_of s proc).due 0 = ap (λ (b : Bool). due_at_least (least_of b) (processor_of s proc).due) free in
    omega (arith, is)

-- ---- from both the first tick at which a processor isn't the least

module _ (s : MachineState) (proc : Proc) (until end : ℕ) (is : IsTurnEnd until s end) (early : until ≤ 2 ^ 56) where
  abbrev other_waits : ℕ
  other_waits = due_or_never s (other_proc proc)

  comes_first : (n : ℕ) → n < past_other proc other_waits → ComesBeforeEvents s n → ComesFirst s proc n
  comes_first n lt before other at ne h = elim (sort_rank other (acting_low s other at h)) [
    | inl event ↦ inl (before other at event h)
    | inr rest ↦
        (let e = across proc other rest ne in
        let there = sym (acting_processor s (other_proc proc)) ∙ subst (λ (r : ℕ). due_at (acting_dues s) r ≡ Some at) e h in
        let w = wait_is (is_blocked s (other_proc proc)) (least_of (is_blocked s (other_proc proc))) (processor_of s (other_proc proc)) at refl there in
        subst (λ (r : ℕ). (n < at.0) ⊎ ((n ≡ at.0) × (rank_of proc ≤ r))) (sym e) (after_other proc n other_waits at.0 lt w))
  ]

  before_events : (n : ℕ) → ComesFirst s proc n → ComesBeforeEvents s n
  before_events n first event at low h = elim (first event at (not_own proc event low) h) [
    | inl lt ↦ lt
    | inr e ↦ (let r = e.1 in let high = above_events proc in absurd (omega (arith, r, low, high)))
  ]

  before_past : (n : ℕ) → n < 2 ^ 56 → ComesFirst s proc n → n < past_other proc other_waits
  before_past n low first = by_need (is_blocked s (other_proc proc)) refl where
    by_need : (blocked : Bool) → is_blocked s (other_proc proc) ≡ blocked → n < past_other proc other_waits
    by_need true e =
        let waits : other_waits ≡ max (processor_of s (other_proc proc)).due (2 ^ 64 - 1) = ap (λ (b : Bool). due_at_least (least_of b) (processor_of s (other_proc proc)).due) e in
        past_never proc n other_waits low (omega (arith, waits))
    by_need false e =
        let there : processor_due s (other_proc proc) ≡ Some (tick_of (processor_of s (other_proc proc))) = ap (λ (b : Bool). due_unless b (processor_of s (other_proc proc))) e in
        past_if proc n other_waits (processor_of s (other_proc proc)).due low (never_free s (other_proc proc) e)
        (first (rank_of (other_proc proc)) (tick_of (processor_of s (other_proc proc))) (differs proc) (acting_processor s (other_proc proc) ∙ there))

  pub has_limit : is_blocked s proc ≡ false → HasLimit until s proc (min end (past_other proc other_waits))
  has_limit free = record { free = free; first = λ n. (λ lt. front n lt, λ k. back n k.0 k.1) } where
    front : (n : ℕ) → n < min end (past_other proc other_waits) → (n < until) × ComesFirst s proc n
    front n lt = let k = (is n).0 (omega (arith, lt)) in (k.0, comes_first n (omega (arith, lt)) k.1)

    back : (n : ℕ) → n < until → ComesFirst s proc n → n < min end (past_other proc other_waits)
    back n lt first =
        let event = (is n).1 (lt, before_events n first) in
        let other = before_past n (omega (arith, lt, early)) first in
        omega (arith, event, other)

-- by what is kept
pub limit_so : (next_event : NextEvent) (s : MachineState) (proc : Proc) (until limit : ℕ) → IsNextEvent next_event s → 0 < next_event.events_until.0 → until ≤ 2 ^ 56
    → least_kept next_event proc ≡ 0 → limit ≡ limit_by next_event s proc until → HasLimit until s proc limit
limit_so next_event s proc until limit is some early free same =
    let last : ℕ → ℕ = λ wait. min (min next_event.events_until.0 until) (past_other proc wait) in
    subst (HasLimit until s proc) (sym (same ∙ ap last (never_kept next_event s (other_proc proc) is)))
    (has_limit s proc until (min next_event.events_until.0 until) (end_kept next_event s until is some) early (free_by (is_blocked s proc) (sym (kept_is next_event s is proc) ∙ free)))

-- ---- by these it is found

pub ends_kept : (next_event : NextEvent) (s : MachineState) (until : ℕ) (ends : Ends) → IsNextEvent next_event s → ends.end ≡ min next_event.events_until.0 until
    → ends.nine ≡ waits_until next_event s Nine → ends.seven ≡ waits_until next_event s Seven → HasEnds until s ends
ends_kept next_event s until ends is end nine seven = record {
  end = λ some. subst (IsTurnEnd until s) (sym end) (end_kept next_event s until is (omega (arith, some, end)));
  nine = nine ∙ never_kept next_event s Nine is;
  seven = seven ∙ never_kept next_event s Seven is;
}

wait_has : (until : ℕ) (s : MachineState) (ends : Ends) (proc : Proc) → HasEnds until s ends → wait_in ends proc ≡ due_or_never s proc
wait_has until s ends Nine has = has.nine
wait_has until s ends Seven has = has.seven

before_last : (proc : Proc) (n other end : ℕ) → n < 2 ^ 56 → n < end → ComesBefore proc n other → n < min end (past_other proc other)
before_last Nine n other end low lt before = omega (arith, low, lt, before)
before_last Seven n other end low lt before = omega (arith, lt, before)

pub first_in : (until : ℕ) (s : MachineState) (ends : Ends) (first : First) → until ≤ 2 ^ 56 → HasEnds until s ends → first.limit ≡ limit_in ends first.proc
    → wait_in ends first.proc < ends.end → ComesBefore first.proc (wait_in ends first.proc) (wait_in ends (other_proc first.proc)) → IsFirst until s first
first_in until s ends first early has is_limit lt before =
    let proc = first.proc in
    let is = has.end (omega (arith, lt)) in
    let below = ((is (wait_in ends proc)).0 lt).0 in
    let low : wait_in ends proc < 2 ^ 56 = omega (arith, below, early) in
    let waits = wait_has until s ends proc has in
    let k = wait_ends (is_blocked s proc) (least_of (is_blocked s proc)) (processor_of s proc).due refl (subst (λ (n : ℕ). n < 2 ^ 56) waits low) in
    let due : wait_in ends proc ≡ (processor_of s proc).due = waits ∙ k.1 in
    let last : ℕ → ℕ = λ wait. min ends.end (past_other proc wait) in
    let limit : HasLimit until s proc first.limit =
    subst (HasLimit until s proc) (sym (is_limit ∙ ap last (wait_has until s ends (other_proc proc) has))) (has_limit s proc until ends.end is early k.0) in
    let there : (processor_of s proc).due < first.limit =
    subst (λ (n : ℕ). n < first.limit) due (subst (λ (n : ℕ). wait_in ends proc < n) (sym is_limit) (before_last proc (wait_in ends proc) (wait_in ends (other_proc proc)) ends.end low lt before)) in
    record {
      least = record {
        tick = tick_of (processor_of s proc);
        least = least_there until first.limit s proc limit there;
        below = ((limit.first (processor_of s proc).due).0 there).0;
      };
      limit = limit;
    }

-- and after steps of a processor, of which no other actor hears
pub ends_after : (until : ℕ) (s next : MachineState) (ends : Ends) (proc : Proc) (tick : ℕ) → HasEnds until s ends → (0 < ends.end → IsTurnEnd until next ends.end)
    → due_or_never next (other_proc proc) ≡ due_or_never s (other_proc proc) → is_blocked next proc ≡ false → tick ≡ (processor_of next proc).due
    → HasEnds until next (due_put ends proc tick)
ends_after until s next ends Nine tick has end other free due =
    record { end = end; nine = due ∙ sym (never_free next Nine free); seven = has.seven ∙ sym other }
ends_after until s next ends Seven tick has end other free due =
    record { end = end; nine = has.nine ∙ sym other; seven = due ∙ sym (never_free next Seven free) }

-- ---- a step that leaves the units, the script and when the other processor is due

pub record LeavesOthers (proc : Proc) (s next : MachineState) : Type 0 where
  pub beside : Beside s next
  pub other : (processor_of next (other_proc proc)).due ≡ (processor_of s (other_proc proc)).due

pub leaves_back : (proc : Proc) (s next : MachineState) → LeavesOthers proc s next → LeavesOthers proc next s
leaves_back proc s next k = record { beside = record { io = sym k.beside.io; keys = sym k.beside.keys }; other = sym k.other }

pub blocked_same : (s next : MachineState) (proc : Proc) → Beside s next → is_blocked next proc ≡ is_blocked s proc
blocked_same s next proc b = ap (λ (u : IoState). is_held u proc) b.io

events_same : (s next : MachineState) → Beside s next → acting_events_of next ≡ acting_events_of s
events_same s next b =
    ap (λ (u : IoState). keys_due next.keys ∷ acting_io_dues u) b.io ∙ ap (λ (lines : List KeyLine). keys_due lines ∷ acting_io_dues s.io) b.keys

event_same : (s next : MachineState) (event : ℕ) (at : Tick) → Beside s next → event < rank_of Nine → due_at (acting_dues next) event ≡ Some at → due_at (acting_dues s) event ≡ Some at
event_same s next event at b low h =
    (event_in s event at (ap (λ (dues : List (Option Tick)). due_at dues event) (sym (events_same s next b)) ∙ event_there next event at low h)).1

other_same : (s next : MachineState) (proc : Proc) (at : Tick) → LeavesOthers proc s next → processor_due next (other_proc proc) ≡ Some at → processor_due s (other_proc proc) ≡ Some at
other_same s next proc at k h =
    by_blocked (is_blocked s (other_proc proc)) (processor_of s (other_proc proc)) (processor_of next (other_proc proc)) k.other
    (ap (λ (b : Bool). due_unless b (processor_of next (other_proc proc))) (sym (blocked_same s next (other_proc proc) k.beside)) ∙ h) where
      by_blocked : (blocked : Bool) (p q : ProcessorState) → q.due ≡ p.due → due_unless blocked q ≡ Some at → due_unless blocked p ≡ Some at
      by_blocked true p q same there = there
      by_blocked false p q same there = ap (λ (n : ℕ). (let t : Option Tick = Some (record { 0 = n }) in t)) (sym same) ∙ there

pub other_never : (s next : MachineState) (proc : Proc) → LeavesOthers proc s next → due_or_never next (other_proc proc) ≡ due_or_never s (other_proc proc)
other_never s next proc k =
    ap (λ (b : Bool). due_at_least (least_of b) (processor_of next (other_proc proc)).due) (blocked_same s next (other_proc proc) k.beside)
    ∙ ap (λ (due : ℕ). due_at_least (least_of (is_blocked s (other_proc proc))) due) k.other

first_stays : (s next : MachineState) (proc : Proc) (n : ℕ) → LeavesOthers proc s next → ComesFirst s proc n → ComesFirst next proc n
first_stays s next proc n k first other at ne h = elim (sort_rank other (acting_low next other at h)) [
  | inl event ↦ first other at ne (event_same s next other at k.beside event h)
  | inr rest ↦
      (let e = across proc other rest ne in
      let there = sym (acting_processor next (other_proc proc)) ∙ subst (λ (r : ℕ). due_at (acting_dues next) r ≡ Some at) e h in
      first other at ne (subst (λ (r : ℕ). due_at (acting_dues s) r ≡ Some at) (sym e) (acting_processor s (other_proc proc) ∙ other_same s next proc at k there)))
]

pub end_stays : (until end : ℕ) (s next : MachineState) → Beside s next → IsTurnEnd until s end → IsTurnEnd until next end
end_stays until end s next b is n = (
  λ lt. (let k = (is n).0 lt in (k.0, λ event at low h. k.1 event at low (event_same s next event at b low h))),
  λ k. (is n).1 (k.0, λ event at low h. k.1 event at low (event_same next s event at (record { io = sym b.io; keys = sym b.keys }) low h)),
)

pub limit_stays : (until limit : ℕ) (s next : MachineState) (proc : Proc) → LeavesOthers proc s next → HasLimit until s proc limit → HasLimit until next proc limit
limit_stays until limit s next proc k has = record {
  free = blocked_same s next proc k.beside ∙ has.free;
  first = λ n. (
    λ lt. (let there = (has.first n).0 lt in (there.0, first_stays s next proc n k there.1)),
    λ there. (has.first n).1 (there.0, first_stays next s proc n (leaves_back proc s next k) there.1),
  );
}
