use Rattle.std.proofs.Common.{ℕ, ◌≡◌, ◌≢◌, ◌<◌, ◌≤◌, ◌+◌, ◌-◌, ◌*◌, ◌/◌, ◌^◌, ◌⊎◌, inl, inr, List, slice_set, refl, sym, ◌∙◌, subst, ap, arith, Bool, true, false, Option, Some, None, get_or-set_other}
use Rattle.std.specs.Prelude.{◌&&◌, ◌==◌, if◌then◌else◌, is_some}
use Rattle.std.proofs.Math.Nat.{le-mul_of_pos_right, mod-lt}
use Rattle.std.proofs.lemmas.Nat.{and_assoc}
use Rattle.ds_base.specs.declared.ticks.Tick.{Tick}
use Rattle.ds_base.specs.Schedules.{IsEarly, IsLater, Reschedules}
use Rattle.ds_base.proofs.Choices.{either_by, both, not_both, equal, unequal, same_or_not}
use Rattle.ds_timers.specs.declared.timers.Timer.{Timer}
use Rattle.ds_timers.specs.Timing.{AreTimers, IsTimer, ChangesControl, starts, keeps_anchor, takes_anchor, holds_count, CountsFrom, SchedulesOne, timer_at, pace, runs_free, counted, counter_of, full, timer_due, kept_control, is_start, controlled, control_set, reload_set}
use Rattle.ds_timers.proofs.Four.{are_set, set_same, set_schedules}

pub pace_above : (control : ℕ) → 0 < pace control
pace_above control = grind arith

-- a count that isn't full is full later
pub full_later : (now : Tick) (count control : ℕ) → count < 2 ^ 16 → now.0 < now.0 + (65536 - count) * pace control
full_later now count control h = omega (arith, h, le-mul_of_pos_right (65536 - count) (pace_above control))

-- a counter has 16 bits
counted_below : (since : Option Tick) (count ticks : ℕ) (now : Tick) → count < 2 ^ 16 → counted since count ticks now < 2 ^ 16
counted_below None count ticks now h = h
counted_below (Some since) count ticks now h = mod-lt (count + (now.0 - since.0) / ticks) (omega arith)

pub counter_below : (t : Timer) (now : Tick) → t.count < 2 ^ 16 → counter_of t now < 2 ^ 16
counter_below t now h = counted_below t.since t.count (pace t.control) now h

later_where : (free : Bool) (now : Tick) (count control : ℕ) → count < 2 ^ 16 → IsLater now (full (if free then Some now else None) count (pace control))
later_where true now count control h = full_later now count control h
later_where false now count control h = tt

some_where : (free : Bool) (now : Tick) → is_some (if free then Some now else None) ≡ free
some_where true now = refl
some_where false now = refl

early_where : (free : Bool) (now : Tick) → now.0 ≤ 2 ^ 56 → IsEarly (if free then Some now else None)
early_where true now h = h
early_where false now h = tt

-- the bits that are kept are kept again
pub kept_twice : (value : ℕ) → kept_control (kept_control value) ≡ kept_control value
kept_twice value = and_assoc 0xC7 value 0xC7

-- after a write of its control it is the timer still
pub controlled_is : (which : ℕ) (t : Timer) (control : ℕ) (now : Tick) → IsTimer which t → kept_control control ≡ control → IsTimer which (controlled which t control now)
controlled_is which t control now is kept =
    let free = runs_free which control in
    either_by (IsTimer which) (is_start t.control control) _ _
    (λ e. record { control = kept; reload = is.reload; count = is.reload; anchored = some_where free now })
    (λ e. either_by (IsTimer which) free _ _
    (λ f. either_by (IsTimer which) (runs_free which t.control && (pace control == pace t.control)) _ _
    (λ g. record { control = kept; reload = is.reload; count = is.count; anchored = is.anchored ∙ (both (runs_free which t.control) (pace control == pace t.control) g).0 ∙ sym f })
    (λ g. record { control = kept; reload = is.reload; count = counter_below t now is.count; anchored = sym f }))
    (λ f. record { control = kept; reload = is.reload; count = counter_below t now is.count; anchored = sym f }))

-- and its anchor is early where that tick is
pub controlled_early : (which : ℕ) (t : Timer) (control : ℕ) (now : Tick) → IsEarly t.since → now.0 ≤ 2 ^ 56 → IsEarly (controlled which t control now).since
controlled_early which t control now was early =
    let free = runs_free which control in
    let P : Timer → Type 0 = λ x. IsEarly x.since in
    either_by P (is_start t.control control) _ _
    (λ e. early_where free now early)
    (λ e. either_by P free _ _
    (λ f. either_by P (runs_free which t.control && (pace control == pace t.control)) _ _ (λ g. was) (λ g. early))
    (λ f. tt))

-- after a write of its control a timer is due later or not at all
due_controlled : (which : ℕ) (t : Timer) (control : ℕ) (now : Tick) → IsTimer which t → IsLater now (timer_due t) → IsLater now (timer_due (controlled which t control now))
due_controlled which t control now is before =
    let free = runs_free which control in
    let P : Timer → Type 0 = λ x. IsLater now (timer_due x) in
    either_by P (is_start t.control control) _ _
    (λ e. later_where free now t.reload control is.reload)
    (λ e. either_by P free _ _
    (λ f. either_by P (runs_free which t.control && (pace control == pace t.control)) _ _
    (λ g. (let p : pace control ≡ pace t.control = equal (pace control) (pace t.control) (both (runs_free which t.control) (pace control == pace t.control) g).1 in
    subst (λ n. IsLater now (full t.since t.count n)) (sym p) before))
    (λ g. full_later now (counter_of t now) control (counter_below t now is.count)))
    (λ f. tt))

apart : (a : Bool) (x y : ℕ) → (a && (x == y)) ≡ false → (a ≡ false) ⊎ (x ≢ y)
apart a x y h = elim (not_both a (x == y) h) [
  | inl e ↦ inl e
  | inr e ↦ inr (unequal x y e)
]

-- the change is by one of the four cases
pub changes : (which : ℕ) (t : Timer) (control : ℕ) (now : Tick) → ChangesControl which t control now (controlled which t control now)
changes which t control now =
    let free = runs_free which control in
    let same = pace control == pace t.control in
    let P = ChangesControl which t control now in
    either_by P (is_start t.control control) _ _
    (λ e. starts e refl)
    (λ e. either_by P free _ _
    (λ f. either_by P (runs_free which t.control && same) _ _
    (λ g. keeps_anchor (both (runs_free which t.control) same g).0 f (equal (pace control) (pace t.control) (both (runs_free which t.control) same g).1) refl)
    (λ g. takes_anchor e f (apart (runs_free which t.control) (pace control) (pace t.control) g) refl))
    (λ f. holds_count e f refl))

from_start : (start free : Bool) (t other : Timer) (control : ℕ) (now : Tick) → start ≡ true → free ≡ true
    → CountsFrom (if start then record t { control = control; count = t.reload; since = if free then Some now else None } else other) t.reload now
from_start true true t other control now e f = record { counter = λ at. refl; overflow = refl }
from_start true false t other control now e f = absurd (grind arith)
from_start false free t other control now e f = absurd (grind arith)

-- a timer that starts counts from its reload
pub start_counts : (which : ℕ) (t : Timer) (control : ℕ) (now : Tick) → is_start t.control control ≡ true → runs_free which control ≡ true → CountsFrom (controlled which t control now) t.reload now
start_counts which t control now e f = from_start (is_start t.control control) (runs_free which control) t _ control now e f

-- what a write of a control tells of all four
pub control_changes : (timers : List Timer) (which control : ℕ) (now : Tick) → AreTimers timers → which < 4
    → ChangesControl which (timer_at timers which) control now (timer_at (slice_set timers which (controlled which (timer_at timers which) control now)) which)
control_changes timers which control now h l = (let t = timer_at timers which in
    subst (ChangesControl which t control now) (sym (set_same timers which (controlled which t control now) h l)) (changes which t control now))

pub control_counts : (timers : List Timer) (which control : ℕ) (now : Tick) → AreTimers timers → which < 4
    → is_start (timer_at timers which).control control ≡ true → runs_free which control ≡ true
    → CountsFrom (timer_at (slice_set timers which (controlled which (timer_at timers which) control now)) which) (timer_at timers which).reload now
control_counts timers which control now h l e f = (let t = timer_at timers which in
    subst (λ x. CountsFrom x t.reload now) (sym (set_same timers which (controlled which t control now) h l)) (start_counts which t control now e f))

pub control_schedules : (timers : List Timer) (which control : ℕ) (now : Tick) → AreTimers timers → which < 4 → IsLater now (timer_due (timer_at timers which))
    → SchedulesOne which now timers (slice_set timers which (controlled which (timer_at timers which) control now))
control_schedules timers which control now h l before = (let t = timer_at timers which in
    set_schedules timers which (controlled which t control now) now h l (due_controlled which t control now (h.each which l) before))

-- after a write of a control they are the timers still
pub control_set_is : (timers : List Timer) (which value : ℕ) (now : Tick) → AreTimers timers → which < 4 → AreTimers (control_set timers which value now)
control_set_is timers which value now h l =
    let t = timer_at timers which in
    let kept = kept_control value in
    are_set timers which (controlled which t kept now) h l (controlled_is which t kept now (h.each which l) (kept_twice value))

-- and after one of a reload
pub reload_set_is : (timers : List Timer) (which value : ℕ) → AreTimers timers → which < 4 → value < 2 ^ 16 → AreTimers (reload_set timers which value)
reload_set_is timers which value h l small =
    let is = h.each which l in
    are_set timers which (record (timer_at timers which) { reload = value }) h l (record { control = is.control; reload = small; count = is.count; anchored = is.anchored })

-- a write of a reload leaves every due tick
pub reload_leaves : (timers : List Timer) (which value : ℕ) (now : Tick) → AreTimers timers → which < 4
    → (each : ℕ) → each < 4 → Reschedules now (timer_due (timer_at timers each)) (timer_due (timer_at (reload_set timers which value) each))
reload_leaves timers which value now h l each m = elim (same_or_not each which) [
  | inl e ↦ inl (subst (λ n. timer_due (timer_at (reload_set timers which value) n) ≡ timer_due (timer_at timers n)) (sym e)
      (ap timer_due (set_same timers which (record (timer_at timers which) { reload = value }) h l)))
  | inr ne ↦ inl (rw get_or-set_other refl)
]
