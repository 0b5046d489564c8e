use Rattle.std.proofs.Common.{ℕ, zero, suc, ◌≡◌, ◌≢◌, ◌<◌, ◌+◌, ◌^◌, List, refl, sym, ◌∙◌, subst, ap, arith, rules, Bool, true, false, Option, Some, None}
use Rattle.std.specs.Prelude.{◌&&◌, ◌==◌, not, if◌then◌else◌, is_some}
use Rattle.ds_base.specs.declared.ticks.Tick.{Tick}
use Rattle.ds_base.specs.Schedules.{IsEarly, IsLater}
use Rattle.ds_base.proofs.Choices.{is_unequal, either_by, equal, equal_self, if_true, if_false}
use Rattle.ds_timers.specs.declared.timers.Timer.{Timer}
use Rattle.ds_timers.specs.Timing.{AreEarly, AreTimers, IsTimer, CountsFrom, SchedulesOne, timer_at, pace, runs, counts_up, runs_free, full, timer_due, carries, overflows, after_overflow, overflow_of}
use Rattle.ds_timers.proofs.Changed.{full_later}
use Rattle.ds_timers.proofs.Four.{are_four}

due_where : (since : Option Tick) (count ticks : ℕ) → is_some (full since count ticks) ≡ is_some since
due_where None count ticks = refl
due_where (Some tick) count ticks = refl

counted_on : (count reload : ℕ) → count < 2 ^ 16 → reload < 2 ^ 16 → (if count == 65535 then reload else count + 1) < 2 ^ 16
counted_on count reload c r = grind (arith, rules)

after_is : (which i : ℕ) (before : Bool) (t : Timer) → IsTimer i t → IsTimer i (after_overflow which i before t)
after_is which i before t is =
    either_by (IsTimer i) (i == which) _ _
    (λ e. record { control = is.control; reload = is.reload; count = is.reload; anchored = due_where t.since t.count (pace t.control) ∙ is.anchored })
    (λ e. either_by (IsTimer i) (carries i before t) _ _
    (λ f. record { control = is.control; reload = is.reload; count = counted_on t.count t.reload is.count is.reload; anchored = is.anchored })
    (λ f. is))

after_early : (which i : ℕ) (before : Bool) (t : Timer) → IsEarly t.since → (i ≡ which → IsEarly (timer_due t)) → IsEarly (after_overflow which i before t).since
after_early which i before t was early =
    let P : Timer → Type 0 = λ x. IsEarly x.since in
    either_by P (i == which) _ _ (λ e. early (equal i which e)) (λ e. either_by P (carries i before t) _ _ (λ f. was) (λ f. was))

-- after an overflow they are the timers still
pub overflow_keeps : (timers : List Timer) (which : ℕ) → AreTimers timers → AreTimers (overflow_of timers which).timers
overflow_keeps timers which h =
    let zero = overflows which 0 false (timer_at timers 0) in
    let one = overflows which 1 zero (timer_at timers 1) in
    let two = overflows which 2 one (timer_at timers 2) in
    are_four _ _ _ _
    (after_is which 0 false (timer_at timers 0) (h.each 0 (omega arith)))
    (after_is which 1 zero (timer_at timers 1) (h.each 1 (omega arith)))
    (after_is which 2 one (timer_at timers 2) (h.each 2 (omega arith)))
    (after_is which 3 two (timer_at timers 3) (h.each 3 (omega arith)))

none_of : (o : Option Tick) → is_some o ≡ false → o ≡ None
none_of None h = refl
none_of (Some tick) h = absurd (grind arith)

again : (t : Timer) (o : Option Tick) (now : Tick) → o ≡ Some now → CountsFrom (record t { count = t.reload; since = o }) t.reload now
again t o now e = (let P : Option Tick → Type 0 = λ x. CountsFrom (record t { count = t.reload; since = x }) t.reload now in
    let there : P (Some now) = record { counter = λ at. refl; overflow = refl } in subst P (sym e) there)

own_is : (which : ℕ) (before : Bool) (t : Timer) → after_overflow which which before t ≡ record t { count = t.reload; since = timer_due t }
own_is which before t = if_true (which == which) _ _ (equal_self which)

carried_late : (a b c : Bool) → (a && b && c) ≡ true → (b && not c) ≡ false
carried_late true true true h = refl
carried_late a false c h = refl
carried_late a true false h = absurd (grind arith)
carried_late false true true h = refl

-- another timer is due as before: where it counts up it is never due
other_due : (which i : ℕ) (before : Bool) (t : Timer) → i ≢ which → IsTimer i t → timer_due (after_overflow which i before t) ≡ timer_due t
other_due which i before t ne is =
    ap timer_due (if_false (i == which) _ _ (is_unequal i which ne))
    ∙ either_by (λ x. timer_due x ≡ timer_due t) (carries i before t) (record t { count = (if t.count == 65535 then t.reload else t.count + 1) }) t
    (λ e. (let free : runs_free i t.control ≡ false = carried_late before (runs t.control) (counts_up i t.control) e in
    let none : t.since ≡ None = none_of t.since (is.anchored ∙ free) in
    ap (λ o. full o (if t.count == 65535 then t.reload else t.count + 1) (pace t.control)) none ∙ sym (ap (λ o. full o t.count (pace t.control)) none)))
    (λ e. refl)

index_after : (timers : List Timer) (which i : ℕ) → i < 4 → (before : Bool) × (timer_at (overflow_of timers which).timers i ≡ after_overflow which i before (timer_at timers i))
index_after timers which zero h = (false, refl)
index_after timers which (suc zero) h = (overflows which 0 false (timer_at timers 0), refl)
index_after timers which (suc (suc zero)) h = (overflows which 1 (overflows which 0 false (timer_at timers 0)) (timer_at timers 1), refl)
index_after timers which (suc (suc (suc zero))) h = (overflows which 2 (overflows which 1 (overflows which 0 false (timer_at timers 0)) (timer_at timers 1)) (timer_at timers 2), refl)
index_after timers which (suc (suc (suc (suc n)))) h = absurd (omega (arith, h))

-- and their anchors are early where the tick of the overflow is
pub overflow_early : (timers : List Timer) (which : ℕ) → AreEarly timers → IsEarly (timer_due (timer_at timers which)) → AreEarly (overflow_of timers which).timers
overflow_early timers which was early = λ i l. (let after = index_after timers which i l in
    subst (λ (x : Timer). IsEarly x.since) (sym after.1)
    (after_early which i after.0 (timer_at timers i) (was i l) (λ e. subst (λ n. IsEarly (timer_due (timer_at timers n))) (sym e) early)))

-- the timer whose overflow it is counts from its reload again
pub overflow_counts : (timers : List Timer) (which : ℕ) → which < 4 → (now : Tick) → timer_due (timer_at timers which) ≡ Some now
    → CountsFrom (timer_at (overflow_of timers which).timers which) (timer_at timers which).reload now
overflow_counts timers which l now e =
    let t = timer_at timers which in
    let after = index_after timers which which l in
    subst (λ x. CountsFrom x t.reload now) (sym (after.1 ∙ own_is which after.0 t)) (again t (timer_due t) now e)

own_later : (t : Timer) (due : Option Tick) (now : Tick) → t.reload < 2 ^ 16 → due ≡ Some now → IsLater now (timer_due (record t { count = t.reload; since = due }))
own_later t due now r e = subst (λ o. IsLater now (full o t.reload (pace t.control))) (sym e) (full_later now t.reload t.control r)

-- an overflow schedules that timer alone, and later
pub overflow_schedules : (timers : List Timer) (which : ℕ) → AreTimers timers → which < 4 → (now : Tick) → timer_due (timer_at timers which) ≡ Some now
    → SchedulesOne which now timers (overflow_of timers which).timers
overflow_schedules timers which h l now e =
    let t = timer_at timers which in
    let own = index_after timers which which l in record {
      later = subst (λ x. IsLater now (timer_due x)) (sym (own.1 ∙ own_is which own.0 t)) (own_later t (timer_due t) now (h.each which l).reload e);
      others = λ other m ne. (let after = index_after timers which other m in
          ap timer_due after.1 ∙ other_due which other after.0 (timer_at timers other) ne (h.each other m));
    }
