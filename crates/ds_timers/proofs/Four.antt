use Rattle.std.proofs.Common.{ℕ, zero, suc, ◌≡◌, ◌<◌, inl, inr, List, [], ◌∷◌, length, slice_set, refl, sym, ◌∙◌, subst, arith, get_or-set_same, get_or-set_other, length-set}
use Rattle.ds_base.specs.declared.ticks.Tick.{Tick}
use Rattle.ds_base.specs.Schedules.{IsEarly, IsLater, Reschedules}
use Rattle.ds_base.proofs.Choices.{same_or_not}
use Rattle.ds_timers.specs.declared.timers.Timer.{Timer}
use Rattle.ds_timers.specs.Timing.{AreEarly, AreTimers, IsTimer, SchedulesOne, timer_at, timer_due}

each_of : (a b c d : Timer) → IsTimer 0 a → IsTimer 1 b → IsTimer 2 c → IsTimer 3 d → (which : ℕ) → which < 4 → IsTimer which (timer_at (a ∷ b ∷ c ∷ d ∷ []) which)
each_of a b c d p q r s zero h = p
each_of a b c d p q r s (suc zero) h = q
each_of a b c d p q r s (suc (suc zero)) h = r
each_of a b c d p q r s (suc (suc (suc zero))) h = s
each_of a b c d p q r s (suc (suc (suc (suc n)))) h = absurd (omega (arith, h))

-- four that are each a timer in their place are the timers
pub are_four : (a b c d : Timer) → IsTimer 0 a → IsTimer 1 b → IsTimer 2 c → IsTimer 3 d → AreTimers (a ∷ b ∷ c ∷ d ∷ [])
are_four a b c d p q r s = record { four = refl; each = each_of a b c d p q r s }

-- the timer that was put is there
pub set_same : (timers : List Timer) (which : ℕ) (t : Timer) → AreTimers timers → which < 4 → timer_at (slice_set timers which t) which ≡ t
set_same timers which t h l = (let inside : which < length timers = omega (arith, l, h.four) in get_or-set_same timers which t _ inside)

-- with another timer in one place they are the timers still
pub are_set : (timers : List Timer) (which : ℕ) (t : Timer) → AreTimers timers → which < 4 → IsTimer which t → AreTimers (slice_set timers which t)
are_set timers which t h l p = record {
  four = length-set timers which t ∙ h.four;
  each = λ i m. elim (same_or_not i which) [
    | inl e ↦ subst (λ n. IsTimer n (timer_at (slice_set timers which t) n)) (sym e) (subst (IsTimer which) (sym (set_same timers which t h l)) p)
    | inr ne ↦ rw get_or-set_other (h.each i m)
  ];
}

-- and their anchors are early where the new one's is
pub early_set : (timers : List Timer) (which : ℕ) (t : Timer) → AreTimers timers → AreEarly timers → which < 4 → IsEarly t.since → AreEarly (slice_set timers which t)
early_set timers which t h was l early = λ i m. elim (same_or_not i which) [
  | inl e ↦ subst (λ n. IsEarly (timer_at (slice_set timers which t) n).since) (sym e) (subst (λ (x : Timer). IsEarly x.since) (sym (set_same timers which t h l)) early)
  | inr ne ↦ rw get_or-set_other (was i m)
]

-- a timer that is put is due later than a tick, or not at all
pub set_schedules : (timers : List Timer) (which : ℕ) (t : Timer) (now : Tick) → AreTimers timers → which < 4 → IsLater now (timer_due t) → SchedulesOne which now timers (slice_set timers which t)
set_schedules timers which t now h l later = record {
  later = subst (λ x. IsLater now (timer_due x)) (sym (set_same timers which t h l)) later;
  others = λ other m ne. rw get_or-set_other refl;
}

-- each timer is then due as it was, or later
pub one_reschedules : (which : ℕ) (now : Tick) (old new : List Timer) → SchedulesOne which now old new → (each : ℕ) → each < 4 → Reschedules now (timer_due (timer_at old each)) (timer_due (timer_at new each))
one_reschedules which now old new one each l = elim (same_or_not each which) [
  | inl e ↦ inr (subst (λ n. IsLater now (timer_due (timer_at new n))) (sym e) one.later)
  | inr ne ↦ inl (one.others each l ne)
]
