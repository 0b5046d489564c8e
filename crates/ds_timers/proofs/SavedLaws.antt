use Rattle.std.proofs.Common.{rules, ℕ, ◌≡◌, ◌<◌, ◌≤◌, ◌^◌, ◌==◌, if◌then◌else◌, Bool, true, false, List, [], ◌∷◌, length, Option, Some, None, is_some, IfSome, bit_and, refl, sym, arith}
use Rattle.std.specs.Int.{bit_not, w32}
use Rattle.ds_base.specs.declared.processors.Proc.{Proc}
use Rattle.ds_base.specs.declared.ticks.Tick.{Tick}
use Rattle.ds_base.proofs.Choices.{both, both_true, equal, is_equal}
use Rattle.ds_state.specs.Formats.{bytes_written}
use Rattle.ds_state.proofs.Standing.{IsExact, StandsFor}
use Rattle.ds_state.proofs.Exact.{one_spelling, round_trips}
use Rattle.ds_state.proofs.Kept.{kept_twice}
use Rattle.ds_timers.specs.Irqs.{IrqState, IsIrq, events, interrupts_of, irq_levelled, level}
use Rattle.ds_timers.specs.Saved.{IrqsAreSaved, IsAnchoredAt, TimersAreSaved, anchor_number, anchors_by, irq_format, irq_format_by, timer_format, timers_format}
use Rattle.ds_timers.specs.declared.timers.Timer.{Timer}
use Rattle.ds_timers.specs.Timing.{AreTimers, IsTimer, full, pace, runs_free, timer_at}

-- What the interrupt words and the timers owe of their formats.

-- a bit that was taken away is away
events_twice : (word : ℕ) → events (events word) ≡ events word
events_twice word = kept_twice word (bit_not w32 level)

pub irq_exact : (proc : Proc) (asked : ℕ → ℕ → Bool) (at : ℕ) → IsExact (irq_format_by proc asked) at
unfolding irq_format_by
irq_exact proc asked at = λ ime _ _ ie _ _ if_ _ rule. (equal (events if_) if_ (both _ _ rule).1, search rules)

pub irq_stands : (proc : Proc) (asked : ℕ → ℕ → Bool) (at : ℕ) (i : IrqState) → IsIrq i → bit_and i.ie (interrupts_of proc) ≡ i.ie
    → events i.if_ ≡ i.if_ → asked i.ie i.if_ ≡ true → StandsFor (irq_format_by proc asked) at i
unfolding irq_format_by
irq_stands proc asked at i is kept low holds =
    let ie = is.ie in let if_ = is.if_ in
    let enables = is_equal _ _ kept in
    let flags : (events (events i.if_) == events i.if_) ≡ true = is_equal _ _ (events_twice i.if_) in
    let fits : events i.if_ < 2 ^ 32 = rw (low) if_ in
    let holds_low : asked i.ie (events i.if_) ≡ true = rw (low) holds in
    let ruled = both_true _ _ holds_low flags in
    ((tt, refl, (ie, enables, (fits, ruled, tt))), rw low refl)

-- an anchor is there exactly where the timer counts time
anchor_again : (free : Bool) (control count at number : ℕ) → anchors_by free control count at number ≡ true
    → anchor_number (if free then Some (record { 0 = number }) else None) ≡ number
anchor_again true control count at number rule = refl
anchor_again false control count at number rule = sym (equal number 0 rule)

timer_exact : (which at : ℕ) → IsExact (timer_format which) at
unfolding timer_format
timer_exact which at = λ reload _ _ control _ _ count _ _ since _ rule. (anchor_again (runs_free which control) control count at since rule, search rules)

pub timers_exact : (at : ℕ) → IsExact timers_format at
unfolding timers_format
timers_exact at = (timer_exact 0 at, λ zero _. (timer_exact 1 at, λ one _. (timer_exact 2 at, λ two _. (timer_exact 3 at, λ three _. search rules))))

since_fits : (since : Option Tick) (at : ℕ) → at ≤ 2 ^ 56 → IfSome since (λ tick. tick.0 ≤ at) → anchor_number since < 2 ^ 64
since_fits None at early h = omega arith
since_fits (Some since) at early h = omega (arith, early, h)

since_ruled : (since : Option Tick) (free : Bool) (control count at : ℕ) → IfSome since (λ tick. tick.0 ≤ at)
    → IfSome (full since count (pace control)) (λ due. at ≤ due.0) → is_some since ≡ free → anchors_by free control count at (anchor_number since) ≡ true
since_ruled None free control count at h due e = rw (← e) refl
since_ruled (Some since) free control count at h due e = rw (← e) (grind (arith, h, due))

since_again : (since : Option Tick) (free : Bool) → is_some since ≡ free → (if free then Some (record { 0 = anchor_number since }) else None) ≡ since
since_again None free e = rw (← e) refl
since_again (Some since) free e = rw (← e) refl

timer_stands : (which at : ℕ) (t : Timer) → at ≤ 2 ^ 56 → IsTimer which t → IsAnchoredAt at t → StandsFor (timer_format which) at t
unfolding timer_format
timer_stands which at t early is anchored =
    let fits = since_fits t.since at early anchored.0 in
    let ruled = since_ruled t.since (runs_free which t.control) t.control t.count at anchored.0 anchored.1 is.anchored in
    let again = since_again t.since (runs_free which t.control) is.anchored in
    let kept = is_equal _ _ is.control in let reload = is.reload in let control = is.control in let count = is.count in
    (search rules, rw again refl)

-- four are these four
four_are : (timers : List Timer) → length timers ≡ 4 → timer_at timers 0 ∷ timer_at timers 1 ∷ timer_at timers 2 ∷ timer_at timers 3 ∷ [] ≡ timers
four_are [] h = absurd (omega (arith, h))
four_are (a ∷ []) h = absurd (omega (arith, h))
four_are (a ∷ b ∷ []) h = absurd (omega (arith, h))
four_are (a ∷ b ∷ c ∷ []) h = absurd (omega (arith, h))
four_are (a ∷ b ∷ c ∷ d ∷ []) h = refl
four_are (a ∷ b ∷ c ∷ d ∷ e ∷ rest) h = absurd (omega (arith, h))

pub timers_stand : (at : ℕ) (timers : List Timer) → at ≤ 2 ^ 56 → AreTimers timers → ((which : ℕ) → which < 4 → IsAnchoredAt at (timer_at timers which))
    → StandsFor timers_format at timers
unfolding timers_format
timers_stand at timers early are anchored =
    let stands : (which : ℕ) → which < 4 → StandsFor (timer_format which) at (timer_at timers which) =
    λ which l. timer_stands which at (timer_at timers which) early (are.each which l) (anchored which l) in
    ((stands 0 (omega arith), (stands 1 (omega arith), (stands 2 (omega arith), (stands 3 (omega arith), tt)))), four_are timers are.four)

bytes_by : (proc : Proc) (asked : ℕ → ℕ → Bool) (before : List ℕ) (i : IrqState)
    → bytes_written (irq_format_by proc asked) before i ≡ bytes_written (irq_format proc) before i
unfolding irq_format_by
bytes_by proc asked before i = refl

levels : (proc : Proc) (before : List ℕ) (i : IrqState) → bytes_written (irq_format proc) before i ≡ bytes_written (irq_format proc) before (irq_levelled i false)
unfolding irq_format_by
levels proc before i = rw (events_twice i.if_) refl

pub irqs_saved : IrqsAreSaved
irqs_saved = record {
  back = λ proc at i is kept low. round_trips (irq_format proc) at i (irq_stands proc (λ ie flags. true) at i is kept low refl);
  back_by = λ proc asked at i is kept low holds. round_trips (irq_format_by proc asked) at i (irq_stands proc asked at i is kept low holds);
  level = levels;
  same_bytes = bytes_by;
  spelling = λ proc at. one_spelling (irq_format proc) at (irq_exact proc (λ ie flags. true) at);
  spelling_by = λ proc asked at. one_spelling (irq_format_by proc asked) at (irq_exact proc asked at);
}

pub timers_saved : TimersAreSaved
timers_saved = record {
  back = λ at timers early are anchored. round_trips timers_format at timers (timers_stand at timers early are anchored);
  spelling = λ at. one_spelling timers_format at (timers_exact at);
}
