use Rattle.std.specs.Prelude.{ℕ, ◌≡◌, ◌≢◌, ◌<◌, ◌+◌, ◌-◌, ◌*◌, ◌/◌, ◌%◌, ◌^◌, ◌==◌, ◌&&◌, ◌||◌, ◌⊎◌, not, if◌then◌else◌, Bool, true, false, bit_and, List, [], ◌∷◌, length, slice_index_or, slice_set, Option, Some, None, is_some}
use Rattle.ds_base.specs.Bits.{bit, bits}
use Rattle.ds_base.specs.Interrupts.{interrupt_bit}
use Rattle.ds_base.specs.Schedules.{IsEarly, IsLater}
use Rattle.ds_base.specs.declared.ticks.Tick.{Tick}
use Rattle.ds_base.specs.declared.interrupts.Interrupt.{Interrupt}
use Rattle.ds_timers.specs.declared.timers.Timer.{Timer}
use Rattle.ds_base.specs.declared.interrupts.Interrupt.TheVariants.{Timer0, Timer1, Timer2, Timer3}

-- A timer has its control and reload as they are kept, and its counter (GBATEK, "DS Timers", which sends to "GBA Timers"). One that counts time has
-- an anchor, the tick `since` at which its counter was `count`; any other has none, and its counter is `count`.

-- what a control keeps: the prescaler in bits 0 and 1, count-up in 2, interrupt in 6, start in 7 (GBATEK, "GBA Timers", TMxCNT_H)
abbrev pub kept_control : ℕ → ℕ
kept_control value = bit_and value 0xC7

-- a timer's pace, the ticks of one count: 1, 64, 256 or 1,024 bus clocks by the prescaler (GBATEK, "GBA Timers", TMxCNT_H bits 0 and 1,
-- and "DS Timers": the timers' clock is the bus clock), each of 2 ticks
abbrev pub pace : ℕ → ℕ
pace control =
    let prescaler = bits 0 2 control in
    if prescaler == 0 then 2 else (if prescaler == 1 then 128 else (if prescaler == 2 then 512 else 2048))

-- it is started (GBATEK, "GBA Timers", TMxCNT_H bit 7)
abbrev pub runs : ℕ → Bool
runs control = bit 7 control

-- its overflow raises an interrupt (TMxCNT_H bit 6)
abbrev pub raises : ℕ → Bool
raises control = bit 6 control

-- it counts the overflows of the timer before it; timer 0 has none before it (TMxCNT_H bit 2)
abbrev pub counts_up : ℕ → ℕ → Bool
counts_up which control = not (which == 0) && bit 2 control

-- it counts time
abbrev pub runs_free : ℕ → ℕ → Bool
runs_free which control = runs control && not (counts_up which control)

-- the timers at boot: all 0 (our choice)
abbrev pub timer_at_boot : Timer
timer_at_boot = record { control = 0; reload = 0; count = 0; since = None }

abbrev pub timers_at_boot : List Timer
timers_at_boot = timer_at_boot ∷ timer_at_boot ∷ timer_at_boot ∷ timer_at_boot ∷ []

abbrev pub timer_at : List Timer → ℕ → Timer
timer_at timers which = slice_index_or timers which timer_at_boot

-- the counter at a tick, a number of 16 bits: one more at each whole pace since the anchor (GBATEK, "GBA Timers", TMxCNT_L: the counter
-- counts up; that it is reckoned from an anchor is our choice of form). At its due tick its overflow starts it again
abbrev pub counted : Option Tick → ℕ → ℕ → Tick → ℕ
counted None count ticks now = count
counted (Some since) count ticks now = (count + (now.0 - since.0) / ticks) % 2 ^ 16

abbrev pub counter_of : Timer → Tick → ℕ
counter_of t now = counted t.since t.count (pace t.control) now

-- when a timer overflows, in ticks: its counter would be 65,536 then; a timer with no anchor is never due (GBATEK, "GBA Timers")
abbrev pub full : Option Tick → ℕ → ℕ → Option Tick
full None count ticks = None
full (Some since) count ticks = Some (record { 0 = since.0 + (65536 - count) * ticks })

abbrev pub timer_due : Timer → Option Tick
timer_due t = full t.since t.count (pace t.control)

-- what holds of each of the four timers at every time: its control has the kept bits alone, its other numbers have 16 bits, and it has an
-- anchor exactly where it counts time
pub record IsTimer (which : ℕ) (t : Timer) : Type 0 where
  pub control : kept_control t.control ≡ t.control
  pub reload : t.reload < 2 ^ 16
  pub count : t.count < 2 ^ 16
  pub anchored : is_some t.since ≡ runs_free which t.control

pub record AreTimers (timers : List Timer) : Type 0 where
  pub four : length timers ≡ 4
  pub each : (which : ℕ) → which < 4 → IsTimer which (timer_at timers which)

-- each anchor is a tick that callers may hand in, so that the sums of ticks in the code stay in 64 bits (our choice of form)
abbrev pub AreEarly : List Timer → Type 0
AreEarly timers = (which : ℕ) → which < 4 → IsEarly (timer_at timers which).since

-- what happens to timer `which` at a tick makes it due later than that tick or not at all, and no other timer due otherwise than before
pub record SchedulesOne (which : ℕ) (now : Tick) (old new : List Timer) : Type 0 where
  pub later : IsLater now (timer_due (timer_at new which))
  pub others : (other : ℕ) → other < 4 → other ≢ which → timer_due (timer_at new other) ≡ timer_due (timer_at old other)

-- From a tick on a timer counts from a number: its counter is that number and one more for each whole pace since then, and it overflows when
-- the counts that are left to 65,536 are over.
pub record CountsFrom (t : Timer) (number : ℕ) (start : Tick) : Type 0 where
  pub counter : (at : Tick) → counter_of t at ≡ (number + (at.0 - start.0) / pace t.control) % 2 ^ 16
  pub overflow : timer_due t ≡ Some (record { 0 = start.0 + (65536 - number) * pace t.control })

-- a reload is written; the counter stays (GBATEK, "GBA Timers", TMxCNT_L)
abbrev pub reload_set : List Timer → ℕ → ℕ → List Timer
reload_set timers which value = slice_set timers which (record (timer_at timers which) { reload = value })

-- a write of a control starts the timer: bit 7 goes from 0 to 1
abbrev pub is_start : ℕ → ℕ → Bool
is_start old new = runs new && not (runs old)

-- A control is written at a tick, with these kept bits (GBATEK, "GBA Timers", TMxCNT_H; that a running timer whose pace changes counts
-- the new pace from that tick on, and goes on where its pace stays, is our choice). Four cases, of which one applies:
pub data ChangesControl (which : ℕ) (old : Timer) (control : ℕ) (now : Tick) (new : Timer) : Type 0 where
  -- it starts: its counter is the reload, and counts from this tick on where it counts time
  starts : is_start old.control control ≡ true
      → new ≡ record old { control = control; count = old.reload; since = if runs_free which control then Some now else None }
      → ChangesControl which old control now new
  -- it counts time on at its pace: it goes on by the anchor that it has
  keeps_anchor : runs_free which old.control ≡ true → runs_free which control ≡ true → pace control ≡ pace old.control
      → new ≡ record old { control = control }
      → ChangesControl which old control now new
  -- it ran, and counts time at another pace or counted up before: it takes its counter at this tick as a new anchor
  takes_anchor : is_start old.control control ≡ false → runs_free which control ≡ true
      → (runs_free which old.control ≡ false) ⊎ (pace control ≢ pace old.control)
      → new ≡ record old { control = control; count = counter_of old now; since = Some now }
      → ChangesControl which old control now new
  -- it stops or is stopped, or it ran and counts up: it holds its count
  holds_count : is_start old.control control ≡ false → runs_free which control ≡ false
      → new ≡ record old { control = control; count = counter_of old now; since = None }
      → ChangesControl which old control now new

-- the same as a function, for those who compute with it
abbrev pub controlled : ℕ → Timer → ℕ → Tick → Timer
controlled which t control now =
    if is_start t.control control then record t { control = control; count = t.reload; since = if runs_free which control then Some now else None }
    else (if runs_free which control then (
    if runs_free which t.control && (pace control == pace t.control) then record t { control = control }
    else record t { control = control; count = counter_of t now; since = Some now }
    ) else record t { control = control; count = counter_of t now; since = None })

abbrev pub control_set : List Timer → ℕ → ℕ → Tick → List Timer
control_set timers which value now = slice_set timers which (controlled which (timer_at timers which) (kept_control value) now)

-- An event in which timer `which` overflows. A timer counts up in it where it runs, counts up, and the one before it overflows; it overflows in
-- turn where that is its 65,536th count (GBATEK, "GBA Timers", TMxCNT_H bit 2; that all of it is one event is our choice).
abbrev pub carries : ℕ → Bool → Timer → Bool
carries i before t = before && runs t.control && counts_up i t.control

abbrev pub overflows : ℕ → ℕ → Bool → Timer → Bool
overflows which i before t = (i == which) || (carries i before t && t.count == 65535)

-- one timer after it: an overflow starts it again from the reload, where it counts time with an anchor at its due tick
abbrev pub after_overflow : ℕ → ℕ → Bool → Timer → Timer
after_overflow which i before t =
    if i == which then record t { count = t.reload; since = timer_due t }
    else (if carries i before t then record t { count = (if t.count == 65535 then t.reload else t.count + 1) }
    else t)

-- each timer's interrupt (GBATEK, "DS Interrupts")
abbrev pub timer_interrupt : ℕ → Interrupt
timer_interrupt i = if i == 0 then Timer0 else (if i == 1 then Timer1 else (if i == 2 then Timer2 else Timer3))

-- the bit of IF that it raises where it overflows and its own bit 6 is set
abbrev pub overflow_bit : ℕ → ℕ → Bool → Timer → ℕ
overflow_bit which i before t = if overflows which i before t && raises t.control then interrupt_bit (timer_interrupt i) else 0

-- all four after it, and the bits of IF that they raise
pub record Overflow : Type 0 where
  pub timers : List Timer
  pub bits : ℕ

-- each timer in its order, by whether the one before it overflows (GBATEK, "GBA Timers", TMxCNT_H bit 2)
abbrev pub overflow_of : List Timer → ℕ → Overflow
overflow_of timers which =
    let zero = overflows which 0 false (timer_at timers 0) in
    let one = overflows which 1 zero (timer_at timers 1) in
    let two = overflows which 2 one (timer_at timers 2) in
    record {
      timers = after_overflow which 0 false (timer_at timers 0) ∷ after_overflow which 1 zero (timer_at timers 1)
          ∷ after_overflow which 2 one (timer_at timers 2) ∷ after_overflow which 3 two (timer_at timers 3) ∷ [];
      bits = overflow_bit which 0 false (timer_at timers 0) + overflow_bit which 1 zero (timer_at timers 1)
          + overflow_bit which 2 one (timer_at timers 2) + overflow_bit which 3 two (timer_at timers 3);
    }
