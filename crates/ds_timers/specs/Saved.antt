use Rattle.std.specs.Prelude.{ℕ, ◌≡◌, ◌<◌, ◌≤◌, ◌+◌, ◌-◌, ◌*◌, ◌^◌, ◌==◌, ◌&&◌, not, nat_le, if◌then◌else◌, Bool, true, false, bit_and, List, [], ◌∷◌, Option, Some, None, IfSome}
use Rattle.std.specs.Int.{bit_not, w32}
use Rattle.ds_base.specs.declared.processors.Proc.{Proc}
use Rattle.ds_base.specs.declared.ticks.Tick.{Tick}
use Rattle.ds_state.specs.Formats.{Format, number_code, flag_code, done, ◌>>=◌, one_field, its, any, keeps_mask, bytes_written}
use Rattle.ds_state.specs.FormatLaws.{OneSpelling, RoundTrips}
use Rattle.ds_timers.specs.Irqs.{IrqState, IsIrq, events, interrupts_of, irq_levelled, level}
use Rattle.ds_timers.specs.declared.timers.Timer.{Timer}
use Rattle.ds_timers.specs.Timing.{AreTimers, pace, runs_free, timer_at, timer_due}

-- The interrupt words and the timers in bytes (our choice of form).

-- a processor that sleeps has no bit in IE and IF both: one would wake it
abbrev pub sleeps_by : Bool → ℕ → ℕ → Bool
sleeps_by asleep ie flags = not (asleep && not (bit_and ie flags == 0))

-- IME, IE and IF of a processor, by what else is asked of IE and IF, which is told at IF. The geometry FIFO's bit of IF is 0, whatever it is in the
-- state: it tells that FIFO's condition, by which it is made anew
unfoldable pub irq_format_by : Proc → (ℕ → ℕ → Bool) → Format IrqState IrqState
irq_format_by proc asked = do
  ime ← one_field flag_code (λ i. i.ime) any
  ie ← one_field (number_code 4) (λ i. i.ie) (keeps_mask (interrupts_of proc))
  if_ ← one_field (number_code 4) (λ i. events i.if_) (λ at flags. asked ie flags && keeps_mask (bit_not w32 level) at flags)
  done (record { ime = ime; ie = ie; if_ = if_ })

-- the same where nothing else is asked
abbrev pub irq_format : Proc → Format IrqState IrqState
irq_format proc = irq_format_by proc (λ ie flags. true)

-- the tick of a timer's anchor, 0 where it has none
abbrev pub anchor_number : Option Tick → ℕ
anchor_number None = 0
anchor_number (Some since) = since.0

abbrev pub numbered_anchor : ℕ → ℕ → ℕ → Option Tick
numbered_anchor which control number = if runs_free which control then Some (record { 0 = number }) else None

-- a timer that counts time has its anchor at the tick of the state or before it, and is due from that tick on; any other has none
abbrev pub anchors_by : Bool → ℕ → ℕ → ℕ → ℕ → Bool
anchors_by free control count at number = if free then nat_le number at && nat_le at (number + (65536 - count) * pace control) else number == 0

abbrev pub anchors : ℕ → ℕ → ℕ → ℕ → ℕ → Bool
anchors which control count at number = anchors_by (runs_free which control) control count at number

unfoldable pub timer_format : ℕ → Format Timer Timer
timer_format which = do
  reload ← one_field (number_code 2) (λ t. t.reload) any
  control ← one_field (number_code 1) (λ t. t.control) (keeps_mask 0xC7)
  count ← one_field (number_code 2) (λ t. t.count) any
  since ← one_field (number_code 8) (λ t. anchor_number t.since) (anchors which control count)
  done (record { control = control; reload = reload; count = count; since = numbered_anchor which control since })

unfoldable pub timers_format : Format (List Timer) (List Timer)
timers_format = do
  zero ← its (timer_format 0) (λ timers. timer_at timers 0)
  one ← its (timer_format 1) (λ timers. timer_at timers 1)
  two ← its (timer_format 2) (λ timers. timer_at timers 2)
  three ← its (timer_format 3) (λ timers. timer_at timers 3)
  done (zero ∷ one ∷ two ∷ three ∷ [])

-- a timer at a tick: its anchor isn't later, and it isn't due earlier
abbrev pub IsAnchoredAt : ℕ → Timer → Type 0
IsAnchoredAt at t = IfSome t.since (λ since. since.0 ≤ at) × IfSome (timer_due t) (λ due. at ≤ due.0)

-- Their bytes are read as they were, and bytes that are read are theirs. Interrupt words are read as they were but for the geometry FIFO's bit,
-- where what else is asked of them holds; and their bytes are the same whatever is asked.
pub record IrqsAreSaved : Type 0 where
  pub back : (proc : Proc) (at : ℕ) (i : IrqState) → IsIrq i → bit_and i.ie (interrupts_of proc) ≡ i.ie → events i.if_ ≡ i.if_
      → RoundTrips (irq_format proc) at i
  pub back_by : (proc : Proc) (asked : ℕ → ℕ → Bool) (at : ℕ) (i : IrqState) → IsIrq i → bit_and i.ie (interrupts_of proc) ≡ i.ie
      → events i.if_ ≡ i.if_ → asked i.ie i.if_ ≡ true → RoundTrips (irq_format_by proc asked) at i
  pub level : (proc : Proc) (before : List ℕ) (i : IrqState)
      → bytes_written (irq_format proc) before i ≡ bytes_written (irq_format proc) before (irq_levelled i false)
  pub same_bytes : (proc : Proc) (asked : ℕ → ℕ → Bool) (before : List ℕ) (i : IrqState)
      → bytes_written (irq_format_by proc asked) before i ≡ bytes_written (irq_format proc) before i
  pub spelling : (proc : Proc) (at : ℕ) → OneSpelling (irq_format proc) at
  pub spelling_by : (proc : Proc) (asked : ℕ → ℕ → Bool) (at : ℕ) → OneSpelling (irq_format_by proc asked) at

pub record TimersAreSaved : Type 0 where
  pub back : (at : ℕ) (timers : List Timer) → at ≤ 2 ^ 56 → AreTimers timers
      → ((which : ℕ) → which < 4 → IsAnchoredAt at (timer_at timers which)) → RoundTrips timers_format at timers
  pub spelling : (at : ℕ) → OneSpelling timers_format at
