use Rattle.std.specs.Prelude.{ℕ, ◌<◌, ◌≡◌, ◌≤◌, ◌+◌, ◌^◌, ◌==◌, ◌&&◌, ◌||◌, not, nat_le, if◌then◌else◌, Bool, true, false, List, [], ◌∷◌, Option, Some, None, IfSome}
use Rattle.ds_base.specs.Schedules.{due_number, numbered_due}
use Rattle.ds_base.specs.declared.processors.Proc.{Proc}
use Rattle.ds_base.specs.declared.processors.Proc.TheVariants.{Nine, Seven}
use Rattle.ds_dma.specs.declared.channels.Channel.{Channel}
use Rattle.ds_dma.specs.Channels.{is_running}
use Rattle.ds_dma.specs.Controls.{channel_control_mask, greatest_count, is_enabled, most_burst}
use Rattle.ds_dma.specs.States.{DmaState, IsDma, any_runs, channel_at, dma_due, last_tick, most_waits}
use Rattle.ds_dma.specs.declared.channels.LastUnit.{LastUnit}
use Rattle.ds_dma.specs.declared.dma.DmaDue.{DmaDue}
use Rattle.ds_state.specs.Formats.{Format, number_code, flag_code, done, ◌>>=◌, one_field, its, earlier_tick, keeps_mask, tick_or_0, tick_where, used_where, bytes_written}
use Rattle.ds_state.specs.FormatLaws.{OneSpelling, RoundTrips}

-- The channels in bytes (our choice of form).

-- an enabled channel has from 1 unit to its greatest count and one more left; any other has none
abbrev pub units_left : Proc → ℕ → Bool → ℕ → ℕ → Bool
units_left proc which enabled at units = if enabled then nat_le 1 units && nat_le units (greatest_count proc which + 1) else units == 0

-- and in a burst no more than these, and than one may have
abbrev pub burst_left : Bool → ℕ → ℕ → ℕ → Bool
burst_left enabled units at burst = not enabled || (nat_le burst units && nat_le burst most_burst)

-- only an enabled channel runs, and one that doesn't run has no burst
abbrev pub runs_by : Bool → ℕ → ℕ → Bool → Bool
runs_by enabled burst at running = if running then enabled else burst == 0

-- a channel, by what else is asked of whether it runs
unfoldable pub channel_format_by : Proc → ℕ → (Bool → Bool) → Format Channel Channel
channel_format_by proc which asked = do
  sad ← one_field (number_code 4) (λ c. c.sad) (keeps_mask 0x0FFFFFFF)
  dad ← one_field (number_code 4) (λ c. c.dad) (keeps_mask 0x0FFFFFFF)
  cnt ← one_field (number_code 4) (λ c. c.cnt) (keeps_mask (channel_control_mask proc which))
  from ← one_field (number_code 4) (λ c. c.from) (used_where (is_enabled cnt))
  to ← one_field (number_code 4) (λ c. c.to) (used_where (is_enabled cnt))
  remaining ← one_field (number_code 4) (λ c. c.remaining) (units_left proc which (is_enabled cnt))
  burst ← one_field (number_code 4) (λ c. c.burst) (burst_left (is_enabled cnt) remaining)
  running ← one_field flag_code is_running (λ at running. asked running && runs_by (is_enabled cnt) burst at running)
  trigger ← one_field (number_code 8) (λ c. tick_or_0 (due_number c.trigger)) (earlier_tick running)
  done (record {
    sad = sad;
    dad = dad;
    cnt = cnt;
    from = from;
    to = to;
    remaining = remaining;
    trigger = numbered_due (tick_where running trigger);
    burst = burst;
  })

abbrev pub channel_format : Proc → ℕ → Format Channel Channel
channel_format proc which = channel_format_by proc which (λ running. true)

-- the waits of the last unit, 0 where there was none
abbrev pub last_waits : Option LastUnit → ℕ
last_waits None = 0
last_waits (Some last) = last.waits

-- a last unit whose tick is 0 is none
abbrev pub waits_by : ℕ → ℕ → ℕ → Bool
waits_by tick at waits = if tick == 0 then waits == 0 else nat_le waits most_waits

-- A channel that is due comes no earlier than the state. A stall may hold one of ARM9's past its tick.
abbrev pub comes_by : Proc → ℕ → Option DmaDue → Bool
comes_by Nine at due = true
comes_by Seven at None = true
comes_by Seven at (Some due) = nat_le at due.tick.0

abbrev pub numbered_last : ℕ → ℕ → Option LastUnit
numbered_last tick waits = if tick == 0 then None else Some (record { tick = record { 0 = tick }; waits = waits })

abbrev pub last_by : Proc → List Channel → ℕ → ℕ → ℕ → Bool
last_by proc channels tick at waits =
    comes_by proc at (dma_due (record { proc = proc; channels = channels; last = numbered_last tick waits })) && waits_by tick at waits

-- what is asked of whether any runs, asked of the last one, by whether one before it runs
abbrev pub asked_last : (Bool → Bool) → Bool → Bool → Bool
asked_last asked before running = asked (before || running)

-- The four channels of a processor, by what else is asked of whether any of them runs, which is told where the last one says whether it does
unfoldable pub dma_format_by : Proc → (Bool → Bool) → Format DmaState DmaState
dma_format_by proc asked = do
  zero ← its (channel_format proc 0) (λ s. channel_at s.channels 0)
  one ← its (channel_format proc 1) (λ s. channel_at s.channels 1)
  two ← its (channel_format proc 2) (λ s. channel_at s.channels 2)
  three ← its (channel_format_by proc 3 (asked_last asked (is_running zero || is_running one || is_running two))) (λ s. channel_at s.channels 3)
  tick ← one_field (number_code 8) (λ s. tick_or_0 (due_number (last_tick s.last))) (earlier_tick true)
  waits ← one_field (number_code 4) (λ s. last_waits s.last) (last_by proc (zero ∷ one ∷ two ∷ three ∷ []) tick)
  done (record { proc = proc; channels = zero ∷ one ∷ two ∷ three ∷ []; last = numbered_last tick waits })

-- the same where nothing else is asked
abbrev pub dma_format : Proc → Format DmaState DmaState
dma_format proc = dma_format_by proc (λ runs. true)

-- where a processor is late, since its own next step is due before the tick of the state, a channel of it runs, as no other can hold it
abbrev pub late_runs_by : Bool → Bool → Bool
late_runs_by late runs = not late || runs

-- the channels at a tick: no trigger is later, and the last unit isn't later, nor at tick 0
pub record AreTriggeredBy (at : ℕ) (s : DmaState) : Type 0 where
  pub trigger : (which : ℕ) → which < 4 → IfSome (due_number (channel_at s.channels which).trigger) (λ trigger. trigger ≤ at)
  pub last : IfSome (due_number (last_tick s.last)) (λ last. (1 ≤ last) × (last ≤ at))

-- and of ARM7 none is due earlier
abbrev pub ComesNoEarlier : ℕ → DmaState → Type 0
ComesNoEarlier at s = s.proc ≡ Seven → IfSome (dma_due s) (λ due. at ≤ due.tick.0)

-- Their bytes are read as they were where what else is asked holds, and bytes that are read are theirs. The bytes are the same whatever is asked.
pub record DmasAreSaved : Type 0 where
  pub back : (at : ℕ) (s : DmaState) → at ≤ 2 ^ 56 → IsDma s → AreTriggeredBy at s → ComesNoEarlier at s → RoundTrips (dma_format s.proc) at s
  pub back_by : (asked : Bool → Bool) (at : ℕ) (s : DmaState) → at ≤ 2 ^ 56 → IsDma s → AreTriggeredBy at s → ComesNoEarlier at s
      → asked (any_runs s.channels) ≡ true → RoundTrips (dma_format_by s.proc asked) at s
  pub same_bytes : (proc : Proc) (asked : Bool → Bool) (before : List ℕ) (s : DmaState)
      → bytes_written (dma_format_by proc asked) before s ≡ bytes_written (dma_format proc) before s
  pub spelling : (proc : Proc) (at : ℕ) → OneSpelling (dma_format proc) at
  pub spelling_by : (proc : Proc) (asked : Bool → Bool) (at : ℕ) → OneSpelling (dma_format_by proc asked) at
