use Rattle.std.specs.Prelude.{ℕ, ◌≡◌, ◌<◌, ◌≤◌, ◌==◌, ◌||◌, if◌then◌else◌, Bool, true, false, List, [], ◌∷◌, length, map, slice_index_or, slice_set, Option, Some, None, is_some, option_map}
use Rattle.ds_base.specs.Schedules.{IsEarly, IsLater}
use Rattle.ds_base.specs.declared.left_out.Stop.{Stop}
use Rattle.ds_base.specs.declared.processors.Proc.{Proc}
use Rattle.ds_base.specs.declared.ticks.Tick.{Tick}
use Rattle.ds_dma.specs.declared.channels.LastUnit.{LastUnit}
use Rattle.ds_dma.specs.declared.controls.Cause.{Cause}
use Rattle.ds_dma.specs.declared.controls.Cause.TheVariants.{Geometry}
use Rattle.ds_dma.specs.declared.controls.DmaPort.{DmaPort}
use Rattle.ds_dma.specs.declared.dma.DmaDue.{DmaDue}
use Rattle.ds_dma.specs.declared.channels.Channel.{Channel}
use Rattle.ds_dma.specs.Channels.{IsChannel, channel_at_boot, is_running, channel_set, channel_refusal, is_triggered, triggered, after_unit, taken_bit, ready}

-- the four channels of a processor, and the tick and the waits of its last unit, if there was one (GBATEK, "DS DMA Transfers"; the last unit is our
-- choice)
pub record DmaState : Type 0 where
  pub proc : Proc
  pub channels : List Channel
  pub last : Option LastUnit

abbrev pub channel_at : List Channel → ℕ → Channel
channel_at channels which = slice_index_or channels which channel_at_boot

-- a unit's two waits are at most 16 ticks together (our choice: a wait is at most 8 ticks)
abbrev pub most_waits : ℕ
most_waits = 16

abbrev pub WaitsBriefly : Option LastUnit → Type 0
WaitsBriefly None = Unit {0}
WaitsBriefly (Some last) = last.waits ≤ most_waits

-- what holds at every time
pub record IsDma (s : DmaState) : Type 0 where
  pub four : length s.channels ≡ 4
  pub each : (which : ℕ) → which < 4 → IsChannel s.proc which (channel_at s.channels which)
  pub last : WaitsBriefly s.last

-- the tick of the last unit, if there was one
abbrev pub last_tick : Option LastUnit → Option Tick
last_tick None = None
last_tick (Some last) = Some last.tick

-- each trigger and the last unit's tick are ticks that callers may hand in, so that the sums of ticks in the code stay in 64 bits (our choice of
-- form)
pub record HasEarlyTicks (s : DmaState) : Type 0 where
  pub trigger : (which : ℕ) → which < 4 → IsEarly (channel_at s.channels which).trigger
  pub last : IsEarly (last_tick s.last)

-- all is 0 at boot (our choice)
abbrev pub dma_at_boot : Proc → DmaState
dma_at_boot proc = record { proc = proc; channels = channel_at_boot ∷ channel_at_boot ∷ channel_at_boot ∷ channel_at_boot ∷ []; last = None }

-- a whole word is written to a port of a channel, at a tick; where that is refused, all stays (our choice)
abbrev pub channel_written : DmaState → ℕ → DmaPort → ℕ → Tick → DmaState
channel_written s which port value now =
    if is_some (channel_refusal s.proc which port value (channel_at s.channels which)) then s
    else record s { channels = slice_set s.channels which (channel_set s.proc which port value now (channel_at s.channels which)) }

-- an event at a tick triggers the channels that wait for it
abbrev pub dma_triggered : DmaState → Cause → Tick → DmaState
dma_triggered s cause now = record s { channels = map (triggered s.proc cause now) s.channels }

-- a channel waits for the geometry FIFO: it is enabled with that start, and doesn't run
abbrev pub awaits_geometry : DmaState → Bool
awaits_geometry s =
    is_triggered s.proc Geometry (channel_at s.channels 0) || is_triggered s.proc Geometry (channel_at s.channels 1)
    || is_triggered s.proc Geometry (channel_at s.channels 2) || is_triggered s.proc Geometry (channel_at s.channels 3)

-- a channel runs, and then the processor isn't due
abbrev pub any_runs : List Channel → Bool
any_runs channels =
    is_running (channel_at channels 0) || is_running (channel_at channels 1)
    || is_running (channel_at channels 2) || is_running (channel_at channels 3)

-- the running channel with the least number (our choice, by GBATEK, "GBA DMA Transfers": channel 0 has the highest priority); 3 where none runs
abbrev pub least_running : List Channel → ℕ
least_running channels =
    if is_running (channel_at channels 0) then 0
    else (if is_running (channel_at channels 1) then 1
    else (if is_running (channel_at channels 2) then 2 else 3))

-- what that is, of a channel that runs
pub record IsLeastRunning (channels : List Channel) (which : ℕ) : Type 0 where
  pub below : which < 4
  pub there : is_running (channel_at channels which) ≡ true
  pub least : (lower : ℕ) → lower < which → is_running (channel_at channels lower) ≡ false

-- when a channel is due: of those that run only the one with the least number is
abbrev pub channel_due : DmaState → ℕ → Option Tick
channel_due s which = if which == least_running s.channels then ready s.last (channel_at s.channels which) else None

-- what is due of the whole: that channel, and when
abbrev pub due_with : ℕ → Option Tick → Option DmaDue
due_with which due = option_map (λ (tick : Tick). (let found : DmaDue = record { tick = tick; channel = which } in found)) due

abbrev pub dma_due : DmaState → Option DmaDue
dma_due s = due_with (least_running s.channels) (ready s.last (channel_at s.channels (least_running s.channels)))

-- each channel that runs is due later than a tick once it is the least one that runs
abbrev pub AreReadyLater : Tick → DmaState → Type 0
AreReadyLater now s = (which : ℕ) → which < 4 → IsLater now (ready s.last (channel_at s.channels which))

-- the channel that is due
abbrev pub due_channel : DmaState → Channel
due_channel s = channel_at s.channels (least_running s.channels)

-- its first unit is moved at a tick, with so many ticks of waits
abbrev pub dma_finished : DmaState → Tick → ℕ → DmaState
dma_finished s now waits = record s {
  channels = slice_set s.channels (least_running s.channels)
      (after_unit s.proc (least_running s.channels) (due_channel s));
  last = Some (record { tick = now; waits = waits });
}

-- the bits of IF that this raises
abbrev pub finished_bits : DmaState → ℕ
finished_bits s = taken_bit (least_running s.channels) (due_channel s)
