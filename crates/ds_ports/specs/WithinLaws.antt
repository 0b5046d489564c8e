use Rattle.std.specs.Prelude.{ℕ, ◌≡◌, ◌<◌, ◌≤◌, ◌+◌, ◌^◌, bit_and, Option, Some, None}
use Rattle.ds_base.specs.declared.processors.Proc.{Proc}
use Rattle.ds_base.specs.declared.processors.Proc.TheVariants.{Seven}
use Rattle.ds_base.specs.declared.ticks.Tick.{Tick}
use Rattle.ds_card.specs.Cards.{card_due}
use Rattle.ds_dma.specs.States.{DmaState, channel_at, last_tick}
use Rattle.ds_timers.specs.Irqs.{events, interrupts_of}
use Rattle.ds_timers.specs.Timing.{timer_at}
use Rattle.gx_geometry.specs.States.{no_swap}
use Rattle.video2d.specs.VideoLaws.{IsVideo}
use Rattle.video2d.specs.Scans.{scan_before}
use Rattle.ds_ports.specs.Io.{IoState, io_of}
use Rattle.ds_ports.specs.ProcessorIo.{ProcessorIoState, kept_keycnt}

-- The ticks that the units keep, where all that happened to them was before a tick: those of earlier steps are that tick at most, and those that are
-- due come soon after it at the latest.

-- a tick, if there is one, is at most a limit
abbrev pub IsBy : ℕ → Option Tick → Type 0
IsBy limit None = Unit {0}
IsBy limit (Some tick) = tick.0 ≤ limit

-- a due tick, if there is one, is at most 2^32 ticks after a limit
abbrev pub IsSoonBy : ℕ → Option Tick → Type 0
IsSoonBy limit due = IsBy (limit + 2 ^ 32) due

-- a tick of an earlier step, if there is one, is at most a limit, and isn't 0
abbrev pub IsPastBy : ℕ → Option Tick → Type 0
IsPastBy limit None = Unit {0}
IsPastBy limit (Some tick) = (1 ≤ tick.0) × (tick.0 ≤ limit)

-- the channels of a processor: their triggers, and the last unit
pub record ChannelsAreBy (limit : ℕ) (s : DmaState) : Type 0 where
  pub trigger : (which : ℕ) → which < 4 → IsBy limit (channel_at s.channels which).trigger
  pub last : IsPastBy limit (last_tick s.last)

-- what a processor has of its own: the anchors of its timers, and its channels, which are that processor's; its IE and KEYCNT have no bits but those
-- that are kept; and ARM7, which hasn't the geometry FIFO's interrupt, has no such bit in its IF
pub record OwnIsWithinTick (proc : Proc) (limit : ℕ) (own : ProcessorIoState) : Type 0 where
  pub timers : (which : ℕ) → which < 4 → IsBy limit (timer_at own.timers which).since
  pub dma : ChannelsAreBy limit own.dma
  pub is_its : own.dma.proc ≡ proc
  pub ie : bit_and own.irq.ie (interrupts_of proc) ≡ own.irq.ie
  pub keycnt : kept_keycnt own.keycnt ≡ own.keycnt
  pub level : proc ≡ Seven → events own.irq.if_ ≡ own.irq.if_

-- all units: the last swap, which was at no tick 0; and the display, which has the numbers that it can have, and is where it is once all its events
-- that are due below some tick have been
pub record AreWithinTick (limit : ℕ) (u : IoState) : Type 0 where
  pub own : (proc : Proc) → OwnIsWithinTick proc limit (io_of u proc)
  pub divider : IsSoonBy limit u.divider.due
  pub root : IsSoonBy limit u.root.due
  pub gx : IsSoonBy limit u.gx.due
  pub card : IsSoonBy limit (card_due u.card)
  pub released : u.released ≤ limit
  pub swap : u.gx.geometry.last.tick.0 ≤ limit
  pub none : u.gx.geometry.last.tick.0 ≡ 0 → u.gx.geometry.last ≡ no_swap
  pub video : IsVideo u.video
  pub scan : (at : ℕ) × (at ≤ limit) × (u.video.scan ≡ scan_before at)
