use Rattle.std.specs.Prelude.{ℕ, ◌==◌, ◌&&◌, ◌||◌, not, Bool, if◌then◌else◌, List, Option, None, is_some}
use Rattle.ds_base.specs.declared.processors.Proc.TheVariants.{Nine}
use Rattle.ds_base.specs.declared.ticks.Due.{Due}
use Rattle.ds_base.specs.declared.ticks.Tick.{Tick}
use Rattle.ds_dma.specs.Controls.{is_enabled, waits_for}
use Rattle.ds_dma.specs.States.{DmaState, channel_at}
use Rattle.ds_dma.specs.declared.controls.Cause.TheVariants as causes
use Rattle.ds_runs.specs.declared.actors.Actor as actor
use Rattle.ds_runs.specs.declared.actors.Actor.TheVariants.{Geometry}
use Rattle.ds_runs.specs.OrderLaws.{first_from}
use Rattle.ds_ports.specs.Dues.{dues_with, io_due}
use Rattle.ds_ports.specs.Io.{IoState}
use Rattle.gx_fifo.specs.GxStates.{is_stalled}

-- Geometry may lag while nobody hears of what it does: it is quiet then, and all others that are due act. Our choice.

-- a word of control enables a channel of ARM9's with the start of the geometry FIFO, whether or not the channel runs (GBATEK, "DS DMA Transfers")
abbrev pub is_armed : ℕ → Bool
is_armed control = is_enabled control && waits_for Nine causes.Geometry control

abbrev pub any_armed : DmaState → Bool
any_armed dma =
    is_armed (channel_at dma.channels 0).cnt || is_armed (channel_at dma.channels 1).cnt || is_armed (channel_at dma.channels 2).cnt
    || is_armed (channel_at dma.channels 3).cnt

-- Nobody hears of what geometry does, whether or not it is due: GXSTAT's selector is 0, so that no interrupt follows how much waits; it starts no
-- channel of ARM9's; and no stall holds ARM9 (GBATEK, "GXSTAT", "GXFIFO").
abbrev pub is_silent : IoState → Bool
is_silent u = (u.gx.selector == 0) && (not (any_armed u.nine.dma) && not (is_stalled u.gx))

-- geometry is due, and nobody hears of what it does
abbrev pub is_quiet : IoState → Bool
is_quiet u = is_some u.gx.due && is_silent u

-- when an actor behind the ports is due that acts: all that are due do, but quiet geometry
abbrev pub acting_io_due : actor.Actor → IoState → Option Tick
acting_io_due Geometry u = if is_quiet u then None else u.gx.due
acting_io_due a u = io_due a u

-- those of ranks 1 to 21, in their order
abbrev pub acting_io_dues : IoState → List (Option Tick)
acting_io_dues u = dues_with (acting_io_due Geometry u) u

-- the first of them, which is kept: the display is always due; it doesn't unfold by itself
unfoldable pub first_acting_io_due : IoState → Option Due
first_acting_io_due u = first_from 1 (acting_io_dues u)
