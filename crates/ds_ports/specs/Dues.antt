use Rattle.std.specs.Prelude.{ℕ, max, Bool, List, [], ◌∷◌, if◌then◌else◌, Option, Some, None, option_map}
use Rattle.ds_base.specs.declared.processors.Proc.{Proc}
use Rattle.ds_base.specs.declared.processors.Proc.TheVariants.{Nine, Seven}
use Rattle.ds_base.specs.declared.ticks.Due.{Due}
use Rattle.ds_base.specs.declared.ticks.Tick.{Tick}
use Rattle.ds_card.specs.Cards.{card_due}
use Rattle.ds_dma.specs.States.{channel_due}
use Rattle.ds_runs.specs.declared.actors.Actor as actor
use Rattle.ds_runs.specs.declared.actors.Actor.TheVariants.{Video, Timer, Divider, SquareRoot, Geometry, Card, Dma}
use Rattle.ds_runs.specs.OrderLaws.{first_from}
use Rattle.ds_timers.specs.Timing.{timer_at, timer_due}
use Rattle.ds_ports.specs.Io.{IoState, io_of}
use Rattle.gx_fifo.specs.GxStates.{is_stalled}
use Rattle.video2d.specs.Scans.{scan_due_tick}

-- When the units behind the ports are due.

-- a channel of ARM9's isn't due while a stall of geometry holds it, nor before the tick after the one that ended the last stall (GBATEK, "GXFIFO";
-- the tick is our choice)
abbrev pub released_at : ℕ → Option Tick → Option Tick
released_at released due = option_map (λ (tick : Tick). (let later : Tick = record { 0 = max released tick.0 } in later)) due

abbrev pub held_due : Bool → ℕ → Option Tick → Option Tick
held_due held released due = if held then None else released_at released due

abbrev pub dma_due_in : IoState → Proc → ℕ → Option Tick
dma_due_in u Nine channel = held_due (is_stalled u.gx) u.released (channel_due u.nine.dma channel)
dma_due_in u Seven channel = channel_due u.seven.dma channel

-- when an actor behind the ports is due; the key script and the processors stand elsewhere, and are never due here
abbrev pub due_in_io : IoState → actor.Actor → Option Tick
due_in_io u Video = Some (scan_due_tick u.video.scan)
due_in_io u (Timer proc number) = timer_due (timer_at (io_of u proc).timers number)
due_in_io u Divider = u.divider.due
due_in_io u SquareRoot = u.root.due
due_in_io u Geometry = u.gx.due
due_in_io u (Dma proc channel) = dma_due_in u proc channel
due_in_io u Card = card_due u.card
due_in_io u a = None

abbrev pub io_due : actor.Actor → IoState → Option Tick
io_due a u = due_in_io u a

-- those of ranks 1 to 21, in their order, where geometry is due when it is told
abbrev pub dues_with : Option Tick → IoState → List (Option Tick)
dues_with geometry u =
    io_due Video u
    ∷ io_due (Timer Nine 0) u ∷ io_due (Timer Nine 1) u ∷ io_due (Timer Nine 2) u ∷ io_due (Timer Nine 3) u
    ∷ io_due (Timer Seven 0) u ∷ io_due (Timer Seven 1) u ∷ io_due (Timer Seven 2) u ∷ io_due (Timer Seven 3) u
    ∷ io_due Divider u
    ∷ io_due SquareRoot u
    ∷ geometry
    ∷ io_due Card u
    ∷ io_due (Dma Nine 0) u ∷ io_due (Dma Nine 1) u ∷ io_due (Dma Nine 2) u ∷ io_due (Dma Nine 3) u
    ∷ io_due (Dma Seven 0) u ∷ io_due (Dma Seven 1) u ∷ io_due (Dma Seven 2) u ∷ io_due (Dma Seven 3) u
    ∷ []

abbrev pub io_dues : IoState → List (Option Tick)
io_dues u = dues_with (io_due Geometry u) u

-- the first of them: the display is always due; it doesn't unfold by itself
unfoldable pub first_io_due : IoState → Option Due
first_io_due u = first_from 1 (io_dues u)
