use Rattle.std.specs.Prelude.{ℕ, ◌+◌, ◌==◌, ◌&&◌, ◌||◌, not, nat_lt, List, [], ◌∷◌, Bool, false, if◌then◌else◌, Option, Some, None, option_map, unwrap_or}
use Rattle.ds_base.specs.declared.processors.Proc.{Proc}
use Rattle.ds_base.specs.declared.processors.Proc.TheVariants.{Nine, Seven}
use Rattle.ds_base.specs.declared.processors.Raised.{Raised}
use Rattle.ds_base.specs.declared.ticks.Tick.{Tick}
use Rattle.ds_card.specs.Cards.{CardState, card_after_event, card_at_boot, card_due, card_starter, event_raised, event_readies}
use Rattle.ds_dma.specs.declared.controls.Cause.{Cause}
use Rattle.ds_dma.specs.declared.controls.Cause.TheVariants.{VBlank, HBlank}
use Rattle.ds_dma.specs.declared.controls.Cause.TheVariants as causes
use Rattle.ds_dma.specs.States.{awaits_geometry, dma_due, dma_triggered}
use Rattle.ds_dma.specs.declared.dma.DmaDue.{DmaDue}
use Rattle.ds_ipc.specs.Ipcs.{ipc_at_boot}
use Rattle.ds_math.specs.Dividers.{divider_at_boot, division_finished}
use Rattle.ds_math.specs.Roots.{root_at_boot, root_finished}
use Rattle.ds_runs.specs.declared.actors.Actor as actor
use Rattle.ds_runs.specs.declared.actors.Actor.TheVariants.{Timer, Divider, SquareRoot, Geometry, Card}
use Rattle.ds_timers.specs.Irqs.{irq_levelled}
use Rattle.ds_timers.specs.Timing.{overflow_of}
use Rattle.ds_ports.specs.ProcessorIo.{BeforeMove, blocks_processor, ProcessorIoState, processor_io_at_boot, processor_io_moved, processor_io_put_back, processor_io_raised, processor_io_triggered, keys_told}
use Rattle.gx_fifo.specs.GxStates.{GxState, gx_at_boot, gx_finished, gx_level, gx_swapped, is_half_empty, is_stalled}
use Rattle.video2d.specs.Scans.{scan_due_tick}
use Rattle.video2d.specs.Videos.{unless_stop, video_after_event, video_at_boot, video_shown, video_stop}
use Rattle.video2d.specs.declared.videos.Shown.{Shown}
use Rattle.vram_banks.specs.Cells.{Banks, blank_banks}
-- What stands behind the ports.

-- the display; video memory with its controls; WRAMCNT, which shares out the shared work RAM (GBATEK, "DS Memory Control"); what passes between the
-- processors; the keys that are pressed; the four words of DMA0FILL to DMA3FILL; the card; the divider and the square
-- root unit; the geometry engine with what waits for it; the tick before which ARM9's DMA isn't due, which is the one after the geometry command that
-- ended the last stall while that holds a channel back and no stall does, and else 0; and what each processor has of its own
pub use Rattle.ds_ports.specs.declared.units.IoParts.{IoParts as IoState}

abbrev pub io_at_boot : IoState
io_at_boot = record {
  video = video_at_boot;
  vram = blank_banks;
  wramcnt = 3;  -- ARM7 has all of the shared work RAM (our choice)
  ipc = ipc_at_boot;
  pressed = 0;
  fill = 0 ∷ 0 ∷ 0 ∷ 0 ∷ [];
  card = card_at_boot;
  divider = divider_at_boot;
  root = root_at_boot;
  gx = gx_at_boot;
  released = 0;
  nine = processor_io_at_boot Nine;
  seven = processor_io_at_boot Seven;
}

-- other banks of video memory, and another WRAMCNT
abbrev pub with_shares : Banks → ℕ → IoState → IoState
with_shares vram wramcnt u = record u { vram = vram; wramcnt = wramcnt }

-- another geometry engine, with what waits for it
abbrev pub with_gx : GxState → IoState → IoState
with_gx gx u = record u { gx = gx }

abbrev pub io_of : IoState → Proc → ProcessorIoState
io_of u Nine = u.nine
io_of u Seven = u.seven

abbrev pub with_io_of : Proc → IoState → ProcessorIoState → IoState
with_io_of Nine u processor_io = record u { nine = processor_io }
with_io_of Seven u processor_io = record u { seven = processor_io }

-- bits of IF are raised at both processors
abbrev pub both_raised : IoState → Raised → IoState
both_raised u raised = record u { nine = processor_io_raised u.nine raised.nine; seven = processor_io_raised u.seven raised.seven }

-- those that are raised at a processor
abbrev pub raised_to : Proc → Raised → ℕ
raised_to Nine raised = raised.nine
raised_to Seven raised = raised.seven

-- other keys are pressed
abbrev pub keys_pressed : IoState → ℕ → IoState
keys_pressed u pressed = record u { pressed = pressed; nine = keys_told u.nine pressed; seven = keys_told u.seven pressed }

-- a timer overflows, and its interrupts are raised
abbrev pub timer_overflows : Proc → ℕ → IoState → IoState
timer_overflows proc which u =
    let processor_io = io_of u proc in
    let o = overflow_of processor_io.timers which in
    with_io_of proc u (processor_io_raised (record processor_io { timers = o.timers }) o.bits)

-- a processor is halted, or goes on
abbrev pub with_halted : Proc → IoState → Bool → IoState
with_halted proc u halted = with_io_of proc u (record (io_of u proc) { halted = halted })

-- a division, or a square root, is done
-- an event triggers the DMA channels of both processors that wait for it
abbrev pub channels_triggered : Cause → Tick → IoState → IoState
channels_triggered cause now u = record u { nine = processor_io_triggered u.nine cause now; seven = processor_io_triggered u.seven cause now }

-- what an event of the display does beside it at a tick: it raises interrupts by each processor's DISPSTAT, and then triggers the channels
-- that wait for V-blank, or for the H-blank of a line that is drawn (GBATEK, "LCD I/O Interrupts and Status", "DS DMA Transfers")
abbrev pub channels_shown : Shown → Tick → IoState → IoState
channels_shown shown now u = if shown.vblank then channels_triggered VBlank now u else (if shown.hblank then channels_triggered HBlank now u else u)

abbrev pub shown_to_others : Shown → Tick → IoState → IoState
shown_to_others shown now u = channels_shown shown now (both_raised u shown.raised)

-- the display's event, with the memories of palettes and of objects; where it stops, all stays
abbrev pub video_done : List ℕ → List ℕ → IoState → IoState
video_done palette oam u =
    unless_stop (video_stop oam u.video)
    (shown_to_others (video_shown u.video) (scan_due_tick u.video.scan) (record u { video = video_after_event u.vram palette oam u.video })) u

-- The card's event, for the cartridge's file: a word is ready, which triggers the channels that wait for it, or a transfer without words ends, which
-- raises an interrupt; both at the processor that started the transfer alone (GBATEK, "DS Cartridge I/O Ports"; whose channels are our choice)
abbrev pub triggered_if : Bool → Cause → Tick → ProcessorIoState → ProcessorIoState
triggered_if triggers cause now processor_io =
    record processor_io { dma = if triggers then dma_triggered processor_io.dma cause now else processor_io.dma }

abbrev pub told_of_card : CardState → Proc → Tick → ProcessorIoState → ProcessorIoState
told_of_card card starter now processor_io =
    triggered_if (event_readies card) causes.Card now (processor_io_raised processor_io (raised_to starter (event_raised card)))

abbrev pub starter_told : Option Proc → CardState → Tick → IoState → IoState
starter_told starter card now u = unwrap_or (option_map (λ (p : Proc). with_io_of p u (told_of_card card p now (io_of u p))) starter) u

abbrev pub card_done_at : Option Tick → List ℕ → IoState → IoState
card_done_at None file u = u
card_done_at (Some now) file u = starter_told (card_starter u.card) u.card now (record u { card = card_after_event file u.card })

abbrev pub card_done : List ℕ → IoState → IoState
card_done file u = card_done_at (card_due u.card) file u

-- the head command of geometry ends a stall: more entries waited than the FIFO holds, and now no more do (GBATEK, "GXFIFO")
abbrev pub stall_ends : IoState → Bool
stall_ends u = is_stalled u.gx && not (is_stalled (gx_finished u.gx))

-- the head command of geometry is done, at its due tick. Where it ends a stall ARM9's DMA goes on at the next tick (our choice)
abbrev pub tick_after : Option Tick → ℕ → ℕ
tick_after due other = unwrap_or (option_map (λ (tick : Tick). tick.0 + 1) due) other

abbrev pub geometry_done : IoState → IoState
geometry_done u = record u { gx = gx_finished u.gx; released = if stall_ends u then tick_after u.gx.due u.released else u.released }

-- line 192 begins at a tick, and a swap that waits is made (GBATEK, SWAP_BUFFERS)
abbrev pub geometry_swapped : Tick → IoState → IoState
geometry_swapped now u = record u { gx = gx_swapped now u.gx }

-- a processor isn't due: it is halted, or a channel of it runs, or it is ARM9 and a stall of geometry holds it (GBATEK, "GXFIFO")
abbrev pub is_held : IoState → Proc → Bool
is_held u Nine = blocks_processor u.nine || is_stalled u.gx
is_held u Seven = blocks_processor u.seven

-- ---- what follows each step that is taken at a tick: the level of geometry's interrupt is told as it is, the channels are triggered that wait for
-- geometry where its FIFO has room (GBATEK, GXSTAT bits 25 and 30 to 31; that it follows the whole step is our choice), and what a stall left is
-- forgotten where it holds back no channel

abbrev pub level_told : IoState → IoState
level_told u = record u { nine = record u.nine { irq = irq_levelled u.nine.irq (gx_level u.gx) } }

abbrev pub geometry_triggered : Tick → IoState → IoState
geometry_triggered now u = if is_half_empty u.gx then record u { nine = processor_io_triggered u.nine causes.Geometry now } else u

-- The tick after a stall's end is kept while it holds back the channel of ARM9's that is due, which would come before it. While a stall holds them
-- all none is kept, since its end makes it anew. So nothing is kept that has no effect: the tick then is told by when the channel is due.
abbrev pub channel_comes_before : Option DmaDue → ℕ → Bool
channel_comes_before None tick = false
channel_comes_before (Some due) tick = nat_lt due.tick.0 tick

abbrev pub release_by : Bool → Option DmaDue → ℕ → ℕ
release_by stalled due released = if stalled then 0 else (if channel_comes_before due released then released else 0)

abbrev pub release_of : IoState → ℕ
release_of u = release_by (is_stalled u.gx) (dma_due u.nine.dma) u.released

abbrev pub release_kept : IoState → IoState
release_kept u = record u { released = release_of u }

abbrev pub settled : Tick → IoState → IoState
settled now u = release_kept (geometry_triggered now (level_told u))

-- nothing of this is left to do
abbrev pub is_settled : IoState → Bool
is_settled u =
    ((irq_levelled u.nine.irq (gx_level u.gx)).if_ == u.nine.irq.if_)
    && (not (is_half_empty u.gx && awaits_geometry u.nine.dma) && (release_of u == u.released))

-- What the event of an actor behind the ports leaves, where it is due, with the cartridge's file, which the card alone reads. Four have none here,
-- and leave all: the key script, which presses keys; the display, whose event stands above, since it reads memories; a DMA channel, whose event is
-- an access of memory and stands below in parts; and a processor, whose steps are instructions.
abbrev pub io_event : List ℕ → actor.Actor → IoState → IoState
io_event file (Timer proc number) u = timer_overflows proc number u
io_event file Divider u = record u { divider = division_finished u.divider }
io_event file SquareRoot u = record u { root = root_finished u.root }
io_event file Geometry u = geometry_done u
io_event file Card u = card_done file u
io_event file a u = u

-- the DMA channel of a processor that is due moves its first unit, but for the access itself
abbrev pub channel_moved : Proc → Tick → ℕ → IoState → IoState
channel_moved proc now waits u = with_io_of proc u (processor_io_moved (io_of u proc) now waits)

-- and the move is taken back
abbrev pub channel_put_back : Proc → BeforeMove → IoState → IoState
channel_put_back proc before u = with_io_of proc u (processor_io_put_back before (io_of u proc))
