use Rattle.std.specs.Prelude.{ℕ, ◌&&◌, not, Bool, if◌then◌else◌, List, [], ◌∷◌, map, slice_get, max, Option, Some, None, option_map, Result, Ok, Err}
use Rattle.ds_base.specs.declared.keys.KeyLine.{KeyLine}
use Rattle.ds_base.specs.declared.left_out.LeftOut.{LeftOut}
use Rattle.ds_base.specs.declared.left_out.Stop.{Stop}
use Rattle.ds_base.specs.declared.ticks.Tick.{Tick}
use Rattle.ds_base.specs.declared.processors.Proc.{Proc}
use Rattle.ds_base.specs.declared.processors.Proc.TheVariants.{Nine}
use Rattle.ds_ports.specs.Dues.{io_due}
use Rattle.ds_ports.specs.declared.units.IoParts.{IoParts as IoState}
use Rattle.ds_ports.specs.Io.{geometry_swapped, io_event, keys_pressed, stall_ends, tick_after, video_done}
use Rattle.ds_runs.specs.Actors.{actors, actor_of}
use Rattle.ds_runs.specs.Runs.{TickMachine, MachineStep, Makes, Stops}
use Rattle.ds_runs.specs.declared.actors.Actor as actor
use Rattle.ds_runs.specs.declared.actors.Actor.TheVariants.{KeyScript, Video, Timer, Divider, SquareRoot, Geometry, Card, Dma, Processor}
use Rattle.ds_machine.specs.Channels.{channel_step, one_event}
use Rattle.ds_machine.specs.States.{MachineState, ProcessorState}
use Rattle.ds_machine.specs.Steps.{ended, is_blocked, processor_of, processor_step, stopped_at, tick_of, with_io, with_processor}
use Rattle.gx_geometry.specs.States.{Swapped}
use Rattle.video2d.specs.Scans.{scan_due, scan_due_tick, starts_vblank}
use Rattle.video2d.specs.Videos.{video_answer}
use Rattle.video2d.specs.declared.videos.Shown as display

-- The reference machine.

-- what a run puts out: a frame became whole at this tick; whether waiting geometry lists were swapped there; and the lists of the last swap after it
pub record Shown : Type 0 where
  pub tick : ℕ
  -- its 98,304 pixels, the upper screen's first
  pub frame : List ℕ
  pub swapped : Bool
  pub lists : Swapped

-- what an event at a tick put out that made a frame whole, by the machine that it left
abbrev pub shown_at : ℕ → MachineState → Bool → Shown
shown_at tick s swapped = record { tick = tick; frame = s.io.video.whole; swapped = swapped; lists = s.io.gx.geometry.last }

-- the frame that the display's event makes whole, by the state before it and the state after it
abbrev pub next_shown : MachineState → MachineState → Bool → Shown
next_shown old new swapped = shown_at (scan_due old.io.video.scan) new swapped

-- when a processor is due: never while it is blocked
abbrev pub due_unless : Bool → ProcessorState → Option Tick
due_unless blocked p = if blocked then None else Some (tick_of p)

abbrev pub processor_due : MachineState → Proc → Option Tick
processor_due s proc = due_unless (is_blocked s proc) (processor_of s proc)

-- when the key script's next line is due
abbrev pub keys_due : List KeyLine → Option Tick
keys_due lines = option_map (λ (line : KeyLine). line.tick) (slice_get lines 0)

-- when an actor is due
abbrev pub due_by : actor.Actor → MachineState → Option Tick
due_by KeyScript s = keys_due s.keys
due_by (Processor proc) s = processor_due s proc
due_by a s = io_due a s.io

-- when each actor is due, by rank
unfoldable pub dues_of : MachineState → List (Option Tick)
dues_of s = map (λ (a : actor.Actor). due_by a s) actors

-- a line of the key script: from now on exactly its keys are pressed
abbrev pub after_line : List KeyLine → MachineState → MachineState
after_line [] s = s
after_line (line ∷ lines) s = one_event (record (with_io s (keys_pressed s.io line.pressed)) { keys = lines })

-- the event of an actor behind the ports, with the cartridge's file
abbrev pub after_event : actor.Actor → MachineState → MachineState
after_event a s = one_event (with_io s (io_event s.file a s.io))

-- geometry's: the head command is done, and where that ends a stall ARM9 is due after that tick at the earliest, also while DMA still holds it; while
-- it is halted it isn't due: a stall's end wakes none (our choice)
abbrev pub past_stall : IoState → ℕ → ℕ
past_stall u due = if stall_ends u && not u.nine.halted then max due (tick_after u.gx.due due) else due

abbrev pub after_geometry : MachineState → MachineState
after_geometry s = with_processor Nine (after_event Geometry s) (record s.nine.processor { due = past_stall s.io s.nine.processor.due })

-- the display's, which reads palettes and OAM, by what it answers: the start of line 192 makes a frame whole, and swaps geometry lists that wait, and
-- that is put out (GBATEK, SWAP_BUFFERS); a line that needs what isn't there stops, and then the machine is as it was
abbrev pub swapped_if : Bool → Tick → IoState → IoState
swapped_if whole now u = if whole then geometry_swapped now u else u

abbrev pub display_done : MachineState → IoState
display_done s = swapped_if (starts_vblank s.io.video.scan) (scan_due_tick s.io.video.scan) (video_done s.palette s.oam s.io)

abbrev pub after_video : MachineState → MachineState
after_video s = one_event (with_io s (display_done s))

abbrev pub video_step : ℕ → Result display.Shown Stop → MachineState → MachineStep MachineState Shown LeftOut
video_step rank (Ok shown) s =
    Makes (after_video s) (if shown.frame then shown_at (scan_due s.io.video.scan) (after_video s) s.io.gx.swap_waits ∷ [] else [])
video_step rank (Err stop) s = Stops (stopped_at rank (scan_due_tick s.io.video.scan) stop) s

-- what an actor's step comes to
abbrev pub step_by : ℕ → actor.Actor → MachineState → MachineStep MachineState Shown LeftOut
step_by rank KeyScript s = Makes (after_line s.keys s) []
step_by rank Video s = video_step rank (video_answer s.oam s.io.video) s
step_by rank Geometry s = Makes (after_geometry s) []
step_by rank (Dma proc channel) s = channel_step rank proc (io_due (Dma proc channel) s.io) s
step_by rank (Processor proc) s = processor_step rank proc s
step_by rank a s = Makes (after_event a s) []

-- and after a step that is taken the units settle, and halted processors wake that are to
abbrev pub awake : Option Tick → MachineStep MachineState Shown LeftOut → MachineStep MachineState Shown LeftOut
awake None came = came
awake (Some tick) (Makes next outs) = Makes (ended tick next) outs
awake (Some tick) (Stops stop left) = Stops stop left

abbrev pub reference_step : ℕ → MachineState → MachineStep MachineState Shown LeftOut
reference_step rank s = awake (due_by (actor_of rank) s) (step_by rank (actor_of rank) s)

abbrev pub reference : TickMachine MachineState Shown LeftOut
reference = record { dues = dues_of; step = reference_step }
