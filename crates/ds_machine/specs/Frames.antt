use Rattle.std.specs.Prelude.{ℕ, ◌==◌, if◌then◌else◌, List, [], ◌∷◌, map, Option, Some, None, option_map}
use Rattle.ds_base.specs.declared.ticks.Tick.{Tick}
use Rattle.ds_machine.specs.Reference.{Shown}
use Rattle.ds_machine.specs.States.{MachineState}
use Rattle.gx_geometry.specs.States.{Swapped}
use Rattle.video2d.specs.Scans.{framed_by}

-- Frames that are whole, and the geometry lists that are swapped with them.

-- when the last whole frame of a machine became so, if one is: where the display is tells it
abbrev pub framed_of : MachineState → Option Tick
framed_of s = framed_by s.io.video.scan

-- a frame that is whole: the tick at which it became so, and its 98,304 pixels, the upper screen's first
pub record WholeFrame : Type 0 where
  pub tick : ℕ
  pub pixels : List ℕ

-- a machine's last one, if one is whole
abbrev pub last_frame : MachineState → Option WholeFrame
last_frame s = option_map (λ (tick : Tick). (let frame : WholeFrame = record { tick = tick.0; pixels = s.io.video.whole } in frame)) (framed_of s)

-- those that a run put out
abbrev pub frame_shown : Shown → WholeFrame
frame_shown shown = record { tick = shown.tick; pixels = shown.frame }

abbrev pub frames_shown : List Shown → List WholeFrame
frames_shown outs = map frame_shown outs

-- a machine's last swap, if one was made: its lists tell when, and line 192 never begins at tick 0
abbrev pub last_lists : MachineState → Option Swapped
last_lists s = if s.io.gx.geometry.last.tick.0 == 0 then None else Some s.io.gx.geometry.last

-- those that a run put out: of the frames at which waiting lists were swapped
abbrev pub lists_shown : List Shown → List Swapped
lists_shown [] = []
lists_shown (shown ∷ outs) = if shown.swapped then shown.lists ∷ lists_shown outs else lists_shown outs
