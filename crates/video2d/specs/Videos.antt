use Rattle.std.specs.Prelude.{ℕ, ◌==◌, if◌then◌else◌, List, Option, Some, None, is_some, Result, Ok, Err}
use Rattle.ds_base.specs.Numbers.{aligned_down, put_by, zeroes}
use Rattle.ds_base.specs.declared.left_out.Stop.{Stop}
use Rattle.ds_base.specs.declared.memories.Width.{Width}
use Rattle.ds_base.specs.declared.processors.Proc.{Proc}
use Rattle.ds_base.specs.declared.processors.Proc.TheVariants.{Nine, Seven}
use Rattle.vram_banks.specs.Cells.{Banks}
use Rattle.video2d.specs.Engines.{EngineState, engine_at_boot, engine_byte, engine_byte_written, points_started, points_stepped}
use Rattle.video2d.specs.Pictures.{engine_line, line_laid, line_place, screen_of}
use Rattle.video2d.specs.Ports.{video_port}
use Rattle.video2d.specs.Scans.{ScanState, blanks_drawn_line, line_after, scan_after, scan_at_boot, starts_vblank}
use Rattle.video2d.specs.Statuses.{StatusState, half_byte, raised_at_hblank, raised_at_start, status_at_boot, status_blanked, status_started, status_word, status_written, with_half_byte}
use Rattle.video2d.specs.Stops.{needs_of_line}
use Rattle.video2d.specs.declared.engines.Engine.{Engine}
use Rattle.video2d.specs.declared.engines.Engine.TheVariants.{A, B}
use Rattle.video2d.specs.declared.ports.VideoPort.{VideoPort}
use Rattle.video2d.specs.declared.ports.VideoPort.TheVariants.{Status, Count, OfEngine, Power, Nothing}
use Rattle.video2d.specs.declared.videos.Shown.{Shown}

-- The display: its events and its ports (GBATEK, "DS Video", "LCD I/O Interrupts and Status", "DS Power Control").

pub record VideoState : Type 0 where
  -- where it is
  pub scan : ScanState
  -- each processor's DISPSTAT
  pub nine : StatusState
  pub seven : StatusState
  -- both engines
  pub a : EngineState
  pub b : EngineState
  -- POWCNT1
  pub power : ℕ
  -- the frame being drawn, whose lines stay until they are drawn again, and the last whole frame: of each 98,304 pixels, the upper screen's first
  pub drawn : List ℕ
  pub whole : List ℕ

-- all is 0 at boot (our choice)
abbrev pub video_at_boot : VideoState
video_at_boot = record {
  scan = scan_at_boot;
  nine = status_at_boot;
  seven = status_at_boot;
  a = engine_at_boot;
  b = engine_at_boot;
  power = 0;
  drawn = zeroes 98304;
  whole = zeroes 98304;
}

-- ---- ports

abbrev pub status_of : VideoState → Proc → StatusState
status_of v Nine = v.nine
status_of v Seven = v.seven

abbrev pub engine_of : VideoState → Engine → EngineState
engine_of v A = v.a
engine_of v B = v.b

abbrev pub video_byte_by : VideoPort → Proc → VideoState → ℕ
video_byte_by (Status byte) proc v = half_byte byte (status_word (status_of v proc))
video_byte_by (Count byte) proc v = half_byte byte v.scan.line
video_byte_by (OfEngine which at) proc v = engine_byte which (engine_of v which) at
video_byte_by (Power byte) proc v = half_byte byte v.power
video_byte_by Nothing proc v = 0

-- the byte that a processor reads at an offset
abbrev pub video_byte : Proc → VideoState → ℕ → ℕ
video_byte proc v at = video_byte_by (video_port proc at) proc v

abbrev pub with_status : Proc → VideoState → StatusState → VideoState
with_status Nine v status = record v { nine = status }
with_status Seven v status = record v { seven = status }

abbrev pub with_engine : Engine → VideoState → EngineState → VideoState
with_engine A v e = record v { a = e }
with_engine B v e = record v { b = e }

-- VCOUNT can't be written (our choice: GBATEK says that writing it sets the line)
abbrev pub video_byte_written_by : VideoPort → Proc → VideoState → ℕ → VideoState
video_byte_written_by (Status byte) proc v value = with_status proc v (status_written (status_of v proc) byte value)
video_byte_written_by (OfEngine which at) proc v value = with_engine which v (engine_byte_written which (engine_of v which) at value)
video_byte_written_by (Power byte) proc v value = record v { power = with_half_byte byte v.power value }
video_byte_written_by port proc v value = v

unfoldable pub video_byte_written : Proc → ℕ → ℕ → VideoState → VideoState
video_byte_written proc at value v = video_byte_written_by (video_port proc at) proc v value

-- a write is one of each of its bytes, from the lowest on, at an offset aligned down to its width
abbrev pub video_written : Proc → VideoState → ℕ → Width → ℕ → VideoState
video_written proc v at width value = put_by width (video_byte_written proc) (aligned_down width at) value v

-- ---- events

-- why the next event stops, if it does: the H-blank of a line that is drawn needs what isn't there. `oam` is the memory of both engines' objects,
-- and `palette` that of both engines' palettes
abbrev pub video_stop : List ℕ → VideoState → Option Stop
video_stop oam v = if blanks_drawn_line v.scan then needs_of_line v.power v.a v.b oam v.scan.line else None

-- a line is drawn: each engine's, on its screen
abbrev pub drawn_with : Banks → List ℕ → List ℕ → VideoState → Engine → List ℕ → List ℕ
drawn_with m palette oam v which frame =
    line_laid (line_place (screen_of which v.power) v.scan.line) (engine_line m palette oam which v.power (engine_of v which) v.scan.line) frame

abbrev pub line_drawn : Banks → List ℕ → List ℕ → VideoState → List ℕ
line_drawn m palette oam v = drawn_with m palette oam v B (drawn_with m palette oam v A v.drawn)

-- a line's H-blank sets both flags of H-blank; one of lines 0 to 191 is drawn, and then the points of the affine backgrounds go on, whatever is
-- shown
abbrev pub hblank_set : VideoState → VideoState
hblank_set v = record v { scan = scan_after v.scan; nine = status_blanked v.nine; seven = status_blanked v.seven }

abbrev pub video_blanked : Banks → List ℕ → List ℕ → VideoState → VideoState
video_blanked m palette oam v =
    if blanks_drawn_line v.scan
    then record (hblank_set v) { a = points_stepped v.a; b = points_stepped v.b; drawn = line_drawn m palette oam v }
    else hblank_set v

-- a line's start, whose number is given: both processors' flags, at line 0 the points of the affine backgrounds, at line 192 the whole frame
abbrev pub video_line_started : ℕ → VideoState → VideoState
video_line_started line v = record v {
  scan = scan_after v.scan;
  nine = status_started line v.nine;
  seven = status_started line v.seven;
  a = if line == 0 then points_started v.a else v.a;
  b = if line == 0 then points_started v.b else v.b;
  whole = if line == 192 then v.drawn else v.whole;
}

abbrev pub video_happened : Banks → List ℕ → List ℕ → VideoState → VideoState
video_happened m palette oam v = if v.scan.blanked then video_line_started (line_after v.scan.line) v else video_blanked m palette oam v

-- what an event raises, and what it starts elsewhere: V-blank DMA of both processors and H-blank DMA of ARM9 (GBATEK, "DS DMA Transfers"), and
-- that a frame is whole
abbrev pub video_raised : VideoState → StatusState → ℕ
video_raised v status = if v.scan.blanked then raised_at_start (line_after v.scan.line) status else raised_at_hblank status

abbrev pub video_shown : VideoState → Shown
video_shown v = record {
  raised = record { nine = video_raised v v.nine; seven = video_raised v v.seven };
  vblank = starts_vblank v.scan;
  hblank = blanks_drawn_line v.scan;
  frame = starts_vblank v.scan;
}

-- an event that stops changes nothing
abbrev pub unless_stop : {A : Type 0} → Option Stop → A → A → A
unless_stop stop made left = if is_some stop then left else made

abbrev pub video_after_event : Banks → List ℕ → List ℕ → VideoState → VideoState
video_after_event m palette oam v = unless_stop (video_stop oam v) (video_happened m palette oam v) v

abbrev pub answer_unless : Option Stop → Shown → Result Shown Stop
answer_unless None shown = Ok shown
answer_unless (Some stop) shown = Err stop

abbrev pub video_answer : List ℕ → VideoState → Result Shown Stop
video_answer oam v = answer_unless (video_stop oam v) (video_shown v)
