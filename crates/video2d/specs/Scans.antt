use Rattle.std.specs.Prelude.{ℕ, ◌+◌, ◌*◌, ◌/◌, ◌%◌, ◌==◌, nat_le, nat_lt, ◌&&◌, not, Bool, false, true, if◌then◌else◌, ◌-◌, Option, Some, None}
use Rattle.ds_base.specs.declared.ticks.Tick.{Tick}

-- Where the display is, and when its events come (GBATEK, "DS Video", LCD timings; the tick of H-blank is our choice). A line has 355 dots of
-- 6 bus clocks, which are 4,260 ticks, and a frame has 263 lines, which are 1,120,380 ticks.

-- the frame's number, the line, and whether the line's H-blank event has been
pub record ScanState : Type 0 where
  pub frame : ℕ
  pub line : ℕ
  pub blanked : Bool

abbrev pub scan_at_boot : ScanState
scan_at_boot = record { frame = 0; line = 0; blanked = false }

-- the tick at which the present line began
abbrev pub scan_line_start : ScanState → ℕ
scan_line_start s = 1120380 * s.frame + 4260 * s.line

-- the next event: the line's H-blank, 3,212 ticks after its start, and then the next line's start
abbrev pub scan_due : ScanState → ℕ
scan_due s = scan_line_start s + (if s.blanked then 4260 else 3212)

abbrev pub scan_due_tick : ScanState → Tick
scan_due_tick s = record { 0 = scan_due s }

-- line 262 is a frame's last
abbrev pub line_after : ℕ → ℕ
line_after line = if line == 262 then 0 else line + 1

abbrev pub next_line_scan : ScanState → ScanState
next_line_scan s = record { frame = if s.line == 262 then s.frame + 1 else s.frame; line = line_after s.line; blanked = false }

abbrev pub scan_after : ScanState → ScanState
scan_after s = if s.blanked then next_line_scan s else record s { blanked = true }

-- lines 0 to 191 are drawn
abbrev pub is_drawn_line : ℕ → Bool
is_drawn_line line = nat_lt line 192

-- the lines at which the V-blank flag is set from boot on: it is set at the start of line 192 and cleared at that of line 262 (GBATEK, "LCD I/O
-- Interrupts and Status": it isn't set in a frame's last line)
abbrev pub in_vblank : ℕ → Bool
in_vblank line = nat_le 192 line && nat_lt line 262

-- the next event is the H-blank of a line that is drawn
abbrev pub blanks_drawn_line : ScanState → Bool
blanks_drawn_line s = not s.blanked && is_drawn_line s.line

-- the next event is the start of line 192
abbrev pub starts_vblank : ScanState → Bool
starts_vblank s = s.blanked && (s.line == 191)

-- the tick at which line 192 of a frame starts, which makes the frame whole
abbrev pub whole_tick : ℕ → Tick
whole_tick frame = record { 0 = 1120380 * frame + 817920 }

-- when the last whole frame became so: the present one from its line 192 on, and until then the one before it, where there was one
abbrev pub framed_by : ScanState → Option Tick
framed_by s = if nat_le 192 s.line then Some (whole_tick s.frame) else (if s.frame == 0 then None else Some (whole_tick (s.frame - 1)))

-- where the display is once all events that are due below a tick have been: what the tick before it falls into
abbrev pub scan_before : ℕ → ScanState
scan_before at = record {
  frame = (at - 1) / 1120380;
  line = (at - 1) % 1120380 / 4260;
  blanked = nat_le 3212 ((at - 1) % 1120380 % 4260);
}
