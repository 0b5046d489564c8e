use Rattle.std.specs.Prelude.{ℕ, ◌+◌, ◌*◌, ◌==◌, ◌&&◌, ◌||◌, nat_le, nat_lt, Bool, if◌then◌else◌, slice_index}
use Rattle.ds_base.specs.Bits.{bit, bits}
use Rattle.video2d.specs.DisplayRegisters.{display_offset}
use Rattle.video2d.specs.declared.display_registers.DisplayRegister.TheVariants.{Win0h, Win0v, Winin, Winout}
use Rattle.video2d.specs.Engines.{EngineState, dispcnt}

-- What an engine's windows show at a place (GBATEK, "LCD I/O Window Feature").

-- a place lies from the first side on and before the second; where the first is the greater, the window goes round the edge (our choice, down
-- as across)
abbrev pub is_between : ℕ → ℕ → ℕ → Bool
is_between first second at = if nat_lt second first then nat_le first at || nat_lt at second else nat_le first at && nat_lt at second

-- the sides of windows 0 and 1: WINxH has the left one in its high byte and the right one in its low byte, WINxV the top and the bottom
abbrev pub window_left : EngineState → ℕ → ℕ
window_left e n = slice_index e.ports (display_offset Win0h + 1 + 2 * n)

abbrev pub window_right : EngineState → ℕ → ℕ
window_right e n = slice_index e.ports (display_offset Win0h + 2 * n)

abbrev pub window_top : EngineState → ℕ → ℕ
window_top e n = slice_index e.ports (display_offset Win0v + 1 + 2 * n)

abbrev pub window_bottom : EngineState → ℕ → ℕ
window_bottom e n = slice_index e.ports (display_offset Win0v + 2 * n)

-- windows 0 and 1, and the object window, by DISPCNT's bits 13 to 15
abbrev pub is_window_on : EngineState → ℕ → Bool
is_window_on e n = bit (13 + n) (dispcnt e)

abbrev pub reaches_line : EngineState → ℕ → ℕ → Bool
reaches_line e n line = is_window_on e n && is_between (window_top e n) (window_bottom e n) line

abbrev pub is_in_window : EngineState → ℕ → ℕ → ℕ → Bool
is_in_window e n line x = reaches_line e n line && is_between (window_left e n) (window_right e n) x

-- what is shown in windows 0 and 1 by the bytes of WININ; outside and in the object window by those of WINOUT
abbrev pub shown_in_window : EngineState → ℕ → ℕ
shown_in_window e n = slice_index e.ports (display_offset Winin + n)

abbrev pub shown_outside : EngineState → ℕ
shown_outside e = slice_index e.ports (display_offset Winout)

abbrev pub shown_in_objects : EngineState → ℕ
shown_in_objects e = slice_index e.ports (display_offset Winout + 1)

-- what is shown at a place: backgrounds by bits 0 to 3, objects by bit 4, effects by bit 5. Window 0 goes before window 1, the object window and
-- the outside; where no window is on, all is shown
abbrev pub shown_by_windows : EngineState → Bool → ℕ → ℕ → ℕ
shown_by_windows e in_objects line x =
    if bits 13 3 (dispcnt e) == 0 then 0x3F
    else (if is_in_window e 0 line x then shown_in_window e 0
    else (if is_in_window e 1 line x then shown_in_window e 1
    else (if is_window_on e 2 && in_objects then shown_in_objects e else shown_outside e)))
