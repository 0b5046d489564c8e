use Rattle.std.specs.Prelude.{ℕ, zero, suc, ◌≡◌, ◌≤◌, ◌<◌, ◌+◌, ◌==◌, if◌then◌else◌, List, [], ◌∷◌, Ok, bit_and, slice_index}
use Rattle.std.specs.Bool.{beq}
use Rattle.ds_base.specs.Bits.{bit}
use Rattle.ds_base.specs.Numbers.{number_at, width_bytes, with_number, zeroes}
use Rattle.ds_base.specs.declared.memories.Width.{Width}
use Rattle.ds_base.specs.declared.memories.Width.TheVariants.{Half, Word}
use Rattle.ds_state.specs.Formats.{Code, Format, number_code, flag_code, then_field, done, ◌>>=◌, one_field, its, each, any, at_most, keeps_mask}
use Rattle.ds_state.specs.FormatLaws.{OneSpelling, RoundTrips}
use Rattle.ds_state.specs.Reading.{Left, read_format}
use Rattle.video2d.specs.DisplayRegisters.{display_row, engine_bytes, engine_registers}
use Rattle.video2d.specs.Engines.{PointState}
use Rattle.video2d.specs.VideoLaws.{IsVideo}
use Rattle.video2d.specs.Scans.{scan_after, scan_at_boot, scan_before, scan_due}
use Rattle.video2d.specs.Statuses.{StatusState, status_word}
use Rattle.video2d.specs.Videos.{VideoState}
use Rattle.video2d.specs.declared.display_registers.DisplayRegister.{DisplayRegister}
use Rattle.video2d.specs.declared.display_registers.DisplayRegister.TheVariants.{Dispstat}
use Rattle.video2d.specs.declared.display_registers.DisplayRow.{DisplayRow}
use Rattle.video2d.specs.declared.engines.Engine.{Engine}
use Rattle.video2d.specs.declared.engines.Engine.TheVariants.{A, B}

-- The display in bytes (our choice of form): where it is, each processor's DISPSTAT, both engines' registers, POWCNT1, the running points, the frame
-- being drawn, and the last whole one.

-- DISPSTAT's bits: those that are kept, and the flags, which aren't held against line and phase
abbrev pub status_of_bits : ℕ → StatusState
status_of_bits word = record {
  kept = bit_and word (display_row Dispstat).kept;
  vblank = bit 0 word;
  hblank = bit 1 word;
  vcount = bit 2 word;
}

abbrev pub status_bits : ℕ
status_bits = (display_row Dispstat).kept + 7

-- ---- an engine's registers, in the order of their offsets, each in its own width; the bytes between them are 0

abbrev pub row_width : DisplayRow → Width
row_width row = if row.bytes == 2 then Half else Word

abbrev pub row_code : DisplayRow → Code ℕ
row_code row = number_code (width_bytes (row_width row))

-- so many registers of a row from an offset on, and then what comes after them
abbrev pub row_format : DisplayRow → ℕ → ℕ → List ℕ → (List ℕ → Format (List ℕ) (List ℕ)) → Format (List ℕ) (List ℕ)
row_format row zero at made next = next made
row_format row (suc count) at made next =
    then_field (row_code row) (λ ports. number_at (row_width row) ports at) (keeps_mask row.kept)
    (λ value. row_format row count (at + row.bytes) (with_number (row_width row) made at value) next)

-- those of some rows, in their order
abbrev pub rows_format : List DisplayRegister → List ℕ → Format (List ℕ) (List ℕ)
rows_format [] made = done made
rows_format (register ∷ registers) made =
    let row = display_row register in row_format row row.count row.first made (rows_format registers)

unfoldable pub ports_format : Engine → Format (List ℕ) (List ℕ)
ports_format which = rows_format (engine_registers which) (zeroes engine_bytes)

-- ---- running points and frames

unfoldable pub point_format : Format PointState PointState
point_format = do
  x ← one_field (number_code 4) (λ p. p.x) any
  y ← one_field (number_code 4) (λ p. p.y) any
  done (record { x = x; y = y })

-- a pixel is a colour, whose bit 15 is 0
abbrev pub pixel_format : Format ℕ ℕ
pixel_format = one_field (number_code 2) (λ pixel. pixel) (at_most 0x7FFF)

unfoldable pub frame_pixels : ℕ
frame_pixels = 98304

unfoldable pub frame_format : Format (List ℕ) (List ℕ)
frame_format = each frame_pixels pixel_format (λ pixels. pixels)

-- ---- the whole: line and phase are those that the events due below the tick leave

unfoldable pub video_format : ℕ → Format VideoState VideoState
video_format at = do
  line ← one_field (number_code 2) (λ v. v.scan.line) (λ tick line. line == (scan_before tick).line)
  blanked ← one_field flag_code (λ v. v.scan.blanked) (λ tick blanked. beq blanked (scan_before tick).blanked)
  nine ← one_field (number_code 2) (λ v. status_word v.nine) (keeps_mask status_bits)
  seven ← one_field (number_code 2) (λ v. status_word v.seven) (keeps_mask status_bits)
  ports_of_a ← its (ports_format A) (λ v. v.a.ports)
  ports_of_b ← its (ports_format B) (λ v. v.b.ports)
  power ← one_field (number_code 2) (λ v. v.power) any
  two_of_a ← its point_format (λ v. v.a.two)
  three_of_a ← its point_format (λ v. v.a.three)
  two_of_b ← its point_format (λ v. v.b.two)
  three_of_b ← its point_format (λ v. v.b.three)
  drawn ← its frame_format (λ v. v.drawn)
  whole ← its frame_format (λ v. v.whole)
  done (record {
    scan = scan_before at;
    nine = status_of_bits nine;
    seven = status_of_bits seven;
    a = record { ports = ports_of_a; two = two_of_a; three = three_of_a };
    b = record { ports = ports_of_b; two = two_of_b; three = three_of_b };
    power = power;
    drawn = drawn;
    whole = whole;
  })

-- where the display is at each tick: its next event isn't due before that tick and is due soon, it waits for it, and the event leads on
pub record ScansFollow : Type 0 where
  pub boot : scan_before 0 ≡ scan_at_boot
  pub due : (at : ℕ) → (at ≤ scan_due (scan_before at)) × (scan_due (scan_before at) ≤ at + 3212)
  pub waits : (at later : ℕ) → at ≤ later → later ≤ scan_due (scan_before at) → scan_before later ≡ scan_before at
  pub event : (at : ℕ) → scan_before (scan_due (scan_before at) + 1) ≡ scan_after (scan_before at)

-- a display at a tick
pub record IsSavedVideo (at : ℕ) (v : VideoState) : Type 0 where
  pub is : IsVideo v
  pub scan : v.scan ≡ scan_before at

-- its bytes at a tick are read as it was, bytes that are read are its own, and what is read is a display at that tick
pub record VideoIsSaved : Type 0 where
  pub follow : ScansFollow
  pub back : (at : ℕ) (v : VideoState) → IsSavedVideo at v → RoundTrips (video_format at) at v
  pub spelling : (at : ℕ) → OneSpelling (video_format at) at
  pub accepted : (at place : ℕ) (bytes : List ℕ) (v : VideoState) (left : Left) → ((i : ℕ) → slice_index bytes i < 256)
      → read_format (video_format at) at (record { place = place; bytes = bytes }) ≡ Ok (v, left) → IsSavedVideo at v
