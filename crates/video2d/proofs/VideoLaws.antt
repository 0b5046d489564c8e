use Rattle.video2d.proofs.Words.{A, AllByRecursion, B, Banks, Byte, DisplayRow, Dispstat, Engine, EngineState, Half, IsColour, IsDispstat, IsEngine}
use Rattle.video2d.proofs.Words.{IsFrame, IsPoint, List, None, Option, PointState, ScanState, Some, Stop, Width, Word, aligned_down, ap, arith, bit}
use Rattle.video2d.proofs.Words.{bit_and, cases_eq, display_row, either, either_by, engine_bytes, engine_line, engine_row_at, false, get_or-replicate}
use Rattle.video2d.proofs.Words.{get_or-set_other, get_or-set_same, inl, inr, is_within, kept_at, kept_bits_at, kept_by, kept_twice, length-replicate}
use Rattle.video2d.proofs.Words.{length-set, nat_lt, number_at, put_by, refl, replicate, scan_after, slice_index, slice_set, subst, suc, sym, true}
use Rattle.video2d.proofs.Words.{zero, zeroes, ℕ, ◌%◌, ◌*◌, ◌+◌, ◌/◌, ◌<◌, ◌==◌, ◌^◌, ◌∙◌, ◌≡◌, ◌≢◌, ◌≤◌, ◌⊎◌}
use Rattle.video2d.specs.Statuses.{StatusState, status_blanked, status_started, status_written, with_half_byte}
use Rattle.video2d.specs.Videos.{VideoState, drawn_with, engine_of, hblank_set, line_drawn, unless_stop, video_after_event, video_blanked}
use Rattle.video2d.specs.Videos.{video_byte_written, video_byte_written_by, video_happened, video_line_started, video_stop}
use Rattle.ds_base.specs.declared.processors.Proc.{Proc}
use Rattle.ds_base.specs.declared.processors.Proc.TheVariants.{Nine, Seven}
use Rattle.video2d.proofs.Colours.{laid_frame, line_colours, line_long}
use Rattle.video2d.specs.Engines.{coordinate_at, engine_at_boot, engine_byte_by, point_started, point_stepped, point_written, points_after, points_started, points_stepped, word_of_28, word_of_half}
use Rattle.video2d.specs.VideoLaws.{IsVideo, StayTelling, StaysVideo, TellScan, TellsScan}
use Rattle.video2d.specs.Pictures.{line_place, screen_of}
use Rattle.video2d.specs.DisplayRegisters.{display_offset}
use Rattle.video2d.specs.Ports.{video_port}
use Rattle.video2d.specs.Scans.{blanks_drawn_line, line_after}
use Rattle.video2d.specs.declared.display_registers.DisplayRegister.TheVariants.{Bg2pa, Bg3pa}
use Rattle.video2d.specs.declared.ports.VideoPort.{VideoPort}
use Rattle.video2d.specs.declared.ports.VideoPort.TheVariants.{Status, Count, OfEngine, Power, Nothing}

-- What holds of the display at every time.

-- ---- running points

coordinate_small : (ports : List ℕ) (at : ℕ) → coordinate_at ports at < 2 ^ 32
coordinate_small ports at = by_number (number_at Word ports at) where
  by_number : (n : ℕ) → word_of_28 n < 2 ^ 32
  by_number n = either (λ (x : ℕ). x < 2 ^ 32) (nat_lt (n % 2 ^ 28) (2 ^ 27)) _ _ (omega arith) (omega arith)

started_is : (ports : List ℕ) (first : ℕ) → IsPoint (point_started ports first)
started_is ports first = record { x = coordinate_small ports _; y = coordinate_small ports _ }

stepped_is : (ports : List ℕ) (slopes : ℕ) (p : PointState) → IsPoint (point_stepped ports slopes p)
stepped_is ports slopes p = record {
  x = mod_small (p.x + word_of_half (number_at Half ports (slopes + 2)));
  y = mod_small (p.y + word_of_half (number_at Half ports (slopes + 6)));
} where
  mod_small : (n : ℕ) → n % 2 ^ 32 < 2 ^ 32
  mod_small n = omega arith

written_is : (ports : List ℕ) (first at : ℕ) (p : PointState) → IsPoint p → IsPoint (point_written ports first at p)
written_is ports first at p is =
    either IsPoint (is_within first 4 at) _ _ (record { x = coordinate_small ports _; y = is.y })
    (either IsPoint (is_within (first + 4) 4 at) _ _ (record { x = is.x; y = coordinate_small ports _ }) is)

-- ---- an engine

points_is : (which : Engine) (at : ℕ) (e : EngineState) → IsEngine which e → IsEngine which (points_after at e)
points_is which at e is = record {
  long = is.long;
  kept = is.kept;
  two = written_is e.ports _ at e.two is.two;
  three = written_is e.ports _ at e.three is.three;
}

set_is : (which : Engine) (e : EngineState) (at value : ℕ) → IsEngine which e
    → IsEngine which (record e { ports = slice_set e.ports at (bit_and value (kept_bits_at which at)) })
set_is which e at value is = record {
  long = length-set e.ports at (bit_and value (kept_bits_at which at)) ∙ is.long;
  kept = λ i lt. by_place i lt (cases_eq i at);
  two = is.two;
  three = is.three;
} where
  by_place : (i : ℕ) → i < engine_bytes → (i ≡ at) ⊎ (i ≢ at)
      → bit_and (slice_index (slice_set e.ports at (bit_and value (kept_bits_at which at))) i) (kept_bits_at which i)
      ≡ slice_index (slice_set e.ports at (bit_and value (kept_bits_at which at))) i
  by_place i lt (inl same) =
      subst (λ (n : ℕ). bit_and (slice_index (slice_set e.ports at (bit_and value (kept_bits_at which at))) n) (kept_bits_at which n)
      ≡ slice_index (slice_set e.ports at (bit_and value (kept_bits_at which at))) n) (sym same)
      (let long = is.long in let there = get_or-set_same e.ports at (bit_and value (kept_bits_at which at)) 0 (omega (arith, lt, same, long)) in
      rw there (kept_twice value (kept_bits_at which at)))
  by_place i lt (inr other) = (let there = get_or-set_other e.ports at i (bit_and value (kept_bits_at which at)) 0 other in rw there (is.kept i lt))

byte_is : (which : Engine) (e : EngineState) (at value : ℕ) (row : Option DisplayRow) → engine_row_at which at ≡ row → IsEngine which e
    → IsEngine which (engine_byte_by row e at value)
byte_is which e at value None h is = is
byte_is which e at value (Some row) h is =
    let same : kept_bits_at which at ≡ kept_at row at = ap (λ (r : Option DisplayRow). kept_by r at) h in
    subst (λ (k : ℕ). IsEngine which (points_after at (record e { ports = slice_set e.ports at (bit_and value k) }))) same
    (points_is which at _ (set_is which e at value is))

-- ---- a write

half_is : (byte half value : ℕ) → half < 2 ^ 16 → value < 256 → with_half_byte byte half value < 2 ^ 16
half_is byte half value small one = either (λ (n : ℕ). n < 2 ^ 16) (byte == 0) _ _ (omega (arith, small, one)) (omega (arith, small, one))

status_is : (s : StatusState) (byte value : ℕ) → IsDispstat (status_written s byte value)
status_is s byte value = record { kept = kept_twice (with_half_byte byte s.kept value) (display_row Dispstat).kept }

port_is : (port : VideoPort) (proc : Proc) (v : VideoState) (value : ℕ) → value < 256 → IsVideo v → IsVideo (video_byte_written_by port proc v value)
port_is (Status byte) Nine v value one is = record {
  line = is.line;
  nine = status_is v.nine byte value;
  seven = is.seven;
  a = is.a;
  b = is.b;
  power = is.power;
  drawn = is.drawn;
  whole = is.whole;
}
port_is (Status byte) Seven v value one is = record {
  line = is.line;
  nine = is.nine;
  seven = status_is v.seven byte value;
  a = is.a;
  b = is.b;
  power = is.power;
  drawn = is.drawn;
  whole = is.whole;
}
port_is (Count byte) proc v value one is = is
port_is (OfEngine A at) proc v value one is = record {
  line = is.line;
  nine = is.nine;
  seven = is.seven;
  a = byte_is A v.a at value (engine_row_at A at) refl is.a;
  b = is.b;
  power = is.power;
  drawn = is.drawn;
  whole = is.whole;
}
port_is (OfEngine B at) proc v value one is = record {
  line = is.line;
  nine = is.nine;
  seven = is.seven;
  a = is.a;
  b = byte_is B v.b at value (engine_row_at B at) refl is.b;
  power = is.power;
  drawn = is.drawn;
  whole = is.whole;
}
port_is (Power byte) proc v value one is = record {
  line = is.line;
  nine = is.nine;
  seven = is.seven;
  a = is.a;
  b = is.b;
  power = half_is byte v.power value is.power one;
  drawn = is.drawn;
  whole = is.whole;
}
port_is Nothing proc v value one is = is

one_is : (proc : Proc) (at value : ℕ) (v : VideoState) → value < 256 → IsVideo v → IsVideo (video_byte_written proc at value v)
unfolding video_byte_written
one_is proc at value v one is = port_is (video_port proc at) proc v value one is

write_is : (proc : Proc) (v : VideoState) (at : ℕ) (width : Width) (value : ℕ) → IsVideo v
    → IsVideo (put_by width (video_byte_written proc) at value v)
write_is proc v at Byte value is = one_is proc at (value % 256) v (omega arith) is
write_is proc v at Half value is =
    one_is proc (at + 1) (value / 256 % 256) _ (omega arith) (one_is proc at (value % 256) v (omega arith) is)
write_is proc v at Word value is =
    one_is proc (at + 3) (value / 16777216 % 256) _ (omega arith) (one_is proc (at + 2) (value / 65536 % 256) _ (omega arith)
    (one_is proc (at + 1) (value / 256 % 256) _ (omega arith) (one_is proc at (value % 256) v (omega arith) is)))

-- ---- an event

line_is : (s : ScanState) → s.line ≤ 262 → (scan_after s).line ≤ 262
line_is s le = grind (arith, le)

place_is : (screen line : ℕ) → screen ≤ 1 → line < 192 → line_place screen line + 256 ≤ 98304
place_is screen line le lt = omega (arith, le, lt)

screen_is : (which : Engine) (power : ℕ) → screen_of which power ≤ 1
screen_is A power = either (λ (n : ℕ). n ≤ 1) (bit 15 power) 0 1 (omega arith) (omega arith)
screen_is B power = either (λ (n : ℕ). n ≤ 1) (bit 15 power) 1 0 (omega arith) (omega arith)

drawn_is : (m : Banks) (palette oam : List ℕ) (v : VideoState) (which : Engine) (frame : List ℕ) → v.scan.line < 192 → IsFrame frame
    → IsFrame (drawn_with m palette oam v which frame)
drawn_is m palette oam v which frame lt is =
    laid_frame (line_place (screen_of which v.power) v.scan.line) (engine_line m palette oam which v.power (engine_of v which) v.scan.line) frame
    (place_is (screen_of which v.power) v.scan.line (screen_is which v.power) lt) (line_long m palette oam which v.power (engine_of v which) v.scan.line)
    (line_colours m palette oam which v.power (engine_of v which) v.scan.line) is

stepped_all : (which : Engine) (e : EngineState) → IsEngine which e → IsEngine which (points_stepped e)
stepped_all which e is = record { long = is.long; kept = is.kept; two = stepped_is e.ports (display_offset Bg2pa) e.two; three = stepped_is e.ports (display_offset Bg3pa) e.three }

started_all : (which : Engine) (e : EngineState) → IsEngine which e → IsEngine which (points_started e)
started_all which e is = record { long = is.long; kept = is.kept; two = started_is e.ports _; three = started_is e.ports _ }

drawn_line : (s : ScanState) → blanks_drawn_line s ≡ true → s.line < 192
drawn_line s h = grind (arith, h)

blanked_is : (m : Banks) (palette oam : List ℕ) (v : VideoState) → IsVideo v → IsVideo (video_blanked m palette oam v)
blanked_is m palette oam v is = either_by IsVideo (blanks_drawn_line v.scan) _ _ drawn left where
  drawn : blanks_drawn_line v.scan ≡ true
      → IsVideo (record (hblank_set v) { a = points_stepped v.a; b = points_stepped v.b; drawn = line_drawn m palette oam v })
  drawn h = record {
    line = line_is v.scan is.line;
    nine = record { kept = is.nine.kept };
    seven = record { kept = is.seven.kept };
    a = stepped_all A v.a is.a;
    b = stepped_all B v.b is.b;
    power = is.power;
    drawn = drawn_is m palette oam v B _ (drawn_line v.scan h) (drawn_is m palette oam v A v.drawn (drawn_line v.scan h) is.drawn);
    whole = is.whole;
  }

  left : blanks_drawn_line v.scan ≡ false → IsVideo (hblank_set v)
  left h = record {
    line = line_is v.scan is.line;
    nine = record { kept = is.nine.kept };
    seven = record { kept = is.seven.kept };
    a = is.a;
    b = is.b;
    power = is.power;
    drawn = is.drawn;
    whole = is.whole;
  }

line_started_is : (line : ℕ) (v : VideoState) → IsVideo v → IsVideo (video_line_started line v)
line_started_is line v is = record {
  line = line_is v.scan is.line;
  nine = record { kept = is.nine.kept };
  seven = record { kept = is.seven.kept };
  a = either (IsEngine A) (line == 0) _ _ (started_all A v.a is.a) is.a;
  b = either (IsEngine B) (line == 0) _ _ (started_all B v.b is.b) is.b;
  power = is.power;
  drawn = is.drawn;
  whole = either IsFrame (line == 192) _ _ is.drawn is.whole;
}

unless_is : (stop : Option Stop) (made left : VideoState) → IsVideo made → IsVideo left → IsVideo (unless_stop stop made left)
unless_is None made left is was = is
unless_is (Some stop) made left is was = was

event_is : (m : Banks) (palette oam : List ℕ) (v : VideoState) → IsVideo v → IsVideo (video_after_event m palette oam v)
event_is m palette oam v is =
    unless_is (video_stop oam v) _ _
    (either IsVideo v.scan.blanked _ _ (line_started_is (line_after v.scan.line) v is) (blanked_is m palette oam v is)) is

-- ---- boot

none_kept : (n mask : ℕ) → n ≡ 0 → bit_and n mask ≡ n
none_kept n mask e = rw e refl

boot_engine : (which : Engine) → IsEngine which engine_at_boot
unfolding zeroes
boot_engine which = record {
  long = refl;
  kept = λ at lt. none_kept (slice_index (replicate 112 0) at) (kept_bits_at which at) (get_or-replicate 112 at 0 0 lt);
  two = record { x = omega arith; y = omega arith };
  three = record { x = omega arith; y = omega arith };
}

all_black : (n : ℕ) → AllByRecursion IsColour (replicate n 0)
all_black zero = tt
all_black (suc n) = (omega arith, all_black n)

boot_frame : IsFrame (zeroes 98304)
unfolding zeroes
boot_frame = record { long = length-replicate {A = ℕ} 98304 0; colours = all_black 98304 }

pub stays_video : StaysVideo
stays_video = record {
  boot = record {
    line = omega arith;
    nine = record { kept = refl };
    seven = record { kept = refl };
    a = boot_engine A;
    b = boot_engine B;
    power = omega arith;
    drawn = boot_frame;
    whole = boot_frame;
  };
  write = λ proc v at width value is. write_is proc v (aligned_down width at) width value is;
  event = event_is;
}

-- ---- the flags tell where the display is

-- a write leaves both, and where the display is
record Tells (v w : VideoState) : Type 0 where
  scan : w.scan ≡ v.scan
  nine : (w.nine.vblank ≡ v.nine.vblank) × (w.nine.hblank ≡ v.nine.hblank)
  seven : (w.seven.vblank ≡ v.seven.vblank) × (w.seven.hblank ≡ v.seven.hblank)

tells_still : (v : VideoState) → Tells v v
tells_still v = record { scan = refl; nine = (refl, refl); seven = (refl, refl) }

port_tells : (port : VideoPort) (proc : Proc) (v : VideoState) (value : ℕ) → Tells v (video_byte_written_by port proc v value)
port_tells (Status byte) Nine v value = record { scan = refl; nine = (refl, refl); seven = (refl, refl) }
port_tells (Status byte) Seven v value = record { scan = refl; nine = (refl, refl); seven = (refl, refl) }
port_tells (Count byte) proc v value = tells_still v
port_tells (OfEngine A at) proc v value = record { scan = refl; nine = (refl, refl); seven = (refl, refl) }
port_tells (OfEngine B at) proc v value = record { scan = refl; nine = (refl, refl); seven = (refl, refl) }
port_tells (Power byte) proc v value = record { scan = refl; nine = (refl, refl); seven = (refl, refl) }
port_tells Nothing proc v value = tells_still v

still_tells : (v w : VideoState) → Tells v w → TellScan v → TellScan w
still_tells v w t told = record {
  line = rw t.scan told.line;
  nine = record { vblank = rw t.scan (t.nine.0 ∙ told.nine.vblank); hblank = rw t.scan (t.nine.1 ∙ told.nine.hblank) };
  seven = record { vblank = rw t.scan (t.seven.0 ∙ told.seven.vblank); hblank = rw t.scan (t.seven.1 ∙ told.seven.hblank) };
}

byte_tells : (proc : Proc) (at value : ℕ) (v : VideoState) → TellScan v → TellScan (video_byte_written proc at value v)
unfolding video_byte_written
byte_tells proc at value v told = still_tells v _ (port_tells (video_port proc at) proc v value) told

write_tells : (proc : Proc) (v : VideoState) (at : ℕ) (width : Width) (value : ℕ) → TellScan v
    → TellScan (put_by width (video_byte_written proc) at value v)
write_tells proc v at Byte value told = byte_tells proc _ _ v told
write_tells proc v at Half value told = byte_tells proc _ _ _ (byte_tells proc _ _ v told)
write_tells proc v at Word value told = byte_tells proc _ _ _ (byte_tells proc _ _ _ (byte_tells proc _ _ _ (byte_tells proc _ _ v told)))

-- a line's H-blank, and the start of the next
blanked_tells : (s : ScanState) (status : StatusState) → s.blanked ≡ false → TellsScan s status → TellsScan (scan_after s) (status_blanked status)
blanked_tells s status h told = let same = told.vblank in record { vblank = grind (arith, h, same); hblank = grind (arith, h) }

started_tells : (s : ScanState) (status : StatusState) → s.line ≤ 262 → s.blanked ≡ true → TellsScan s status
    → TellsScan (scan_after s) (status_started (line_after s.line) status)
started_tells s status le h told = let same = told.vblank in record { vblank = grind (arith, le, h, same); hblank = grind (arith, h) }

happened_tells : (m : Banks) (palette oam : List ℕ) (v : VideoState) → TellScan v → TellScan (video_happened m palette oam v)
happened_tells m palette oam v told = either_by TellScan v.scan.blanked _ _ started blanked where
  started : v.scan.blanked ≡ true → TellScan (video_line_started (line_after v.scan.line) v)
  started h = record {
    line = line_is v.scan told.line;
    nine = started_tells v.scan v.nine told.line h told.nine;
    seven = started_tells v.scan v.seven told.line h told.seven;
  }

  set : v.scan.blanked ≡ false → TellScan (hblank_set v)
  set h = record {
    line = line_is v.scan told.line;
    nine = blanked_tells v.scan v.nine h told.nine;
    seven = blanked_tells v.scan v.seven h told.seven;
  }

  blanked : v.scan.blanked ≡ false → TellScan (video_blanked m palette oam v)
  blanked h =
      either TellScan (blanks_drawn_line v.scan) _ _
      (let s = set h in record { line = s.line; nine = s.nine; seven = s.seven }) (set h)

unless_tells : (stop : Option Stop) (made left : VideoState) → TellScan made → TellScan left → TellScan (unless_stop stop made left)
unless_tells None made left told was = told
unless_tells (Some stop) made left told was = was

pub stay_telling : StayTelling
stay_telling = record {
  boot = record {
    line = omega arith;
    nine = record { vblank = refl; hblank = refl };
    seven = record { vblank = refl; hblank = refl };
  };
  write = λ proc v at width value told. write_tells proc v (aligned_down width at) width value told;
  event = λ m palette oam v told. unless_tells (video_stop oam v) _ _ (happened_tells m palette oam v told) told;
}
