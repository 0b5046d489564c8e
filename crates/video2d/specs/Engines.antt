use Rattle.std.specs.Prelude.{ℕ, ◌+◌, ◌-◌, ◌*◌, ◌%◌, ◌^◌, ◌==◌, nat_lt, if◌then◌else◌, List, Option, Some, None, bit_and, slice_index, slice_set}
use Rattle.std.specs.Int.{cast_signed, w16, w32}
use Rattle.ds_base.specs.Numbers.{is_within, number_at, zeroes}
use Rattle.ds_base.specs.declared.memories.Width.TheVariants.{Half, Word}
use Rattle.bg2d.specs.declared.layers.AffineLayer.{AffineLayer}
use Rattle.bg2d.specs.declared.layers.TextLayer.{TextLayer}
use Rattle.bg_ext.specs.declared.layers.ExtLayer.{ExtLayer}
use Rattle.video2d.specs.DisplayRegisters.{engine_bytes, engine_row_at, display_offset, kept_at, read_of}
use Rattle.video2d.specs.declared.display_registers.DisplayRegister.TheVariants.{Bg0cnt, Bg0hofs, Bg2pa, Bg2x, Bg3pa, Bg3x, Bldalpha, Bldcnt, Bldy, Dispcapcnt, Dispcnt, MasterBright, Mosaic}
use Rattle.video2d.specs.declared.display_registers.DisplayRow.{DisplayRow}
use Rattle.video2d.specs.declared.engines.Engine.{Engine}
use Rattle.video2d.specs.declared.engines.Engine.TheVariants.{A, B}

-- a running point: the point at the left end of the line, each coordinate a signed word with 8 fractional bits, as an unsigned number
pub record PointState : Type 0 where
  pub x : ℕ
  pub y : ℕ

-- A 2D engine: what its ports keep, a byte an offset from its base, and the running points of backgrounds 2 and 3. One record serves both
-- engines.
pub record EngineState : Type 0 where
  pub ports : List ℕ
  pub two : PointState
  pub three : PointState

-- the number by which layers and objects know an engine
abbrev pub engine_number : Engine → ℕ
engine_number A = 0
engine_number B = 1

abbrev pub point_at_boot : PointState
point_at_boot = record { x = 0; y = 0 }

abbrev pub engine_at_boot : EngineState
engine_at_boot = record { ports = zeroes engine_bytes; two = point_at_boot; three = point_at_boot }

-- ---- the registers by GBATEK's names; n is a background's number

abbrev pub dispcnt : EngineState → ℕ
dispcnt e = number_at Word e.ports (display_offset Dispcnt)

abbrev pub bgcnt : EngineState → ℕ → ℕ
bgcnt e n = number_at Half e.ports (display_offset Bg0cnt + 2 * n)

abbrev pub bghofs : EngineState → ℕ → ℕ
bghofs e n = number_at Half e.ports (display_offset Bg0hofs + 4 * n)

abbrev pub bgvofs : EngineState → ℕ → ℕ
bgvofs e n = number_at Half e.ports (display_offset Bg0hofs + 4 * n + 2)

abbrev pub bldcnt : EngineState → ℕ
bldcnt e = number_at Half e.ports (display_offset Bldcnt)

abbrev pub bldalpha : EngineState → ℕ
bldalpha e = number_at Half e.ports (display_offset Bldalpha)

abbrev pub bldy : EngineState → ℕ
bldy e = slice_index e.ports (display_offset Bldy)

abbrev pub dispcapcnt : EngineState → ℕ
dispcapcnt e = number_at Word e.ports (display_offset Dispcapcnt)

abbrev pub master_bright : EngineState → ℕ
master_bright e = number_at Half e.ports (display_offset MasterBright)

-- the mosaic's sizes: the low byte of MOSAIC for backgrounds, and the high one for objects
abbrev pub background_mosaic : EngineState → ℕ
background_mosaic e = slice_index e.ports (display_offset Mosaic)

abbrev pub object_mosaic : EngineState → ℕ
object_mosaic e = slice_index e.ports (display_offset Mosaic + 1)

-- ---- running points (GBATEK, "LCD I/O BG Rotation/Scaling"): the point at the left end of the line, each coordinate a word with 8 fractional
-- bits. Backgrounds 2 and 3 have four slopes each, PA to PD, which are halves, and X and Y, which are words

-- a half, and a number of 28 bits, as signed words
abbrev pub word_of_half : ℕ → ℕ
word_of_half half = if nat_lt half (2 ^ 15) then half else half + (2 ^ 32 - 2 ^ 16)

abbrev pub word_of_28 : ℕ → ℕ
word_of_28 number = let low = number % 2 ^ 28 in if nat_lt low (2 ^ 27) then low else low + (2 ^ 32 - 2 ^ 28)

-- X or Y, as it is kept
abbrev pub coordinate_at : List ℕ → ℕ → ℕ
coordinate_at ports at = word_of_28 (number_at Word ports at)

-- both are copied when line 0 starts, from the offset of X
abbrev pub point_started : List ℕ → ℕ → PointState
point_started ports first = record { x = coordinate_at ports first; y = coordinate_at ports (first + 4) }

-- each is copied when any byte of it is written
abbrev pub point_written : List ℕ → ℕ → ℕ → PointState → PointState
point_written ports first at p =
    if is_within first 4 at then record p { x = coordinate_at ports first }
    else (if is_within (first + 4) 4 at then record p { y = coordinate_at ports (first + 4) } else p)

-- PB and PD are added after a line, modulo 2^32; by the offset of PA
abbrev pub coordinate_stepped : ℕ → ℕ → ℕ
coordinate_stepped coordinate half = (coordinate + word_of_half half) % 2 ^ 32

abbrev pub point_stepped : List ℕ → ℕ → PointState → PointState
point_stepped ports slopes p =
    record { x = coordinate_stepped p.x (number_at Half ports (slopes + 2)); y = coordinate_stepped p.y (number_at Half ports (slopes + 6)) }

abbrev pub points_started : EngineState → EngineState
points_started e = record e { two = point_started e.ports (display_offset Bg2x); three = point_started e.ports (display_offset Bg3x) }

abbrev pub points_stepped : EngineState → EngineState
points_stepped e = record e { two = point_stepped e.ports (display_offset Bg2pa) e.two; three = point_stepped e.ports (display_offset Bg3pa) e.three }

-- ---- a byte of the ports is read and written

abbrev pub engine_byte : Engine → EngineState → ℕ → ℕ
engine_byte which e at = read_of (engine_row_at which at) (slice_index e.ports at)

abbrev pub points_after : ℕ → EngineState → EngineState
points_after at e =
    record e { two = point_written e.ports (display_offset Bg2x) at e.two; three = point_written e.ports (display_offset Bg3x) at e.three }

abbrev pub engine_byte_by : Option DisplayRow → EngineState → ℕ → ℕ → EngineState
engine_byte_by None e at value = e
engine_byte_by (Some row) e at value = points_after at (record e { ports = slice_set e.ports at (bit_and value (kept_at row at)) })

abbrev pub engine_byte_written : Engine → EngineState → ℕ → ℕ → EngineState
engine_byte_written which e at value = engine_byte_by (engine_row_at which at) e at value

-- ---- layers

abbrev pub text_layer_of : Engine → EngineState → ℕ → TextLayer
text_layer_of which e n = record {
  engine = engine_number which;
  number = n;
  display = dispcnt e;
  control = bgcnt e n;
  across = bghofs e n;
  down = bgvofs e n;
}

abbrev pub point_of : EngineState → ℕ → PointState
point_of e n = if n == 2 then e.two else e.three

abbrev pub slopes_at : ℕ → ℕ
slopes_at n = display_offset (if n == 2 then Bg2pa else Bg3pa)

abbrev pub affine_layer_of : Engine → EngineState → ℕ → AffineLayer
affine_layer_of which e n = record {
  engine = engine_number which;
  display = dispcnt e;
  control = bgcnt e n;
  x = cast_signed w32 (point_of e n).x;
  y = cast_signed w32 (point_of e n).y;
  pa = cast_signed w16 (number_at Half e.ports (slopes_at n));
  pc = cast_signed w16 (number_at Half e.ports (slopes_at n + 4));
}

abbrev pub ext_layer_of : Engine → EngineState → ℕ → ExtLayer
ext_layer_of which e n = record {
  engine = engine_number which;
  number = n;
  display = dispcnt e;
  control = bgcnt e n;
  x = cast_signed w32 (point_of e n).x;
  y = cast_signed w32 (point_of e n).y;
  pa = cast_signed w16 (number_at Half e.ports (slopes_at n));
  pc = cast_signed w16 (number_at Half e.ports (slopes_at n + 4));
}
