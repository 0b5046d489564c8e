use Rattle.std.specs.Prelude.{ℕ, ◌≡◌, ◌<◌, ◌≤◌, ◌^◌, List, length, Option, Some, None, bit_and, slice_index}
use Rattle.std.specs.List.{AllByRecursion}
use Rattle.ds_base.specs.declared.memories.Width.{Width}
use Rattle.ds_base.specs.declared.processors.Proc.{Proc}
use Rattle.vram_banks.specs.Cells.{Banks}
use Rattle.video2d.specs.DisplayRegisters.{display_row, engine_bytes, engine_row_at, kept_at}
use Rattle.video2d.specs.Engines.{EngineState, PointState}
use Rattle.video2d.specs.Scans.{ScanState, in_vblank}
use Rattle.video2d.specs.Statuses.{StatusState}
use Rattle.video2d.specs.Videos.{VideoState, video_after_event, video_at_boot, video_written}
use Rattle.video2d.specs.declared.display_registers.DisplayRegister.TheVariants.{Dispstat}
use Rattle.video2d.specs.declared.display_registers.DisplayRow.{DisplayRow}
use Rattle.video2d.specs.declared.engines.Engine.{Engine}
use Rattle.video2d.specs.declared.engines.Engine.TheVariants.{A, B}

-- What holds of the display at every time: its registers have the bits that they keep and no others, and its pixels are colours.

-- the bits that are kept at an offset: none where no register has a byte there
abbrev pub kept_by : Option DisplayRow → ℕ → ℕ
kept_by None at = 0
kept_by (Some row) at = kept_at row at

abbrev pub kept_bits_at : Engine → ℕ → ℕ
kept_bits_at which at = kept_by (engine_row_at which at) at

pub record IsPoint (p : PointState) : Type 0 where
  pub x : p.x < 2 ^ 32
  pub y : p.y < 2 ^ 32

pub record IsEngine (which : Engine) (e : EngineState) : Type 0 where
  pub long : length e.ports ≡ engine_bytes
  pub kept : (at : ℕ) → at < engine_bytes → bit_and (slice_index e.ports at) (kept_bits_at which at) ≡ slice_index e.ports at
  pub two : IsPoint e.two
  pub three : IsPoint e.three

pub record IsDispstat (s : StatusState) : Type 0 where
  pub kept : bit_and s.kept (display_row Dispstat).kept ≡ s.kept

-- a colour has no bit 15
abbrev pub IsColour : ℕ → Type 0
IsColour pixel = pixel < 2 ^ 15

pub record IsFrame (pixels : List ℕ) : Type 0 where
  pub long : length pixels ≡ 98304
  pub colours : AllByRecursion IsColour pixels

pub record IsVideo (v : VideoState) : Type 0 where
  pub line : v.scan.line ≤ 262
  pub nine : IsDispstat v.nine
  pub seven : IsDispstat v.seven
  pub a : IsEngine A v.a
  pub b : IsEngine B v.b
  pub power : v.power < 2 ^ 16
  pub drawn : IsFrame v.drawn
  pub whole : IsFrame v.whole

-- The flags of DISPSTAT tell where the display is, as they do from boot on; those of a state that is made of bytes may be others.
pub record TellsScan (scan : ScanState) (s : StatusState) : Type 0 where
  pub vblank : s.vblank ≡ in_vblank scan.line
  pub hblank : s.hblank ≡ scan.blanked

pub record TellScan (v : VideoState) : Type 0 where
  pub line : v.scan.line ≤ 262
  pub nine : TellsScan v.scan v.nine
  pub seven : TellsScan v.scan v.seven

pub record StayTelling : Type 0 where
  pub boot : TellScan video_at_boot
  pub write : (proc : Proc) (v : VideoState) (at : ℕ) (width : Width) (value : ℕ) → TellScan v → TellScan (video_written proc v at width value)
  pub event : (m : Banks) (palette oam : List ℕ) (v : VideoState) → TellScan v → TellScan (video_after_event m palette oam v)

-- it holds at boot, and each write of a port and each event leaves it so
pub record StaysVideo : Type 0 where
  pub boot : IsVideo video_at_boot
  pub write : (proc : Proc) (v : VideoState) (at : ℕ) (width : Width) (value : ℕ) → IsVideo v → IsVideo (video_written proc v at width value)
  pub event : (m : Banks) (palette oam : List ℕ) (v : VideoState) → IsVideo v → IsVideo (video_after_event m palette oam v)
