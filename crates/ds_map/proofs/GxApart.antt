use Rattle.ds_map.proofs.Words.{ABg, AObj, BBg, BObj, Banks, Bool, BootRom, Byte, Cell, Cells, DmaUnit, Empty, GxState, Half, IfSome, IoState, Lcdc}
use Rattle.ds_map.proofs.Words.{List, Main, MapState, Nine, None, Nothing, Oam, Option, Palette, Place, Port, Ports, Proc, Rom, Seven, Shared, Some}
use Rattle.ds_map.proofs.Words.{Stop, Tick, Video, Vram, Width, Word, [], after_read_at, aligned_down, arith, channel_moved, either, false}
use Rattle.ds_map.proofs.Words.{if◌then◌else◌, is_byte_of_nine, is_observed_port, map_after_unit, map_fetched, map_read, map_refusal, map_value}
use Rattle.ds_map.proofs.Words.{map_written, memory_size, nat_le, place_at, place_by, place_of, port_refusal, port_written, refl, region}
use Rattle.ds_map.proofs.Words.{shared_for_nine, slot_of, takes_no_bytes, true, unit_moved, unit_read, unit_refusal, unit_taken, unit_waits}
use Rattle.ds_map.proofs.Words.{unless_stopped, vram_written, width_bytes, with_gx, written_at, ℕ, ◌&&◌, ◌+◌, ◌-◌, ◌/◌, ◌<◌, ◌==◌, ◌∙◌, ◌∷◌, ◌≡◌}
use Rattle.ds_ports.proofs.GxApart.{is_geometry, IsApartFromGeometry, covers_apart, moved_apart, of_geometry, with_it}
use Rattle.ds_ports.proofs.Arms.{ArmsNoMore, KeepsControls, arms_by, arms_kept, arms_then, finished_arms, is_no_control, keeps_by, keeps_same, read_dma, seven_write_dma, write_keeps}
use Rattle.ds_map.proofs.ObservedPorts.{no_control, no_geometry, observed_same}
use Rattle.ds_map.proofs.Passed as passed
use Rattle.ds_map.proofs.Passed.{IsPast, OfOthers, PlacePasses, fetch_passes, place_passes}

-- Accesses of the map that neither see geometry nor change it: ARM7's, and ARM9's but for some ports. They enable no channel of ARM9's with the start of the geometry FIFO.

-- ---- the ports

-- a place is none of them, or ARM7's
abbrev pub IsApartPlace : Proc → Place → Type 0
IsApartPlace Nine (Port at) = is_observed_port at ≡ false
IsApartPlace proc place = Unit {0}

-- each byte of an access stands in the same word
same_word : (width : Width) (at k : ℕ) → k < width_bytes width → (aligned_down width at + k) / 4 ≡ at / 4
same_word Byte at k l = omega (arith, l)
same_word Half at k l = omega (arith, l)
same_word Word at k l = omega (arith, l)

module _ (width : Width) (at k : ℕ) (l : k < width_bytes width) (h : is_observed_port at ≡ false) where
  unseen : is_observed_port (aligned_down width at + k) ≡ false
  unseen = observed_same (aligned_down width at + k) at (same_word width at k l) ∙ h

  apart_from_geometry : IfSome (slot_of Nine (aligned_down width at + k)) (λ s. is_geometry s.register ≡ false)
  apart_from_geometry = no_geometry (aligned_down width at + k) unseen

  apart_from_controls : IfSome (slot_of Nine (aligned_down width at + k)) (λ s. is_no_control s.register ≡ true)
  apart_from_controls = no_control (aligned_down width at + k) unseen

port_apart : (proc : Proc) (width : Width) (at : ℕ) → IsApartPlace proc (Port at) → IsApartFromGeometry proc (aligned_down width at) width
port_apart Nine width at h = λ k l. apart_from_geometry width at k l h
port_apart Seven width at h = tt

-- ---- they stand at the same addresses whatever WRAMCNT is

shared_apart : (w offset : ℕ) → IsApartPlace Nine (place_at (shared_for_nine w) offset)
shared_apart w offset = by_tests (w == 0) (w == 1) (w == 2) where
  by_tests : (a b c : Bool)
      → IsApartPlace Nine (place_at (if a then Cells Shared 0 (memory_size Shared) else (if b then Cells Shared 0x4000 0x4000 else (if c then Cells Shared 0 0x4000 else Empty))) offset)
  by_tests true b c = tt
  by_tests false true c = tt
  by_tests false false true = tt
  by_tests false false false = tt

other_shared : (a b : Bool) (main one other rest : Place) → IsApartPlace Nine other
    → IsApartPlace Nine (if a then main else (if b then one else rest)) → IsApartPlace Nine (if a then main else (if b then other else rest))
other_shared true b main one other rest apart h = h
other_shared false true main one other rest apart h = apart
other_shared false false main one other rest apart h = h

abbrev past_shared : ℕ → Place
past_shared at = place_by (
    region 0x04000000 0x04FFFFFF Ports
    ∷ region 0x05000000 0x05FFFFFF (Cells Palette 0 (memory_size Palette))
    ∷ region 0x06000000 0x061FFFFF (Video ABg)
    ∷ region 0x06200000 0x063FFFFF (Video BBg)
    ∷ region 0x06400000 0x065FFFFF (Video AObj)
    ∷ region 0x06600000 0x067FFFFF (Video BObj)
    ∷ region 0x06800000 0x06FFFFFF (Video Lcdc)
    ∷ region 0x07000000 0x07FFFFFF (Cells Oam 0 (memory_size Oam))
    ∷ region 0xFFFF0000 0xFFFFFFFF BootRom
    ∷ []) at

pub apart_anyhow : (proc : Proc) (w v at : ℕ) → IsApartPlace proc (place_of proc w at) → IsApartPlace proc (place_of proc v at)
apart_anyhow Nine w v at h =
    other_shared (nat_le 0x02000000 at && nat_le at 0x02FFFFFF) (nat_le 0x03000000 at && nat_le at 0x03FFFFFF)
    (place_at (Cells Main 0 (memory_size Main)) (at - 0x02000000)) (place_at (shared_for_nine w) (at - 0x03000000)) (place_at (shared_for_nine v) (at - 0x03000000))
    (past_shared at) (shared_apart v (at - 0x03000000)) h
apart_anyhow Seven w v at h = tt

-- ---- accesses, with another geometry engine

abbrev pub gx_in_map : GxState → MapState → MapState
gx_in_map g m = record m { io = with_gx g m.io }

-- geometry is no memory, and doesn't share any out
of_others : OfOthers of_geometry
of_others = record { bytes = refl; controls = refl; wram = refl }

past : (proc : Proc) (width : Width) (place : Place) → IsApartPlace proc place → IsPast of_geometry proc width place
past proc width (Port at) h = covers_apart proc (aligned_down width at) width (port_apart proc width at h)
past proc width (Cell memory at) h = tt
past proc width (Banks space at) h = tt
past proc width (Rom at) h = tt
past proc width Nothing h = tt

abbrev same_bytes : List ℕ → List ℕ
same_bytes bytes = bytes

module _ (g : GxState) (proc : Proc) (m : MapState) where
  passes : (width : Width) (place : Place) → IsApartPlace proc place → PlacePasses same_bytes (with_gx g) proc m width place
  passes width place h = place_passes of_geometry of_others (with_it g) proc m width place (past proc width place h)

  pub value : (now : Tick) (at : ℕ) (width : Width) → IsApartPlace proc (place_of proc m.io.wramcnt at) → map_value proc now (gx_in_map g m) at width ≡ map_value proc now m at width
  value now at width h = passed.value same_bytes (with_gx g) proc m refl at width now (passes width (place_of proc m.io.wramcnt at) h)

  pub fetched : (at : ℕ) (width : Width) → map_fetched proc (gx_in_map g m) at width ≡ map_fetched proc m at width
  fetched at width = passed.fetched same_bytes (with_gx g) proc m refl at width (fetch_passes of_geometry of_others (with_it g) proc m width (place_of proc m.io.wramcnt at))

  pub read : (now : Tick) (at : ℕ) (width : Width) → IsApartPlace proc (place_of proc m.io.wramcnt at)
      → map_read proc now (gx_in_map g m) at width ≡ gx_in_map g (map_read proc now m at width)
  read now at width h = passed.read same_bytes (with_gx g) proc m refl at width now (passes width (place_of proc m.io.wramcnt at) h)

  pub refusal : (at : ℕ) (width : Width) (number : ℕ) → IsApartPlace proc (place_of proc m.io.wramcnt at)
      → map_refusal proc (gx_in_map g m) at width number ≡ map_refusal proc m at width number
  refusal at width number h = passed.refusal same_bytes (with_gx g) proc m refl at width number (passes width (place_of proc m.io.wramcnt at) h)

  pub written : (now : Tick) (at : ℕ) (width : Width) (number : ℕ) → IsApartPlace proc (place_of proc m.io.wramcnt at)
      → map_written proc now (gx_in_map g m) at width number ≡ gx_in_map g (map_written proc now m at width number)
  written now at width number h = passed.written same_bytes (with_gx g) proc m refl at width now number (passes width (place_of proc m.io.wramcnt at) h)

  -- the DMA unit
  module _ (now : Tick) (unit : DmaUnit) (from : IsApartPlace proc (place_of proc m.io.wramcnt unit.from)) (to : IsApartPlace proc (place_of proc m.io.wramcnt unit.to)) where
    abbrev taken : MapState
    taken = unit_taken proc now unit m

    to_passes : PlacePasses same_bytes (with_gx g) proc taken unit.width (place_of proc taken.io.wramcnt unit.to)
    to_passes =
        place_passes of_geometry of_others (with_it g) proc taken unit.width (place_of proc taken.io.wramcnt unit.to)
        (past proc unit.width (place_of proc taken.io.wramcnt unit.to) (apart_anyhow proc m.io.wramcnt taken.io.wramcnt unit.to to))

    pub unit_refuses : unit_refusal proc now unit (gx_in_map g m) ≡ unit_refusal proc now unit m
    unit_refuses =
        passed.unit_refuses same_bytes (with_gx g) proc m now unit refl (passes unit.width (place_of proc m.io.wramcnt unit.from) from) (moved_apart g proc now) refl refl to_passes

    pub unit_moves : unit_moved proc now unit (gx_in_map g m) ≡ gx_in_map g (unit_moved proc now unit m)
    unit_moves = passed.unit_moves same_bytes (with_gx g) proc m now unit refl (passes unit.width (place_of proc m.io.wramcnt unit.from) from) (moved_apart g proc now) refl refl to_passes

-- ---- ARM9's channels

-- a read leaves them
read_dma_there : (proc : Proc) (now : Tick) (place : Place) (m : MapState) (width : Width) → (after_read_at proc now place m width).io.nine.dma ≡ m.io.nine.dma
read_dma_there proc now (Cell memory at) m width = refl
read_dma_there proc now (Banks space at) m width = refl
read_dma_there proc now (Port at) m width = read_dma proc now m.io (aligned_down width at) width
read_dma_there proc now (Rom at) m width = refl
read_dma_there proc now Nothing m width = refl

pub map_read_dma : (proc : Proc) (now : Tick) (m : MapState) (at : ℕ) (width : Width) → (map_read proc now m at width).io.nine.dma ≡ m.io.nine.dma
unfolding map_read
map_read_dma proc now m at width = read_dma_there proc now (place_of proc m.io.wramcnt at) m width

-- a write leaves their controls
port_keeps : (proc : Proc) (now : Tick) (u : IoState) (at : ℕ) (width : Width) (number : ℕ) → IsApartPlace proc (Port at)
    → KeepsControls u.nine.dma (port_written proc now u (aligned_down width at) width number).nine.dma
port_keeps Nine now u at width number h = write_keeps now u (aligned_down width at) width number (λ k l. apart_from_controls width at k l h)
port_keeps Seven now u at width number h = keeps_by u.nine.dma _ (seven_write_dma now u (aligned_down width at) width number)

unless_keeps : (refused : Option Stop) (u v : IoState) → KeepsControls u.nine.dma v.nine.dma → KeepsControls u.nine.dma (unless_stopped refused u v).nine.dma
unless_keeps None u v k = k
unless_keeps (Some stop) u v k = keeps_same u.nine.dma

written_keeps_there : (proc : Proc) (now : Tick) (place : Place) (m : MapState) (width : Width) (number : ℕ) → IsApartPlace proc place
    → KeepsControls m.io.nine.dma (written_at proc now place m width number).io.nine.dma
written_keeps_there proc now (Cell memory at) m width number h = keeps_same m.io.nine.dma
written_keeps_there proc now (Banks space at) m width number h =
    keeps_by m.io.nine.dma _
    (either (λ (x : MapState). x.io.nine.dma ≡ m.io.nine.dma) (is_byte_of_nine proc width && takes_no_bytes Vram) m (record m { io = record m.io { vram = vram_written m.io.vram space at width number } }) refl refl)
written_keeps_there proc now (Port at) m width number h =
    unless_keeps (port_refusal proc m.io (aligned_down width at) width number) m.io (port_written proc now m.io (aligned_down width at) width number)
    (port_keeps proc now m.io at width number h)
written_keeps_there proc now (Rom at) m width number h = keeps_same m.io.nine.dma
written_keeps_there proc now Nothing m width number h = keeps_same m.io.nine.dma

pub map_written_keeps : (proc : Proc) (now : Tick) (m : MapState) (at : ℕ) (width : Width) (number : ℕ) → IsApartPlace proc (place_of proc m.io.wramcnt at)
    → KeepsControls m.io.nine.dma (map_written proc now m at width number).io.nine.dma
unfolding map_written
map_written_keeps proc now m at width number h = written_keeps_there proc now (place_of proc m.io.wramcnt at) m width number h

-- a channel of ARM9's that took a unit may be disabled
moved_arms : (proc : Proc) (now : Tick) (waits : ℕ) (u : IoState) → ArmsNoMore u.nine.dma (channel_moved proc now waits u).nine.dma
moved_arms Nine now waits u = finished_arms u.nine.dma now waits
moved_arms Seven now waits u = arms_by u.nine.dma u.nine.dma refl

module _ (proc : Proc) (m : MapState) (now : Tick) (unit : DmaUnit) (to : IsApartPlace proc (place_of proc m.io.wramcnt unit.to)) where
  after_arms : (refused : Option Stop) → ArmsNoMore m.io.nine.dma (map_after_unit refused proc now unit m).io.nine.dma
  after_arms None =
      let left = unit_read proc now unit m in
      let taken = unit_taken proc now unit m in
      let number = map_value proc now m unit.from unit.width in
      let dma = m.io.nine.dma in
      let end = map_written proc now taken unit.to unit.width number in
      arms_then dma taken.io.nine.dma end.io.nine.dma
      (arms_then dma left.io.nine.dma taken.io.nine.dma (arms_by dma left.io.nine.dma (map_read_dma proc now m unit.from unit.width)) (moved_arms proc now (unit_waits proc now unit m) left.io))
      (arms_kept taken.io.nine.dma end.io.nine.dma
      (map_written_keeps proc now taken unit.to unit.width number (apart_anyhow proc m.io.wramcnt taken.io.wramcnt unit.to to)))
  after_arms (Some stop) = arms_by m.io.nine.dma _ (map_read_dma proc now m unit.from unit.width)

  pub unit_arms : ArmsNoMore m.io.nine.dma (unit_moved proc now unit m).io.nine.dma
  unit_arms = after_arms (unit_refusal proc now unit m)
