use Rattle.ds_map.proofs.Words.{Arm7, Banks, Bool, Byte, Cell, Cells, Content, DmaUnit, Half, IoState, List, MapState, None, Nothing, Option, Own7}
use Rattle.ds_map.proofs.Words.{Place, Port, Rom, Seven, Shared, Some, Space, Stop, Tick, Width, Word, after_read_at, aligned_down, ap, arith}
use Rattle.ds_map.proofs.Words.{channel_moved, false, if◌then◌else◌, keeps_part, length, map_fetched, map_read, map_refusal, map_value, map_written}
use Rattle.ds_map.proofs.Words.{memory_size, nat_le, nat_lt, place_at, place_of, port_read, port_refusal, port_value, port_written, read_left, refl}
use Rattle.ds_map.proofs.Words.{regions_of_seven, subst, sym, true, unit_moved, unit_read, unit_refusal, unit_taken, unless_stopped, vram_value}
use Rattle.ds_map.proofs.Words.{vram_written, width_bytes, with_shares, write_left, written_at, ℕ, ◌%◌, ◌+◌, ◌<◌, ◌==◌, ◌∙◌, ◌≡◌}
use Rattle.ds_ports.specs.Touches.{UnitPart, BankControls, VideoMemory, WramControl, io_graft, touches_none, is_part}
use Rattle.vram_banks.proofs.Allotted.{written_controls, written_length, value_allotted, written_allotted}
use Rattle.vram_banks.proofs.Mixes.{IsAll, with_number_length, number_other, with_number_other}
use Rattle.ds_map.specs.ShareLaws.{IsSharedSo, SharedPart, is_shown_to_nine, mixed_banks, shared_put, shares_put, is_beyond_seven, map_put}
use Rattle.ds_ports.proofs.Covered.{covers_all}
use Rattle.vram_banks.specs.Cells as cells
use Rattle.vram_banks.specs.MixLaws.{mixed}
use Rattle.ds_map.proofs.NineShares.{AllHold, by_all}
use Rattle.ds_map.proofs.Passed as passed
use Rattle.ds_map.proofs.Passed.{BanksPass, FetchPasses, PlacePasses, PortsPass, port_passes}

-- ARM7's accesses of the map, where ARM9's bytes of the memories that both reach are others: they come to the same, and those bytes stay.

-- ---- ARM7's places: of shared work RAM the bytes that WRAMCNT doesn't show to ARM9, and of video memory the space that is ARM7's alone

-- a place has none of ARM9's bytes, of those bytes that an access of a width reaches there
abbrev IsPast : (ℕ → Bool) → Width → Place → Type 0
IsPast shown width (Cell Shared at) = IsAll shown false width (aligned_down width at)
IsPast shown width (Banks space at) = space ≡ Arm7
IsPast shown width place = Unit {0}

-- an access lies in one half of shared work RAM
in_first_half : (width : Width) (offset k : ℕ) → k < width_bytes width → nat_le 0x4000 (aligned_down width (0 + offset % 0x4000) + k) ≡ false
in_first_half Byte offset k h = grind (arith, h)
in_first_half Half offset k h = grind (arith, h)
in_first_half Word offset k h = grind (arith, h)

in_second_half : (width : Width) (offset k : ℕ) → nat_lt (aligned_down width (0x4000 + offset % 0x4000) + k) 0x4000 ≡ false
in_second_half Byte offset k = grind arith
in_second_half Half offset k = grind arith
in_second_half Word offset k = grind arith

-- what ARM9 and ARM7 see of shared work RAM, by the tests of WRAMCNT
abbrev shown_by : Bool → Bool → Bool → ℕ → Bool
shown_by is_0 is_1 is_2 at = if is_0 then true else (if is_1 then nat_le 0x4000 at else (if is_2 then nat_lt at 0x4000 else false))

abbrev seen_by : Bool → Bool → Bool → Content
seen_by is_0 is_1 is_2 =
    if is_0 then Cells Own7 0 (memory_size Own7) else (
    if is_1 then Cells Shared 0 0x4000 else (if is_2 then Cells Shared 0x4000 0x4000 else Cells Shared 0 (memory_size Shared)))

shared_past : (is_0 is_1 is_2 : Bool) (width : Width) (offset : ℕ) → IsPast (shown_by is_0 is_1 is_2) width (place_at (seen_by is_0 is_1 is_2) offset)
shared_past true is_1 is_2 width offset = tt
shared_past false true is_2 width offset = λ k h. in_first_half width offset k h
shared_past false false true width offset = λ k h. in_second_half width offset k
shared_past false false false width offset = λ k h. refl

all_past : (wramcnt : ℕ) (width : Width) → AllHold (IsPast (is_shown_to_nine wramcnt) width) (regions_of_seven wramcnt)
all_past wramcnt width =
    let shared = shared_past (wramcnt == 0) (wramcnt == 1) (wramcnt == 2) width in
    (λ offset. tt, (λ offset. tt, (shared, (λ offset. tt, (λ offset. tt, (λ offset. refl, tt))))))

place_past : (wramcnt at : ℕ) (width : Width) → IsPast (is_shown_to_nine wramcnt) width (place_of Seven wramcnt at)
place_past wramcnt at width = by_all (IsPast (is_shown_to_nine wramcnt) width) (regions_of_seven wramcnt) at tt (all_past wramcnt width)

-- ---- video memory at ARM7's addresses, with other bytes of ARM9's

module _ (own theirs : cells.Banks) (controls : own.controls ≡ theirs.controls) (long : length own.bytes ≡ length theirs.bytes) where
  banks_value : (at : ℕ) (width : Width) → vram_value (mixed_banks own theirs.bytes) Arm7 at width ≡ vram_value theirs Arm7 at width
  banks_value at width =
      value_allotted own.controls own.bytes theirs.bytes at width long
      ∙ ap (λ (c : List ℕ). vram_value (let v : cells.Banks = record { bytes = theirs.bytes; controls = c } in v) Arm7 at width) controls

  banks_written : (at : ℕ) (width : Width) (value : ℕ)
      → vram_written (mixed_banks own theirs.bytes) Arm7 at width value ≡ mixed_banks own (vram_written theirs Arm7 at width value).bytes
  banks_written at width value =
      written_allotted own.controls own.bytes theirs.bytes at width value long
      ∙ ap (λ (c : List ℕ). mixed_banks own (vram_written (let v : cells.Banks = record { bytes = theirs.bytes; controls = c } in v) Arm7 at width value).bytes) controls

-- ---- ports: no access of ARM7's changes how the memories are shared out

-- units that have the banks and WRAMCNT of others
record AreSharedAlike (u v : IoState) : Type 0 where
  pub vram : v.vram ≡ u.vram
  pub wramcnt : v.wramcnt ≡ u.wramcnt

read_alike : (now : Tick) (u : IoState) (at : ℕ) (width : Width) → AreSharedAlike u (port_read Seven now u at width)
read_alike now u at width = record {
  vram = λ i. record { bytes = read_left VideoMemory Seven now u at width refl i; controls = read_left BankControls Seven now u at width refl i };
  wramcnt = read_left WramControl Seven now u at width refl;
}

write_alike : (now : Tick) (u : IoState) (at : ℕ) (width : Width) (value : ℕ) → AreSharedAlike u (port_written Seven now u at width value)
write_alike now u at width value =
    let bytes = write_left VideoMemory Seven now u at width value (covers_all (keeps_part VideoMemory Seven) Seven at width refl) in
    let controls = write_left BankControls Seven now u at width value (covers_all (keeps_part BankControls Seven) Seven at width refl) in
    record {
      vram = λ i. record { bytes = bytes i; controls = controls i };
      wramcnt = write_left WramControl Seven now u at width value (covers_all (keeps_part WramControl Seven) Seven at width refl);
    }

so_alike : (own : SharedPart) (shared : List ℕ) (u v : IoState) → AreSharedAlike u v → IsSharedSo own shared u → IsSharedSo own shared v
so_alike own shared u v alike so = record {
  wramcnt = so.wramcnt ∙ sym alike.wramcnt;
  controls = so.controls ∙ ap (λ (b : cells.Banks). b.controls) (sym alike.vram);
  shared = so.shared;
  bytes = so.bytes ∙ ap (λ (b : cells.Banks). length b.bytes) (sym alike.vram);
}

stop_alike : (refused : Option Stop) (u v : IoState) → AreSharedAlike u v → AreSharedAlike u (unless_stopped refused u v)
stop_alike None u v alike = alike
stop_alike (Some stop) u v alike = record { vram = refl; wramcnt = refl }

-- ARM9's bytes of video memory are a part of the units, which no register of ARM7's touches
abbrev of_memory : UnitPart → Bool
of_memory = is_part VideoMemory

module _ (own : SharedPart) (shared : List ℕ) (u : IoState) (so : IsSharedSo own shared u) (at : ℕ) (width : Width) where
  abbrev there : IoState
  there = shares_put own u

  as_graft : (v : IoState) → AreSharedAlike u v → shares_put own v ≡ io_graft of_memory there v
  as_graft v alike = λ i. record v {
    vram = record {
      bytes = mixed (is_beyond_seven own.vram.controls) own.vram.bytes (ap (λ (b : cells.Banks). b.bytes) alike.vram i);
      controls = (so.controls ∙ ap (λ (b : cells.Banks). b.controls) (sym alike.vram)) i;
    };
    wramcnt = (so.wramcnt ∙ sym alike.wramcnt) i;
  }

  ports_pass : PortsPass (shares_put own) Seven u at width
  ports_pass =
      let it = as_graft u (record { vram = refl; wramcnt = refl }) in
      let p = port_passes of_memory there Seven u at width (covers_all (touches_none of_memory Seven) Seven at width refl) in
      record {
        value = λ now. ap (λ (x : IoState). port_value Seven now x at width) it ∙ p.value now;
        read = λ now. ap (λ (x : IoState). port_read Seven now x at width) it ∙ p.read now
            ∙ sym (as_graft (port_read Seven now u at width) (read_alike now u at width));
        refusal = λ value. ap (λ (x : IoState). port_refusal Seven x at width value) it ∙ p.refusal value;
        written = λ now value. ap (λ (x : IoState). port_written Seven now x at width value) it ∙ p.written now value
            ∙ sym (as_graft (port_written Seven now u at width value) (write_alike now u at width value));
      }

-- ---- accesses

module _ (own : SharedPart) (m : MapState) (so : IsSharedSo own m.memories.shared m.io) where
  abbrev shared_changed : List ℕ → List ℕ
  shared_changed = shared_put own

  banks_pass : (space : Space) (at : ℕ) (width : Width) → space ≡ Arm7 → BanksPass (shares_put own) m.io space at width
  banks_pass space at width e = subst (λ (s : Space). BanksPass (shares_put own) m.io s at width) (sym e) (record {
    value = banks_value own.vram m.io.vram so.controls so.bytes at width;
    written = λ value. ap (λ (b : cells.Banks). with_shares b own.wramcnt m.io) (banks_written own.vram m.io.vram so.controls so.bytes at width value);
  })

  passes : (width : Width) (place : Place) → IsPast (is_shown_to_nine own.wramcnt) width place → PlacePasses shared_changed (shares_put own) Seven m width place
  passes width (Cell Shared at) past = record {
    number = number_other (is_shown_to_nine own.wramcnt) own.shared m.memories.shared width (aligned_down width at) so.shared past;
    put = λ value. with_number_other (is_shown_to_nine own.wramcnt) own.shared m.memories.shared width (aligned_down width at) value so.shared past;
  }
  passes width (Cell _ at) past = tt
  passes width (Banks space at) past = banks_pass space at width past
  passes width (Port at) past = ports_pass own m.memories.shared m.io so (aligned_down width at) width
  passes width (Rom at) past = tt
  passes width Nothing past = tt

  passes_at : (at : ℕ) (width : Width) → PlacePasses shared_changed (shares_put own) Seven m width (place_of Seven m.io.wramcnt at)
  passes_at at width =
      passes width (place_of Seven m.io.wramcnt at)
      (subst (λ (w : ℕ). IsPast (is_shown_to_nine w) width (place_of Seven m.io.wramcnt at)) (sym so.wramcnt) (place_past m.io.wramcnt at width))

  fetch_by : (width : Width) (place : Place) → PlacePasses shared_changed (shares_put own) Seven m width place → FetchPasses shared_changed (shares_put own) Seven m width place
  fetch_by width (Port at) h = tt
  fetch_by width (Cell memory at) h = h
  fetch_by width (Banks space at) h = h
  fetch_by width (Rom at) h = h
  fetch_by width Nothing h = h

  pub value : (now : Tick) (at : ℕ) (width : Width) → map_value Seven now (map_put own m) at width ≡ map_value Seven now m at width
  value now at width = passed.value shared_changed (shares_put own) Seven m so.wramcnt at width now (passes_at at width)

  pub fetched : (at : ℕ) (width : Width) → map_fetched Seven (map_put own m) at width ≡ map_fetched Seven m at width
  fetched at width = passed.fetched shared_changed (shares_put own) Seven m so.wramcnt at width (fetch_by width (place_of Seven m.io.wramcnt at) (passes_at at width))

  pub read : (now : Tick) (at : ℕ) (width : Width) → map_read Seven now (map_put own m) at width ≡ map_put own (map_read Seven now m at width)
  read now at width = passed.read shared_changed (shares_put own) Seven m so.wramcnt at width now (passes_at at width)

  pub refusal : (at : ℕ) (width : Width) (number : ℕ) → map_refusal Seven (map_put own m) at width number ≡ map_refusal Seven m at width number
  refusal at width number = passed.refusal shared_changed (shares_put own) Seven m so.wramcnt at width number (passes_at at width)

  pub written : (now : Tick) (at : ℕ) (width : Width) (number : ℕ) → map_written Seven now (map_put own m) at width number ≡ map_put own (map_written Seven now m at width number)
  written now at width number = passed.written shared_changed (shares_put own) Seven m so.wramcnt at width now number (passes_at at width)

  read_stays_there : (now : Tick) (place : Place) (width : Width) → (let left = after_read_at Seven now place m width in IsSharedSo own left.memories.shared left.io)
  read_stays_there now (Cell memory at) width = so
  read_stays_there now (Banks space at) width = so
  read_stays_there now (Port at) width =
      let down = aligned_down width at in so_alike own m.memories.shared m.io (port_read Seven now m.io down width) (read_alike now m.io down width) so
  read_stays_there now (Rom at) width = so
  read_stays_there now Nothing width = so

  pub read_stays : (now : Tick) (at : ℕ) (width : Width)
      → IsSharedSo own (map_read Seven now m at width).memories.shared (map_read Seven now m at width).io
  unfolding map_read
  read_stays now at width = read_stays_there now (place_of Seven m.io.wramcnt at) width

  written_stays_there : (now : Tick) (place : Place) (width : Width) (number : ℕ)
      → (let left = written_at Seven now place m width number in IsSharedSo own left.memories.shared left.io)
  written_stays_there now (Cell Shared at) width number = record {
    wramcnt = so.wramcnt;
    controls = so.controls;
    shared = so.shared ∙ sym (with_number_length width m.memories.shared (aligned_down width at) number);
    bytes = so.bytes;
  }
  written_stays_there now (Cell _ at) width number = so
  written_stays_there now (Banks space at) width number = record {
    wramcnt = so.wramcnt;
    controls = so.controls ∙ sym (written_controls m.io.vram space at width number);
    shared = so.shared;
    bytes = so.bytes ∙ sym (written_length m.io.vram space at width number);
  }
  written_stays_there now (Port at) width number =
      let down = aligned_down width at in
      let after = port_written Seven now m.io down width number in
      let refused = port_refusal Seven m.io down width number in
      so_alike own m.memories.shared m.io (unless_stopped refused m.io after) (stop_alike refused m.io after (write_alike now m.io down width number)) so
  written_stays_there now (Rom at) width number = so
  written_stays_there now Nothing width number = so

  pub written_stays : (now : Tick) (at : ℕ) (width : Width) (number : ℕ)
      → IsSharedSo own (map_written Seven now m at width number).memories.shared (map_written Seven now m at width number).io
  unfolding map_written
  written_stays now at width number = written_stays_there now (place_of Seven m.io.wramcnt at) width number

-- ---- the DMA unit

module _ (own : SharedPart) (m : MapState) (so : IsSharedSo own m.memories.shared m.io) (now : Tick) (unit : DmaUnit) where
  abbrev taken : MapState
  taken = unit_taken Seven now unit m

  -- taking it from the plan changes the channels alone
  taken_stays : IsSharedSo own taken.memories.shared taken.io
  taken_stays =
      let left = unit_read Seven now unit m in
      so_alike own left.memories.shared left.io taken.io (record { vram = refl; wramcnt = refl }) (read_stays own m so now unit.from unit.width)

  moved : (waits : ℕ) (u : IoState) → channel_moved Seven now waits (shares_put own u) ≡ shares_put own (channel_moved Seven now waits u)
  moved waits u = refl

  abbrev halfway : own.wramcnt ≡ (unit_read Seven now unit m).io.wramcnt
  halfway = (read_stays own m so now unit.from unit.width).wramcnt

  pub unit_refuses : unit_refusal Seven now unit (map_put own m) ≡ unit_refusal Seven now unit m
  unit_refuses =
      passed.unit_refuses (shared_put own) (shares_put own) Seven m now unit so.wramcnt (passes_at own m so unit.from unit.width) moved halfway taken_stays.wramcnt
      (passes_at own taken taken_stays unit.to unit.width)

  pub unit_moves : unit_moved Seven now unit (map_put own m) ≡ map_put own (unit_moved Seven now unit m)
  unit_moves =
      passed.unit_moves (shared_put own) (shares_put own) Seven m now unit so.wramcnt (passes_at own m so unit.from unit.width) moved halfway taken_stays.wramcnt
      (passes_at own taken taken_stays unit.to unit.width)
