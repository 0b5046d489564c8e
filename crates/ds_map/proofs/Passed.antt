use Rattle.ds_map.proofs.Words.{Banks, Bool, Cell, DmaUnit, IoState, List, MapState, MemoriesState, Memory, None, Nothing, Option, Place, Port, Proc}
use Rattle.ds_map.proofs.Words.{Rom, Shared, Some, Space, Stop, Tick, Vram, Width, after_read_at, aligned_down, and_false, ap, cell_put, cells_of}
use Rattle.ds_map.proofs.Words.{channel_moved, false, fetched_at, if◌then◌else◌, is_byte_of_nine, map_after_unit, map_fetched, map_read, map_refusal}
use Rattle.ds_map.proofs.Words.{map_value, map_written, number_at, passes, place_of, port_read, port_refusal, port_value, port_written, reads, refl}
use Rattle.ds_map.proofs.Words.{refusal_at, sym, takes_no_bytes, unit_moved, unit_read, unit_refusal, unit_taken, unit_waits, unless_stopped}
use Rattle.ds_map.proofs.Words.{value_at, vram_value, vram_written, with_cells, with_number, written_at, ℕ, ◌&&◌, ◌+◌, ◌∙◌, ◌≡◌}
use Rattle.ds_ports.specs.Touches.{UnitPart, BankControls, VideoMemory, WramControl, io_graft, touches_none}
use Rattle.ds_map.specs.Waits.{wait_at}
use Rattle.ds_base.specs.Deeds.{pick}
use Rattle.ds_ports.proofs.Covered.{Covers, chosen, read_passes, refusal_passes, value_same, write_passes}
use Rattle.vram_banks.specs.Cells as cells

-- An access of the map passes a change of what is in it where what stands at its address passes it: it comes to the same, and leaves what it left, changed. Proved once, for
-- all changes of shared work RAM and of the units.

-- what stands there passes: bytes of shared work RAM, video memory, ports
pub record CellPasses (shared : List ℕ → List ℕ) (bytes : List ℕ) (at : ℕ) (width : Width) : Type 0 where
  pub number : number_at width (shared bytes) at ≡ number_at width bytes at
  pub put : (value : ℕ) → with_number width (shared bytes) at value ≡ shared (with_number width bytes at value)

pub record BanksPass (io : IoState → IoState) (u : IoState) (space : Space) (at : ℕ) (width : Width) : Type 0 where
  pub value : vram_value (io u).vram space at width ≡ vram_value u.vram space at width
  pub written : (value : ℕ) → (let left : IoState = record (io u) { vram = vram_written (io u).vram space at width value } in left) ≡ io (record u { vram = vram_written u.vram space at width value })

pub record PortsPass (io : IoState → IoState) (proc : Proc) (u : IoState) (at : ℕ) (width : Width) : Type 0 where
  pub value : (now : Tick) → port_value proc now (io u) at width ≡ port_value proc now u at width
  pub read : (now : Tick) → port_read proc now (io u) at width ≡ io (port_read proc now u at width)
  pub refusal : (value : ℕ) → port_refusal proc (io u) at width value ≡ port_refusal proc u at width value
  pub written : (now : Tick) (value : ℕ) → port_written proc now (io u) at width value ≡ io (port_written proc now u at width value)

stop_so : (f : IoState → IoState) (refused : Option Stop) (u v : IoState) → unless_stopped refused (f u) (f v) ≡ f (unless_stopped refused u v)
stop_so f None u v = refl
stop_so f (Some stop) u v = refl

-- shared work RAM takes bytes of both processors
shared_taken : (proc : Proc) (m : MemoriesState) (at : ℕ) (width : Width) (value : ℕ) → cell_put proc Shared m at width value ≡ record m { shared = with_number width m.shared (aligned_down width at) value }
shared_taken proc m at width value =
    ap (λ (b : Bool). if b then m else record m { shared = with_number width m.shared (aligned_down width at) value }) (and_false (is_byte_of_nine proc width))

module _ (shared : List ℕ → List ℕ) (io : IoState → IoState) where
  abbrev memories_changed : MemoriesState → MemoriesState
  memories_changed m = record m { shared = shared m.shared }

  abbrev pub changed : MapState → MapState
  changed m = record m { memories = memories_changed m.memories; io = io m.io }

  -- and what is fetched of ports counts for nothing
  abbrev pub PlacePasses : Proc → MapState → Width → Place → Type 0
  PlacePasses proc m width (Cell Shared at) = CellPasses shared m.memories.shared (aligned_down width at) width
  PlacePasses proc m width (Banks space at) = BanksPass io m.io space at width
  PlacePasses proc m width (Port at) = PortsPass io proc m.io (aligned_down width at) width
  PlacePasses proc m width place = Unit {0}

  abbrev pub FetchPasses : Proc → MapState → Width → Place → Type 0
  FetchPasses proc m width (Port at) = Unit {0}
  FetchPasses proc m width place = PlacePasses proc m width place

  module _ (proc : Proc) (m : MapState) where
    value_there : (now : Tick) (place : Place) (width : Width) → PlacePasses proc m width place → value_at proc now place (changed m) width ≡ value_at proc now place m width
    value_there now (Cell Shared at) width h = h.number
    value_there now (Cell _ at) width h = refl
    value_there now (Banks space at) width h = h.value
    value_there now (Port at) width h = h.value now
    value_there now (Rom at) width h = refl
    value_there now Nothing width h = refl

    fetched_there : (place : Place) (width : Width) → FetchPasses proc m width place → fetched_at proc place (changed m) width ≡ fetched_at proc place m width
    fetched_there (Cell Shared at) width h = h.number
    fetched_there (Cell _ at) width h = refl
    fetched_there (Banks space at) width h = h.value
    fetched_there (Port at) width h = refl
    fetched_there (Rom at) width h = refl
    fetched_there Nothing width h = refl

    read_there : (now : Tick) (place : Place) (width : Width) → PlacePasses proc m width place
        → after_read_at proc now place (changed m) width ≡ changed (after_read_at proc now place m width)
    read_there now (Port at) width h = ap (λ (u : IoState). (let left : MapState = record (changed m) { io = u } in left)) (h.read now)
    read_there now (Cell memory at) width h = refl
    read_there now (Banks space at) width h = refl
    read_there now (Rom at) width h = refl
    read_there now Nothing width h = refl

    refusal_there : (place : Place) (width : Width) (number : ℕ) → PlacePasses proc m width place → refusal_at proc place (changed m) width number ≡ refusal_at proc place m width number
    refusal_there (Port at) width number h = h.refusal number
    refusal_there (Cell memory at) width number h = refl
    refusal_there (Banks space at) width number h = refl
    refusal_there (Rom at) width number h = refl
    refusal_there Nothing width number h = refl

    cell_there : (memory : Memory) (at : ℕ) (width : Width) (number : ℕ) → PlacePasses proc m width (Cell memory at)
        → cell_put proc memory (memories_changed m.memories) at width number ≡ memories_changed (cell_put proc memory m.memories at width number)
    cell_there Shared at width number h =
        shared_taken proc (memories_changed m.memories) at width number
        ∙ ap (λ (bytes : List ℕ). (let left : MemoriesState = record m.memories { shared = bytes } in left)) (h.put number)
        ∙ ap memories_changed (sym (shared_taken proc m.memories at width number))
    cell_there memory at width number h =
        chosen memories_changed (is_byte_of_nine proc width && takes_no_bytes memory) m.memories
        (with_cells memory m.memories (with_number width (cells_of m.memories memory) (aligned_down width at) number))

    written_there : (now : Tick) (place : Place) (width : Width) (number : ℕ) → PlacePasses proc m width place
        → written_at proc now place (changed m) width number ≡ changed (written_at proc now place m width number)
    written_there now (Cell memory at) width number h = ap (λ (x : MemoriesState). (let left : MapState = record (changed m) { memories = x } in left)) (cell_there memory at width number h)
    written_there now (Banks space at) width number h =
        let refuses = is_byte_of_nine proc width && takes_no_bytes Vram in
        ap (λ (u : IoState). if refuses then changed m else (let left : MapState = record (changed m) { io = u } in left)) (h.written number)
        ∙ chosen changed refuses m (record m { io = record m.io { vram = vram_written m.io.vram space at width number } })
    written_there now (Port at) width number h =
        let refused = port_refusal proc m.io (aligned_down width at) width number in
        let after = port_written proc now m.io (aligned_down width at) width number in
        ap (λ (u : IoState). (let left : MapState = record (changed m) { io = u } in left)) (
        ap (λ (r : Option Stop). unless_stopped r (io m.io) (port_written proc now (io m.io) (aligned_down width at) width number)) (h.refusal number)
        ∙ ap (unless_stopped refused (io m.io)) (h.written now number) ∙ stop_so io refused m.io after)
    written_there now (Rom at) width number h = refl
    written_there now Nothing width number h = refl

    -- at an address
    module _ (same : (io m.io).wramcnt ≡ m.io.wramcnt) (at : ℕ) (width : Width) where
      abbrev here : Place
      here = place_of proc m.io.wramcnt at

      pub value : (now : Tick) → PlacePasses proc m width here → map_value proc now (changed m) at width ≡ map_value proc now m at width
      unfolding map_value
      value now h = ap (λ (w : ℕ). value_at proc now (place_of proc w at) (changed m) width) same ∙ value_there now here width h

      pub fetched : FetchPasses proc m width here → map_fetched proc (changed m) at width ≡ map_fetched proc m at width
      unfolding map_fetched
      fetched h = ap (λ (w : ℕ). fetched_at proc (place_of proc w at) (changed m) width) same ∙ fetched_there here width h

      pub read : (now : Tick) → PlacePasses proc m width here → map_read proc now (changed m) at width ≡ changed (map_read proc now m at width)
      unfolding map_read
      read now h = ap (λ (w : ℕ). after_read_at proc now (place_of proc w at) (changed m) width) same ∙ read_there now here width h

      pub refusal : (number : ℕ) → PlacePasses proc m width here → map_refusal proc (changed m) at width number ≡ map_refusal proc m at width number
      unfolding map_refusal
      refusal number h = ap (λ (w : ℕ). refusal_at proc (place_of proc w at) (changed m) width number) same ∙ refusal_there here width number h

      pub written : (now : Tick) (number : ℕ) → PlacePasses proc m width here → map_written proc now (changed m) at width number ≡ changed (map_written proc now m at width number)
      unfolding map_written
      written now number h = ap (λ (w : ℕ). written_at proc now (place_of proc w at) (changed m) width number) same ∙ written_there now here width number h

  -- ---- the DMA unit

  module _ (proc : Proc) (m : MapState) (now : Tick) (unit : DmaUnit) (same : (io m.io).wramcnt ≡ m.io.wramcnt) (from : PlacePasses proc m unit.width (place_of proc m.io.wramcnt unit.from))
      (moved : (waits : ℕ) (u : IoState) → channel_moved proc now waits (io u) ≡ io (channel_moved proc now waits u))
      (halfway : (io (unit_read proc now unit m).io).wramcnt ≡ (unit_read proc now unit m).io.wramcnt) where
    abbrev taken : MapState
    taken = unit_taken proc now unit m

    abbrev moved_number : ℕ
    moved_number = map_value proc now m unit.from unit.width

    waits_so : unit_waits proc now unit (changed m) ≡ unit_waits proc now unit m
    waits_so =
        ap (λ (x : MapState). wait_at proc (io m.io).wramcnt unit.from unit.width + wait_at proc x.io.wramcnt unit.to unit.width) (read proc m same unit.from unit.width now from)
        ∙ ap (λ (w : ℕ). wait_at proc w unit.from unit.width + wait_at proc (io (unit_read proc now unit m).io).wramcnt unit.to unit.width) same
        ∙ ap (λ (w : ℕ). wait_at proc m.io.wramcnt unit.from unit.width + wait_at proc w unit.to unit.width) halfway

    taken_so : unit_taken proc now unit (changed m) ≡ changed taken
    taken_so =
        let left = unit_read proc now unit m in
        let waits = unit_waits proc now unit m in
        ap (λ (n : ℕ). (let next : MapState = record (unit_read proc now unit (changed m)) { io = channel_moved proc now n (unit_read proc now unit (changed m)).io } in next)) waits_so
        ∙ ap (λ (x : MapState). (let next : MapState = record x { io = channel_moved proc now waits x.io } in next)) (read proc m same unit.from unit.width now from)
        ∙ ap (λ (u : IoState). (let next : MapState = record (changed left) { io = u } in next)) (moved waits left.io)

    module _ (still : (io taken.io).wramcnt ≡ taken.io.wramcnt) (to : PlacePasses proc taken unit.width (place_of proc taken.io.wramcnt unit.to)) where
      pub unit_refuses : unit_refusal proc now unit (changed m) ≡ unit_refusal proc now unit m
      unit_refuses =
          ap (λ (x : MapState). map_refusal proc x unit.to unit.width (map_value proc now (changed m) unit.from unit.width)) taken_so
          ∙ ap (map_refusal proc (changed taken) unit.to unit.width) (value proc m same unit.from unit.width now from)
          ∙ refusal proc taken still unit.to unit.width moved_number to

      after_so : (refused : Option Stop) → map_after_unit refused proc now unit (changed m) ≡ changed (map_after_unit refused proc now unit m)
      after_so None =
          ap (λ (x : MapState). map_written proc now x unit.to unit.width (map_value proc now (changed m) unit.from unit.width)) taken_so
          ∙ ap (map_written proc now (changed taken) unit.to unit.width) (value proc m same unit.from unit.width now from)
          ∙ written proc taken still unit.to unit.width now moved_number to
      after_so (Some stop) = read proc m same unit.from unit.width now from

      pub unit_moves : unit_moved proc now unit (changed m) ≡ changed (unit_moved proc now unit m)
      unit_moves = ap (λ (r : Option Stop). map_after_unit r proc now unit (changed m)) unit_refuses ∙ after_so (unit_refusal proc now unit m)

-- ---- some parts of the units from elsewhere, of those that the place's registers don't touch

pub port_passes : (P : UnitPart → Bool) (t : IoState) (proc : Proc) (u : IoState) (at : ℕ) (width : Width) → Covers (touches_none P proc) proc at width → PortsPass (io_graft P t) proc u at width
port_passes P t proc u at width h = record {
  value = λ now. value_same (touches_none P proc) proc now u (io_graft P t u) (reads P t proc now u) at width h;
  read = λ now. read_passes (touches_none P proc) proc (io_graft P t) (passes P t proc) now u at width h;
  refusal = λ value. refusal_passes (touches_none P proc) proc (io_graft P t) (passes P t proc) u at width value h;
  written = λ now value. write_passes (touches_none P proc) proc (io_graft P t) (passes P t proc) now u at width value h;
}

-- of video memory and of how memories are shared out none is of them
pub record OfOthers (P : UnitPart → Bool) : Type 0 where
  pub bytes : P VideoMemory ≡ false
  pub controls : P BankControls ≡ false
  pub wram : P WramControl ≡ false

abbrev pub IsPast : (UnitPart → Bool) → Proc → Width → Place → Type 0
IsPast P proc width (Port at) = Covers (touches_none P proc) proc (aligned_down width at) width
IsPast P proc width place = Unit {0}

module _ (P : UnitPart → Bool) (others : OfOthers P) (t : IoState) where
  same_banks : (u : IoState) (v : cells.Banks) → (let w : cells.Banks = record { bytes = pick (P VideoMemory) t.vram.bytes v.bytes; controls = pick (P BankControls) t.vram.controls v.controls } in w) ≡ v
  same_banks u v = λ i. record { bytes = pick (others.bytes i) t.vram.bytes v.bytes; controls = pick (others.controls i) t.vram.controls v.controls }

  pub place_passes : (proc : Proc) (m : MapState) (width : Width) (place : Place) → IsPast P proc width place → PlacePasses (λ bytes. bytes) (io_graft P t) proc m width place
  place_passes proc m width (Cell Shared at) h = record { number = refl; put = λ value. refl }
  place_passes proc m width (Cell _ at) h = tt
  place_passes proc m width (Banks space at) h = record {
    value = ap (λ (v : cells.Banks). vram_value v space at width) (same_banks m.io m.io.vram);
    written = λ value.
        let put : cells.Banks → IoState = λ v. record (io_graft P t m.io) { vram = v } in
        ap (λ (v : cells.Banks). put (vram_written v space at width value)) (same_banks m.io m.io.vram) ∙ ap put (sym (same_banks m.io (vram_written m.io.vram space at width value)));
  }
  place_passes proc m width (Port at) h = port_passes P t proc m.io (aligned_down width at) width h
  place_passes proc m width (Rom at) h = tt
  place_passes proc m width Nothing h = tt

  -- what is fetched passes at every address
  pub fetch_passes : (proc : Proc) (m : MapState) (width : Width) (place : Place) → FetchPasses (λ bytes. bytes) (io_graft P t) proc m width place
  fetch_passes proc m width (Port at) = tt
  fetch_passes proc m width (Cell memory at) = place_passes proc m width (Cell memory at) tt
  fetch_passes proc m width (Banks space at) = place_passes proc m width (Banks space at) tt
  fetch_passes proc m width (Rom at) = tt
  fetch_passes proc m width Nothing = tt
