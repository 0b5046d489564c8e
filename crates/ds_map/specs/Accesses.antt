use Rattle.std.specs.Prelude.{ℕ, ◌-◌, ◌%◌, ◌&&◌, Bool, true, false, if◌then◌else◌, Option, None}
use Rattle.ds_base.specs.Numbers.{aligned_down, number_at, with_number}
use Rattle.ds_base.specs.declared.memories.Memory.{Memory}
use Rattle.ds_base.specs.declared.memories.Memory.TheVariants.{Palette, Vram, Oam}
use Rattle.ds_base.specs.declared.memories.Width.{Width}
use Rattle.ds_base.specs.declared.memories.Width.TheVariants.{Byte}
use Rattle.ds_base.specs.declared.left_out.Stop.{Stop}
use Rattle.ds_base.specs.declared.ticks.Tick.{Tick}
use Rattle.ds_base.specs.declared.processors.Proc.{Proc}
use Rattle.ds_base.specs.declared.processors.Proc.TheVariants.{Nine}
use Rattle.ds_places.specs.AddressTables.{place_of}
use Rattle.ds_places.specs.declared.kinds.Place.{Place}
use Rattle.ds_places.specs.declared.kinds.Place.TheVariants.{Cell, Banks, Port, Rom, Nothing}
use Rattle.ds_places.specs.BootRom.{boot_word}
use Rattle.ds_ports.specs.Ports.{part, port_read, port_refusal, port_value, port_written, unless_stopped}
use Rattle.vram_banks.specs.Cells.{vram_value, vram_written}
use Rattle.ds_map.specs.Maps.{MapState, MemoriesState, cells_of, with_cells}

-- What accesses past the tightly coupled memories read and write. They are aligned down to their width (ARM manual, A2.8 "Unaligned
-- access support").

-- what is read of the boot ROM: of the word that stands there, the part that the access covers
abbrev pub rom_value : Proc → ℕ → Width → ℕ
rom_value proc at width = part width (at % 4) (boot_word proc (at - at % 4))

-- what is read at a place, at a tick, and what the read leaves
abbrev pub value_at : Proc → Tick → Place → MapState → Width → ℕ
value_at proc now (Cell memory at) m width = number_at width (cells_of m.memories memory) (aligned_down width at)
value_at proc now (Banks space at) m width = vram_value m.io.vram space at width
value_at proc now (Port at) m width = port_value proc now m.io (aligned_down width at) width
value_at proc now (Rom at) m width = rom_value proc (aligned_down width at) width
value_at proc now Nothing m width = 0

abbrev pub after_read_at : Proc → Tick → Place → MapState → Width → MapState
after_read_at proc now (Port at) m width = record m { io = port_read proc now m.io (aligned_down width at) width }
after_read_at proc now place m width = m

-- what is fetched at a place: from a port 0 (our choice), and elsewhere what is read, which is the same at each tick
abbrev pub fetched_at : Proc → Place → MapState → Width → ℕ
fetched_at proc (Port at) m width = 0
fetched_at proc place m width = value_at proc (record { 0 = 0 }) place m width

-- the memories that take no bytes of ARM9, and its byte accesses (GBATEK, "DS Memory Map": palettes, video memory and OAM are written
-- by halves and words)
abbrev pub takes_no_bytes : Memory → Bool
takes_no_bytes Palette = true
takes_no_bytes Vram = true
takes_no_bytes Oam = true
takes_no_bytes memory = false

abbrev pub is_byte_of_nine : Proc → Width → Bool
is_byte_of_nine Nine Byte = true
is_byte_of_nine proc width = false

-- the stop for which a write is refused
abbrev pub refusal_at : Proc → Place → MapState → Width → ℕ → Option Stop
refusal_at proc (Port at) m width value = port_refusal proc m.io (aligned_down width at) width value
refusal_at proc place m width value = None

-- what a write of a memory's cell leaves
abbrev pub cell_put : Proc → Memory → MemoriesState → ℕ → Width → ℕ → MemoriesState
cell_put proc memory m at width value =
    if is_byte_of_nine proc width && takes_no_bytes memory then m
    else with_cells memory m (with_number width (cells_of m memory) (aligned_down width at) value)

-- what a write leaves: one of a port that is refused leaves all
abbrev pub written_at : Proc → Tick → Place → MapState → Width → ℕ → MapState
written_at proc now (Cell memory at) m width value = record m { memories = cell_put proc memory m.memories at width value }
written_at proc now (Banks space at) m width value =
    if is_byte_of_nine proc width && takes_no_bytes Vram then m
    else record m { io = record m.io { vram = vram_written m.io.vram space at width value } }
written_at proc now (Port at) m width value =
    record m {
      io = unless_stopped (port_refusal proc m.io (aligned_down width at) width value) m.io
          (port_written proc now m.io (aligned_down width at) width value);
    }
written_at proc now place m width value = m

-- what a processor reads, fetches and writes at an address at a tick, what a read leaves, and why a write is refused, past the tightly coupled
-- memories
unfoldable pub map_value : Proc → Tick → MapState → ℕ → Width → ℕ
map_value proc now m at width = value_at proc now (place_of proc m.io.wramcnt at) m width

unfoldable pub map_read : Proc → Tick → MapState → ℕ → Width → MapState
map_read proc now m at width = after_read_at proc now (place_of proc m.io.wramcnt at) m width

unfoldable pub map_fetched : Proc → MapState → ℕ → Width → ℕ
map_fetched proc m at width = fetched_at proc (place_of proc m.io.wramcnt at) m width

unfoldable pub map_refusal : Proc → MapState → ℕ → Width → ℕ → Option Stop
map_refusal proc m at width value = refusal_at proc (place_of proc m.io.wramcnt at) m width value

unfoldable pub map_written : Proc → Tick → MapState → ℕ → Width → ℕ → MapState
map_written proc now m at width value = written_at proc now (place_of proc m.io.wramcnt at) m width value
