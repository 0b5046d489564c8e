use Rattle.std.specs.Prelude.{ℕ, Bool, true, false, List, [], ◌∷◌, ◌++◌, length}
use Rattle.ds_base.specs.Memories.{memory_size}
use Rattle.ds_base.specs.Numbers.{zeroes}
use Rattle.ds_base.specs.declared.memories.Memory.{Memory}
use Rattle.ds_base.specs.declared.memories.Memory.TheVariants.{Main, Shared, Own7, Palette, Oam}
use Rattle.ds_base.specs.declared.processors.Proc.{Proc}
use Rattle.ds_base.specs.declared.processors.Proc.TheVariants.{Nine, Seven}
use Rattle.ds_places.specs.declared.kinds.Place.{Place}
use Rattle.ds_places.specs.declared.kinds.Place.TheVariants.{Cell}
use Rattle.ds_ports.specs.declared.units.IoParts.{IoParts as IoState}
use Rattle.ds_map.specs.Maps.{MapState, MemoriesState, bytes_by}

-- The parts of a map that a processor can't reach, and what two maps with the same reached parts have in common.

-- all are zeros
abbrev pub blank_memories : MemoriesState
blank_memories = record {
  main = zeroes (memory_size Main);
  shared = zeroes (memory_size Shared);
  wram = zeroes (memory_size Own7);
  palette = zeroes (memory_size Palette);
  oam = zeroes (memory_size Oam);
}

-- the memories that a processor reaches: ARM7 alone its own work RAM, and ARM9 alone palettes and OAM; what it doesn't reach has no bytes here
abbrev pub reached : Proc → MemoriesState → MemoriesState
reached proc m = record m { wram = bytes_by proc [] m.wram; palette = bytes_by proc m.palette []; oam = bytes_by proc m.oam [] }

-- the bytes that it doesn't reach, and that its accesses leave
abbrev pub unreached_wram : Proc → MemoriesState → List ℕ
unreached_wram proc m = bytes_by proc m.wram []

abbrev pub unreached_palette : Proc → MemoriesState → List ℕ
unreached_palette proc m = bytes_by proc [] m.palette

abbrev pub unreached_oam : Proc → MemoriesState → List ℕ
unreached_oam proc m = bytes_by proc [] m.oam

-- the same as one list, by which a view names what no call of it changes (our choice of form). No public clause speaks of it
abbrev pub unreached : Proc → MemoriesState → List ℕ
unreached proc m = length (unreached_palette proc m) ∷ unreached_palette proc m ++ unreached_oam proc m ++ unreached_wram proc m

-- it reaches a memory; the place of an address is one of it
abbrev pub reaches : Proc → Memory → Bool
reaches Nine Own7 = false
reaches Seven Palette = false
reaches Seven Oam = false
reaches proc memory = true

abbrev pub is_reached : Proc → Place → Bool
is_reached proc (Cell memory at) = reaches proc memory
is_reached proc place = true

abbrev pub map_seen : Proc → MemoriesState → IoState → MapState
map_seen proc m io = record { memories = reached proc m; io = io }
