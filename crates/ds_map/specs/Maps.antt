use Rattle.std.specs.Prelude.{ℕ, List, []}
use Rattle.ds_base.specs.declared.memories.Memory.{Memory}
use Rattle.ds_base.specs.declared.memories.Memory.TheVariants.{Main, Shared, Own7, Palette, Oam}
use Rattle.ds_base.specs.declared.processors.Proc.{Proc}
use Rattle.ds_base.specs.declared.processors.Proc.TheVariants.{Nine, Seven}
use Rattle.ds_ports.specs.declared.units.IoParts.{IoParts as IoState}

-- What stands behind the addresses past the tightly coupled memories (GBATEK, "DS Memory Map").

-- the memories there: main memory and shared work RAM; ARM7's own work RAM; palettes and OAM. Video memory is among the units behind the ports
pub record MemoriesState : Type 0 where
  pub main : List ℕ
  pub shared : List ℕ
  pub wram : List ℕ
  pub palette : List ℕ
  pub oam : List ℕ

-- the bytes of ARM9, or those of ARM7
abbrev pub bytes_by : Proc → List ℕ → List ℕ → List ℕ
bytes_by Nine nine seven = nine
bytes_by Seven nine seven = seven

-- what a processor reaches past the tightly coupled memories: of the memories its own, and the units behind the ports, which have video memory and
-- WRAMCNT
pub record MapState : Type 0 where
  pub memories : MemoriesState
  pub io : IoState

-- the bytes of a memory as cells at addresses; the tightly coupled ones aren't there, and video memory is reached by its banks
abbrev pub cells_of : MemoriesState → Memory → List ℕ
cells_of m Main = m.main
cells_of m Shared = m.shared
cells_of m Own7 = m.wram
cells_of m Palette = m.palette
cells_of m Oam = m.oam
cells_of m memory = []

-- other bytes in a memory that has cells at addresses
abbrev pub with_cells : Memory → MemoriesState → List ℕ → MemoriesState
with_cells Main m bytes = record m { main = bytes }
with_cells Shared m bytes = record m { shared = bytes }
with_cells Own7 m bytes = record m { wram = bytes }
with_cells Palette m bytes = record m { palette = bytes }
with_cells Oam m bytes = record m { oam = bytes }
with_cells memory m bytes = m
