use Rattle.std.specs.Prelude.{ℕ, ◌≡◌, ◌==◌, nat_le, nat_lt, not, Bool, true, false, if◌then◌else◌, List, [], length}
use Rattle.ds_ports.specs.declared.units.IoParts.{IoParts as IoState}
use Rattle.ds_ports.specs.Io.{with_shares}
use Rattle.vram_banks.specs.Cells as cells
use Rattle.vram_banks.specs.Cells.{is_allotted}
use Rattle.vram_banks.specs.MixLaws.{mixed}
use Rattle.ds_map.specs.Maps.{MapState}

-- What the processors share by the present map: the parts that it shows, laid into a map and taken out of it.

-- the byte of shared work RAM at a place is shown to ARM9, by WRAMCNT (GBATEK, "DS Memory Control - WRAM")
abbrev pub is_shown_to_nine : ℕ → ℕ → Bool
is_shown_to_nine wramcnt at =
    if wramcnt == 0 then true else (if wramcnt == 1 then nat_le 0x4000 at else (if wramcnt == 2 then nat_lt at 0x4000 else false))

-- a byte of the memory of all banks is out of ARM7's reach
abbrev pub is_beyond_seven : List ℕ → ℕ → Bool
is_beyond_seven controls cell = not (is_allotted controls cell)

-- how the memories are shared out, and their bytes, of which those count that ARM9 alone reaches
pub record SharedPart : Type 0 where
  pub shared : List ℕ
  pub vram : cells.Banks
  pub wramcnt : ℕ

-- video memory with ARM9's bytes, and with others in the banks that are allotted to ARM7
abbrev pub mixed_banks : cells.Banks → List ℕ → cells.Banks
mixed_banks own others = record own { bytes = mixed (is_beyond_seven own.controls) own.bytes others }

abbrev pub shares_put : SharedPart → IoState → IoState
shares_put own u = with_shares (mixed_banks own.vram u.vram.bytes) own.wramcnt u

abbrev pub shared_put : SharedPart → List ℕ → List ℕ
shared_put own others = mixed (is_shown_to_nine own.wramcnt) own.shared others

-- the map with ARM9's bytes, shared out so
abbrev pub map_put : SharedPart → MapState → MapState
map_put own m = record m { memories = record m.memories { shared = shared_put own m.memories.shared }; io = shares_put own m.io }

-- ARM9's bytes, as the memories are shared out; the others count for nothing, and are 0 here
abbrev pub shared_of : List ℕ → IoState → SharedPart
shared_of shared u = record {
  shared = mixed (is_shown_to_nine u.wramcnt) shared [];
  vram = mixed_banks u.vram [];
  wramcnt = u.wramcnt;
}

-- the memories are shared out so, and have as many bytes
pub record IsSharedSo (own : SharedPart) (theirs : List ℕ) (u : IoState) : Type 0 where
  pub wramcnt : own.wramcnt ≡ u.wramcnt
  pub controls : own.vram.controls ≡ u.vram.controls
  pub shared : length own.shared ≡ length theirs
  pub bytes : length own.vram.bytes ≡ length u.vram.bytes
