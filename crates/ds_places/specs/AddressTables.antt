use Rattle.std.specs.Prelude.{ℕ, ◌≡◌, ◌<◌, ◌≤◌, ◌+◌, ◌-◌, ◌%◌, ◌==◌, nat_le, Bool, ◌&&◌, if◌then◌else◌, List, [], ◌∷◌, All}
use Rattle.ds_base.specs.declared.processors.Proc.{Proc}
use Rattle.ds_base.specs.declared.processors.Proc.TheVariants.{Nine, Seven}
use Rattle.ds_base.specs.Memories.{memory_size, space_size}
use Rattle.ds_base.specs.declared.memories.Memory.{Memory}
use Rattle.ds_base.specs.declared.memories.Memory.TheVariants.{Main, Shared, Own7, Palette, Oam}
use Rattle.ds_base.specs.declared.memories.Space.{Space}
use Rattle.ds_base.specs.declared.memories.Space.TheVariants.{ABg, BBg, AObj, BObj, Lcdc, Arm7}
use Rattle.ds_places.specs.declared.kinds.Place.{Place}
use Rattle.ds_places.specs.declared.kinds.Place.TheVariants.{Cell, Banks, Port, Rom, Nothing}

-- what stands in a region: so many bytes of a memory from one of its cells on, or a space of video memory, each again and again; the
-- ports; the boot ROM; nothing
pub data Content : Type 0 where
  Cells : (memory : Memory) → (from bytes : ℕ) → Content
  Video : (space : Space) → Content
  Ports : Content
  BootRom : Content
  Empty : Content

-- a row of an address table: the first and the last address of a region, and what stands there
pub record Region : Type 0 where
  pub first : ℕ
  pub last : ℕ
  pub content : Content

abbrev pub region : ℕ → ℕ → Content → Region
region first last content = record { first = first; last = last; content = content }

-- regions that are asked for by themselves too: main memory and the ports, for both processors; ARM7's own work RAM, and its boot ROM (GBATEK,
-- "DS Memory Map")
abbrev pub main_region : Region
main_region = region 0x02000000 0x02FFFFFF (Cells Main 0 (memory_size Main))

abbrev pub own_region : Region
own_region = region 0x03800000 0x03FFFFFF (Cells Own7 0 (memory_size Own7))

abbrev pub ports_region : Region
ports_region = region 0x04000000 0x04FFFFFF Ports

abbrev pub seven_rom_region : Region
seven_rom_region = region 0x00000000 0x00003FFF BootRom

-- an address lies in a region, as a test
abbrev pub is_of_region : Region → ℕ → Bool
is_of_region r at = nat_le r.first at && nat_le at r.last

-- shared work RAM as ARM9 sees it, by WRAMCNT (GBATEK, "DS Memory Control - WRAM")
abbrev pub shared_for_nine : ℕ → Content
shared_for_nine wramcnt =
    if wramcnt == 0 then Cells Shared 0 (memory_size Shared) else (
    if wramcnt == 1 then Cells Shared 0x4000 0x4000 else (
    if wramcnt == 2 then Cells Shared 0 0x4000 else Empty))

-- and as ARM7 sees it; where it has none of it, its own work RAM stands there
abbrev pub shared_for_seven : ℕ → Content
shared_for_seven wramcnt =
    if wramcnt == 0 then Cells Own7 0 (memory_size Own7) else (
    if wramcnt == 1 then Cells Shared 0 0x4000 else (
    if wramcnt == 2 then Cells Shared 0x4000 0x4000 else Cells Shared 0 (memory_size Shared)))

-- ARM9's addresses past its TCMs (GBATEK, "DS Memory Map"; that all repeats by remainder is our choice)
abbrev pub regions_of_nine : ℕ → List Region
regions_of_nine wramcnt =
    main_region
    ∷ region 0x03000000 0x03FFFFFF (shared_for_nine wramcnt)
    ∷ ports_region
    ∷ region 0x05000000 0x05FFFFFF (Cells Palette 0 (memory_size Palette))
    ∷ region 0x06000000 0x061FFFFF (Video ABg)
    ∷ region 0x06200000 0x063FFFFF (Video BBg)
    ∷ region 0x06400000 0x065FFFFF (Video AObj)
    ∷ region 0x06600000 0x067FFFFF (Video BObj)
    ∷ region 0x06800000 0x06FFFFFF (Video Lcdc)
    ∷ region 0x07000000 0x07FFFFFF (Cells Oam 0 (memory_size Oam))
    ∷ region 0xFFFF0000 0xFFFFFFFF BootRom
    ∷ []

-- ARM7's addresses (the same chapter)
abbrev pub regions_of_seven : ℕ → List Region
regions_of_seven wramcnt =
    seven_rom_region
    ∷ main_region
    ∷ region 0x03000000 0x037FFFFF (shared_for_seven wramcnt)
    ∷ own_region
    ∷ ports_region
    ∷ region 0x06000000 0x06FFFFFF (Video Arm7)
    ∷ []

abbrev pub regions_of : Proc → ℕ → List Region
regions_of Nine wramcnt = regions_of_nine wramcnt
regions_of Seven wramcnt = regions_of_seven wramcnt

-- what stands at an offset into a region
abbrev pub place_at : Content → ℕ → Place
place_at (Cells memory from bytes) offset = Cell memory (from + offset % bytes)
place_at (Video space) offset = Banks space (offset % space_size space)
place_at Ports offset = Port offset
place_at BootRom offset = Rom offset
place_at Empty offset = Nothing

-- an address lies in a region
abbrev pub LiesIn : Region → ℕ → Type 0
LiesIn r at = (r.first ≤ at) × (at ≤ r.last)

-- an address has a place by a table: that of each region in which it lies, and nothing where it lies in none
pub record HasPlace (regions : List Region) (at : ℕ) (place : Place) : Type 0 where
  pub inside : All (λ r. LiesIn r at → place ≡ place_at r.content (at - r.first)) regions
  pub outside : All (λ r. ¬ LiesIn r at) regions → place ≡ Nothing

-- the place of an address by the first region in which it lies
abbrev pub place_by : List Region → ℕ → Place
place_by [] at = Nothing
place_by (r ∷ rs) at = if nat_le r.first at && nat_le at r.last then place_at r.content (at - r.first) else place_by rs at

-- the place of an address
abbrev pub place_of : Proc → ℕ → ℕ → Place
place_of proc wramcnt at = place_by (regions_of proc wramcnt) at

-- a cell's number is below the memory's size, and an address of a space below the space's
abbrev pub IsInside : Place → Type 0
IsInside (Cell memory at) = at < memory_size memory
IsInside (Banks space at) = at < space_size space
IsInside (Port at) = at < 0x1000000
IsInside (Rom at) = at < 0x10000
IsInside Nothing = Unit {0}
