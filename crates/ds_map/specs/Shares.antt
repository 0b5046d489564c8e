use Rattle.std.specs.Prelude.{ℕ, not, Bool, true, false, List}
use Rattle.ds_base.specs.declared.memories.Memory.TheVariants.{Shared, Palette, Oam}
use Rattle.ds_places.specs.declared.kinds.Place.{Place}
use Rattle.ds_places.specs.declared.kinds.Place.TheVariants.{Cell, Banks, Rom}
use Rattle.vram_banks.specs.Cells.{meets_allotted}

-- What ARM9 alone reaches of the memories that both processors may reach, as they are shared out.

-- ARM9 alone reaches a place that it has past its tightly coupled memories (our choice of which): shared work RAM, since it has a place there only
-- where WRAMCNT shows it to ARM9; palettes and OAM; video memory where none of its cells lies in a bank that is allotted to ARM7; its boot ROM
abbrev pub is_private_place : List ℕ → Place → Bool
is_private_place controls (Cell Shared at) = true
is_private_place controls (Cell Palette at) = true
is_private_place controls (Cell Oam at) = true
is_private_place controls (Banks space at) = not (meets_allotted controls space at)
is_private_place controls (Rom at) = true
is_private_place controls place = false
