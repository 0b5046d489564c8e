use Rattle.std.specs.Prelude.{ℕ, ◌+◌}
use Rattle.ds_base.specs.declared.memories.Memory.TheVariants.{Main, Shared, Own7, Itcm, Dtcm, Palette, Vram, Oam}
use Rattle.ds_base.specs.declared.memories.Width.{Width}
use Rattle.ds_base.specs.declared.memories.Width.TheVariants.{Byte, Half, Word}
use Rattle.ds_base.specs.declared.processors.Proc.{Proc}
use Rattle.ds_base.specs.declared.processors.Proc.TheVariants.{Nine, Seven}
use Rattle.ds_places.specs.declared.kinds.Place.{Place}
use Rattle.ds_places.specs.declared.kinds.Place.TheVariants.{Cell, Banks, Port, Rom, Nothing}

-- THE WAITS OF A REGION (GBATEK, "DS Memory Timings", has the idea; the numbers are our choice): how many ticks an access waits beside what its
-- instruction costs, for ARM9 and its DMA, and for ARM7 and its DMA, each where a byte or a half is moved and where a word is.
pub record RegionWaits : Type 0 where
  pub nine : ℕ
  pub nine_word : ℕ
  pub seven : ℕ
  pub seven_word : ℕ

-- the same for each width
abbrev pub waits_by_processor : ℕ → ℕ → RegionWaits
waits_by_processor nine seven = record { nine = nine; nine_word = nine; seven = seven; seven_word = seven }

-- the same for both processors, twice as much for a word: the bus of palettes, video memory and objects is 16 bits wide
abbrev pub waits_by_width : ℕ → RegionWaits
waits_by_width half = record { nine = half; nine_word = half + half; seven = half; seven_word = half + half }

-- the table, by what the address names; banks wait also where none is mapped there, and a write that is ignored waits too
abbrev pub region_waits : Place → RegionWaits
region_waits (Cell Main at) = waits_by_processor 4 8
region_waits (Cell Shared at) = waits_by_processor 2 0
region_waits (Cell Palette at) = waits_by_width 2
region_waits (Cell Vram at) = waits_by_width 2
region_waits (Cell Oam at) = waits_by_width 2
region_waits (Banks space at) = waits_by_width 2
region_waits (Port at) = waits_by_processor 2 0
region_waits place = waits_by_processor 0 0

abbrev pub chosen_wait : Proc → Width → RegionWaits → ℕ
chosen_wait Nine Word waits = waits.nine_word
chosen_wait Nine width waits = waits.nine
chosen_wait Seven Word waits = waits.seven_word
chosen_wait Seven width waits = waits.seven

-- how long an access of a width by a processor waits at a place
abbrev pub wait_of : Proc → Place → Width → ℕ
wait_of proc place width = chosen_wait proc width (region_waits place)
