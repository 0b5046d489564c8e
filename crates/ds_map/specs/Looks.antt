use Rattle.std.specs.Prelude.{ℕ, false, Option, Some, None}
use Rattle.ds_base.specs.declared.memories.Width.{Width}
use Rattle.ds_base.specs.declared.processors.Proc.{Proc}
use Rattle.ds_base.specs.declared.processors.Proc.TheVariants.{Nine, Seven}
use Rattle.ds_base.specs.declared.ticks.Tick.{Tick}
use Rattle.cp15_tcm.specs.TightlyCoupled.{tcm_of}
use Rattle.cp15_tcm.specs.declared.answers.Tcm.{Tcm}
use Rattle.cp15_tcm.specs.declared.answers.Tcm.TheVariants.{Past}
use Rattle.ds_places.specs.AddressTables.{place_of}
use Rattle.ds_places.specs.declared.kinds.Place.{Place}
use Rattle.ds_places.specs.declared.kinds.Place.TheVariants.{Nothing}
use Rattle.ds_map.specs.Accesses.{map_value}
use Rattle.ds_map.specs.Maps.{MapState}
use Rattle.ds_map.specs.Views.{NineReach, SevenReach, nine_memory, seven_memory}

-- What somebody sees at an address who looks on from outside (our choice): the value that a processor's read gives there, and nothing where the
-- address names no place. There is no state after it: a look leaves all as it is.

-- a value at a place, where that is one; at an address of ARM9's, where a tightly coupled memory answers or past both
abbrev pub where_placed : Place → ℕ → Option ℕ
where_placed Nothing value = None
where_placed place value = Some value

abbrev pub where_answered : Tcm → Place → ℕ → Option ℕ
where_answered Past place value = where_placed place value
where_answered tcm place value = Some value

-- past the tightly coupled memories, as a processor would read there at a tick
abbrev pub map_looked : Proc → Tick → MapState → ℕ → Width → Option ℕ
map_looked proc now m at width = where_placed (place_of proc m.io.wramcnt at) (map_value proc now m at width)

-- as ARM9 would read, and as ARM7 would
abbrev pub nine_looked : NineReach → ℕ → Width → Option ℕ
nine_looked r at width = where_answered (tcm_of r.cp15 at false false) (place_of Nine r.map.io.wramcnt at) (nine_memory.read_value r at width)

abbrev pub seven_looked : SevenReach → ℕ → Width → Option ℕ
seven_looked r at width = where_placed (place_of Seven r.map.io.wramcnt at) (seven_memory.read_value r at width)
