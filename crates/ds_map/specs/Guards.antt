use Rattle.std.specs.Prelude.{ℕ, if◌then◌else◌, Bool, true, false, Option, None}
use Rattle.ds_base.specs.Accesses.{MemoryMachine}
use Rattle.ds_base.specs.declared.memories.Width.{Width}
use Rattle.ds_base.specs.declared.left_out.Stop.{Stop}
use Rattle.ds_base.specs.declared.processors.Proc.{Proc}
use Rattle.ds_base.specs.declared.processors.Proc.TheVariants.{Nine}
use Rattle.ds_base.specs.declared.ticks.Tick.{Tick}
use Rattle.cp15_tcm.specs.TightlyCoupled.{tcm_of}
use Rattle.cp15_tcm.specs.declared.answers.Tcm.{Tcm}
use Rattle.cp15_tcm.specs.declared.answers.Tcm.TheVariants.{Past}
use Rattle.ds_places.specs.AddressTables.{place_of}
use Rattle.ds_places.specs.declared.kinds.Place.{Place}
use Rattle.ds_places.specs.declared.kinds.Place.TheVariants.{Port}
use Rattle.ds_ports.specs.Guards.{is_overfull}
use Rattle.ds_ports.specs.declared.units.IoParts.{IoParts as IoState}
use Rattle.ds_map.specs.Accesses.{map_refusal, map_written, refusal_at, written_at}
use Rattle.ds_map.specs.Maps.{MapState}
use Rattle.ds_map.specs.Views.{NineReach, nine_memory, tcm_refusal, tcm_written}

-- The code's form of writes, as a bus needs it that answers in every state (our choice of form): one of a port by ARM9 is ignored while more entries
-- wait for geometry than leave room for what it may add. The machine makes none then: no public clause of it speaks of this.

abbrev pub meets_guard : Proc → Place → IoState → Bool
meets_guard proc (Port at) u = is_overfull proc u
meets_guard proc place u = false

-- at a place, and at an address past the tightly coupled memories: why it is refused, and what it leaves
abbrev pub guarded_refusal_at : Proc → Place → MapState → Width → ℕ → Option Stop
guarded_refusal_at proc place m width value = if meets_guard proc place m.io then None else refusal_at proc place m width value

abbrev pub guarded_at : Proc → Tick → Place → MapState → Width → ℕ → MapState
guarded_at proc now place m width value = if meets_guard proc place m.io then m else written_at proc now place m width value

abbrev pub is_guarded : Proc → MapState → ℕ → Bool
is_guarded proc m at = meets_guard proc (place_of proc m.io.wramcnt at) m.io

abbrev pub map_guarded_refusal : Proc → MapState → ℕ → Width → ℕ → Option Stop
map_guarded_refusal proc m at width value = if is_guarded proc m at then None else map_refusal proc m at width value

abbrev pub map_guarded : Proc → Tick → MapState → ℕ → Width → ℕ → MapState
map_guarded proc now m at width value = if is_guarded proc m at then m else map_written proc now m at width value

-- ---- ARM9's memory machine so

abbrev pub tcm_guarded_refusal : Tcm → NineReach → ℕ → Width → ℕ → Option Stop
tcm_guarded_refusal Past r at width value = map_guarded_refusal Nine r.map at width value
tcm_guarded_refusal place r at width value = tcm_refusal place r at width value

abbrev pub tcm_guarded : Tcm → NineReach → ℕ → Width → ℕ → NineReach
tcm_guarded Past r at width value = record r { map = map_guarded Nine r.now r.map at width value }
tcm_guarded place r at width value = tcm_written place r at width value

abbrev pub guarded_memory : MemoryMachine NineReach
guarded_memory = record nine_memory {
  refusal = λ r at width value. tcm_guarded_refusal (tcm_of r.cp15 at true false) r at width value;
  write_next = λ r at width value. tcm_guarded (tcm_of r.cp15 at true false) r at width value;
}
