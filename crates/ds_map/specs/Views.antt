use Rattle.std.specs.Prelude.{ℕ, true, false, List, Option, None}
use Rattle.ds_base.specs.Accesses.{MemoryMachine}
use Rattle.ds_base.specs.Numbers.{aligned_down, number_at, with_number}
use Rattle.ds_base.specs.declared.memories.Width.{Width}
use Rattle.ds_base.specs.declared.left_out.Stop.{Stop}
use Rattle.ds_base.specs.declared.ticks.Tick.{Tick}
use Rattle.ds_base.specs.declared.processors.Proc.TheVariants.{Nine, Seven}
use Rattle.cp15_tcm.specs.Registers.{Cp15State}
use Rattle.cp15_tcm.specs.TightlyCoupled.{tcm_of}
use Rattle.cp15_tcm.specs.declared.answers.Tcm.{Tcm}
use Rattle.cp15_tcm.specs.declared.answers.Tcm.TheVariants.{Itcm, Dtcm, Past}
use Rattle.ds_map.specs.Maps.{MapState}
use Rattle.ds_map.specs.Accesses.{map_fetched, map_read, map_refusal, map_value, map_written}

-- The memory machines of the processors.

-- what ARM7 reaches: the map, at the tick of its step
pub record SevenReach : Type 0 where
  pub map : MapState
  pub now : Tick

-- ARM7's: the map alone
abbrev pub seven_memory : MemoryMachine SevenReach
seven_memory = record {
  fetch_value = λ r at width. map_fetched Seven r.map at width;
  fetch_next = λ r at width. r;
  read_value = λ r at width. map_value Seven r.now r.map at width;
  read_next = λ r at width. record r { map = map_read Seven r.now r.map at width };
  refusal = λ r at width value. map_refusal Seven r.map at width value;
  write_next = λ r at width value. record r { map = map_written Seven r.now r.map at width value };
}

-- what ARM9 reaches at the tick of its step: the map behind its tightly coupled memories, which stand where CP15's numbers say; no access changes
-- CP15
pub record NineReach : Type 0 where
  pub map : MapState
  pub cp15 : Cp15State
  pub itcm : List ℕ
  pub dtcm : List ℕ
  pub now : Tick

-- what is there where a tightly coupled memory answers, or what is past both
abbrev pub tcm_number : Tcm → NineReach → Width → ℕ → ℕ
tcm_number (Itcm place) r width past = number_at width r.itcm (aligned_down width place)
tcm_number (Dtcm place) r width past = number_at width r.dtcm (aligned_down width place)
tcm_number Past r width past = past

-- what is written there
abbrev pub tcm_written : Tcm → NineReach → ℕ → Width → ℕ → NineReach
tcm_written (Itcm place) r at width value = record r { itcm = with_number width r.itcm (aligned_down width place) value }
tcm_written (Dtcm place) r at width value = record r { dtcm = with_number width r.dtcm (aligned_down width place) value }
tcm_written Past r at width value = record r { map = map_written Nine r.now r.map at width value }

-- what a read leaves, and why a write is refused, there
abbrev pub tcm_read : Tcm → NineReach → ℕ → Width → NineReach
tcm_read Past r at width = record r { map = map_read Nine r.now r.map at width }
tcm_read tcm r at width = r

abbrev pub tcm_refusal : Tcm → NineReach → ℕ → Width → ℕ → Option Stop
tcm_refusal Past r at width value = map_refusal Nine r.map at width value
tcm_refusal tcm r at width value = None

-- ARM9's: ITCM, then DTCM, then the map; fetches see ITCM alone
abbrev pub nine_memory : MemoryMachine NineReach
nine_memory = record {
  fetch_value = λ r at width. tcm_number (tcm_of r.cp15 at false true) r width (map_fetched Nine r.map at width);
  fetch_next = λ r at width. r;
  read_value = λ r at width. tcm_number (tcm_of r.cp15 at false false) r width (map_value Nine r.now r.map at width);
  read_next = λ r at width. tcm_read (tcm_of r.cp15 at false false) r at width;
  refusal = λ r at width value. tcm_refusal (tcm_of r.cp15 at true false) r at width value;
  write_next = λ r at width value. tcm_written (tcm_of r.cp15 at true false) r at width value;
}
