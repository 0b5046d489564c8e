use Rattle.std.specs.Prelude.{ℕ, ◌||◌, Bool, true}
use Rattle.ds_base.specs.Accesses.{MemoryMachine}
use Rattle.ds_base.specs.declared.processors.Proc.TheVariants.{Nine}
use Rattle.arm_core.specs.Effects.{Outcome}
use Rattle.arm_core.specs.Registers.{RegisterState}
use Rattle.cp15_tcm.specs.TightlyCoupled.{tcm_of}
use Rattle.cp15_tcm.specs.declared.answers.Tcm.{Tcm}
use Rattle.cp15_tcm.specs.declared.answers.Tcm.TheVariants.{Itcm, Dtcm, Past}
use Rattle.ds_places.specs.AddressTables.{is_of_region, own_region, place_of, seven_rom_region}
use Rattle.ds_map.specs.Maps.{MapState}
use Rattle.ds_map.specs.Shares.{is_private_place}
use Rattle.ds_map.specs.Views.{NineReach, SevenReach}
use Rattle.ds_machine.specs.Sides.{StepOf, nine_step, seven_step, waits_of_step, taken}

-- What running ahead asks of a processor beside its step: the places that it alone reaches, and whose bytes no other actor changes (our choice of
-- which).

-- a processor's step, and what it alone reaches, over the states of what it reaches
pub record SideOf (S : Type 0) : Type 0 where
  pub step : StepOf S
  -- the byte at an address lies in the processor's private places, as a write, a fetch, or else a read reaches it
  pub is_private : S → (writing fetching : Bool) → ℕ → Bool

abbrev pub side_taken : {S : Type 0} → MemoryMachine S → SideOf S → Bool → RegisterState → S → Outcome S
side_taken memory side line s state = taken memory side.step line s state

abbrev pub side_waits : {S : Type 0} → MemoryMachine S → SideOf S → Bool → RegisterState → S → ℕ
side_waits memory side line s state = waits_of_step memory side.step line s state

-- ARM9's are ITCM and DTCM, and past them by the present map the bytes of shared work RAM that WRAMCNT shows to it, palettes, OAM, the addresses of
-- video memory none of whose cells lies in a bank that is allotted to ARM7, and its boot ROM
abbrev pub is_private_tcm : Tcm → MapState → ℕ → Bool
is_private_tcm (Itcm place) m at = true
is_private_tcm (Dtcm place) m at = true
is_private_tcm Past m at = is_private_place m.io.vram.controls (place_of Nine m.io.wramcnt at)

-- ARM7's are its own work RAM from 3800000h to 3FFFFFFh and its boot ROM; what WRAMCNT shows to it below 3800000h isn't
abbrev pub is_private_to_seven : ℕ → Bool
is_private_to_seven at = is_of_region seven_rom_region at || is_of_region own_region at

-- ---- the two processors

abbrev pub nine_side : SideOf NineReach
nine_side = record {
  step = nine_step;
  is_private = λ r writing fetching at. is_private_tcm (tcm_of r.cp15 at writing fetching) r.map at;
}

abbrev pub seven_side : SideOf SevenReach
seven_side = record { step = seven_step; is_private = λ r writing fetching at. is_private_to_seven at }
