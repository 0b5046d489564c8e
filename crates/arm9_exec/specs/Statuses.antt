use Rattle.std.specs.Prelude.{◌<◌, ◌^◌}
use Rattle.ds_base.specs.declared.processors.Arch.TheVariants.{V5}
use Rattle.arm_core.specs.Registers.{RegisterState}
use Rattle.arm_core.specs.StatusLaws.{HasStatuses}
use Rattle.cp15_tcm.specs.Registers.{Cp15State}

-- What holds of ARM9's registers and of CP15's in every state that comes up: the status registers have only bits that are kept, and what
-- CP15 keeps are words.
pub record HasNineStatuses (s : RegisterState) (cp : Cp15State) : Type 0 where
  pub processor : HasStatuses V5 s
  pub control : cp.control < 2 ^ 32
  pub dtcm : cp.dtcm < 2 ^ 32
  pub itcm : cp.itcm < 2 ^ 32
