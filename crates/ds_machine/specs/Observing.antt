use Rattle.std.specs.Prelude.{ℕ, ◌||◌, ◌&&◌, not, Bool, true, false, Option, None, Some}
use Rattle.std.specs.List.{list_all}
use Rattle.arm_core.specs.FootprintLaws.{touched_bytes}
use Rattle.arm_core.specs.declared.touches.Reach.{Reach}
use Rattle.arm_core.specs.declared.touches.Touch.{Touch}
use Rattle.arm_ops.specs.Operations.{loads}
use Rattle.arm_ops.specs.declared.operations.DataAccess.{DataAccess}
use Rattle.cp15_tcm.specs.TightlyCoupled.{tcm_of}
use Rattle.ds_machine.specs.Lagging.{is_observed_past}
use Rattle.ds_machine.specs.States.{MachineState}

-- What the code says of steps that observe geometry. No public clause speaks of it.

-- an address of ARM9's names an observed port past its tightly coupled memories, as a write or else a read reaches it; and one that names none
abbrev pub is_observed_at : MachineState → Bool → ℕ → Bool
is_observed_at s writing at = is_observed_past (tcm_of s.nine.cp15 at writing false) s.io.wramcnt at

abbrev pub is_unobserved_at : MachineState → Bool → ℕ → Bool
is_unobserved_at s writing at = not (is_observed_at s writing at)

-- none of a touch's bytes is one, as reads or as writes reach them, where there are any
abbrev pub all_unobserved : MachineState → Bool → Touch → Bool
all_unobserved s writing touch = list_all (is_unobserved_at s writing) (touched_bytes touch)

abbrev pub data_unobserved : MachineState → Reach → Bool
data_unobserved s reach = (not reach.reads || all_unobserved s false reach.touch) && (not reach.writes || all_unobserved s true reach.touch)

-- the access of a decoded operation is of one, if it makes one
abbrev pub made_observed : MachineState → Option DataAccess → Bool
made_observed s None = false
made_observed s (Some it) = is_observed_at s (not (loads it.op)) it.to.address
