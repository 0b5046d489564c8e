use Rattle.std.specs.Prelude.{ℕ, List}
use Rattle.ds_base.specs.declared.keys.KeyLine.{KeyLine}
use Rattle.ds_base.specs.declared.processors.Arch.TheVariants.{V4}
use Rattle.arm_core.specs.StatusLaws.{HasStatuses}
use Rattle.arm9_exec.specs.Statuses.{HasNineStatuses}
use Rattle.ds_runs.specs.Runs.{At, MachineStep, Makes, Runs, Stops}
use Rattle.ds_machine.specs.Booted.{machine_booted}
use Rattle.ds_machine.specs.Reference.{Shown, reference, reference_step}
use Rattle.ds_machine.specs.States.{MachineState}

-- CPSR and each SPSR of every machine that comes up have no bits but those that are kept.

-- those of both processors have none, and what CP15 keeps are words
pub record HasBothStatuses (s : MachineState) : Type 0 where
  pub nine : HasNineStatuses s.nine.processor.registers s.nine.cp15
  pub seven : HasStatuses V4 s.seven.processor.registers

-- what a step leaves, taken or not
abbrev pub left_by : {O L : Type 0} → MachineStep MachineState O L → MachineState
left_by (Makes next outs) = next
left_by (Stops stop left) = left

-- so it is at boot; each step of any actor keeps it; and so does a run
abbrev pub BootsWithStatuses : Type 0
BootsWithStatuses = (file : List ℕ) (keys : List KeyLine) → HasBothStatuses (machine_booted file keys)

abbrev pub StepsKeepStatuses : Type 0
StepsKeepStatuses = (rank : ℕ) (s : MachineState) → HasBothStatuses s → HasBothStatuses (left_by (reference_step rank s))

abbrev pub RunsKeepStatuses : Type 0
RunsKeepStatuses = (limit : ℕ) (start end : MachineState) (outs : List Shown) → Runs reference limit (At end) start outs
    → HasBothStatuses start → HasBothStatuses end
