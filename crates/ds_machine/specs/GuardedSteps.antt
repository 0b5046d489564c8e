use Rattle.std.specs.Prelude.{◌≡◌, false}
use Rattle.ds_base.specs.declared.processors.Proc.{Proc}
use Rattle.ds_base.specs.declared.processors.Proc.TheVariants.{Nine, Seven}
use Rattle.gx_fifo.specs.GxStates.{AreWaiting, GxState, is_stalled}
use Rattle.ds_machine.specs.States.{MachineState}

-- Where ARM9's bus, which ignores a write for want of room, is as the reference has it (our choice of form). No public clause speaks of it.

-- no stall holds it
pub record IsFree (g : GxState) : Type 0 where
  pub waiting : AreWaiting g
  pub unstalled : is_stalled g ≡ false

-- so it is at each step of ARM9; ARM7 reaches nothing of geometry
abbrev pub IsFreeFor : Proc → MachineState → Type 0
IsFreeFor Nine s = IsFree s.io.gx
IsFreeFor Seven s = Unit {0}
