use Rattle.std.specs.Prelude.{◌≡◌, true, false}
use Rattle.ds_base.specs.KeyLines.{AreKeyLines}
use Rattle.ds_base.specs.declared.processors.Proc.{Proc}
use Rattle.ds_ports.specs.HappeningLaws.{IsIo}
use Rattle.ds_ports.specs.Io.{is_settled}
use Rattle.ds_machine.specs.States.{MachineState}
use Rattle.ds_machine.specs.Steps.{wakes}

-- The states that come up.

-- at every time: each unit's numbers are those that it can have, and the lines of the script that are to come rise
pub record HasSoundParts (s : MachineState) : Type 0 where
  pub io : IsIo s.io
  pub keys : AreKeyLines s.keys

-- no halted processor is to wake
abbrev pub AreAsleep : MachineState → Type 0
AreAsleep s = (proc : Proc) → wakes s proc ≡ false

-- and unless a step stopped: after each step that is taken those woke that were to, and the units behind the ports are settled
pub record IsSound (s : MachineState) : Type 0 where
  pub parts : HasSoundParts s
  pub asleep : AreAsleep s
  pub settled : is_settled s.io ≡ true
