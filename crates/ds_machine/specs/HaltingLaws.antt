use Rattle.std.specs.Prelude.{ℕ, ◌≡◌, true, List}
use Rattle.ds_base.specs.declared.processors.Proc.{Proc}
use Rattle.ds_ports.specs.Io.{io_at_boot, is_settled}
use Rattle.ds_runs.specs.Runs.{At, Runs}
use Rattle.ds_machine.specs.Reference.{Shown, reference}
use Rattle.ds_machine.specs.Sound.{HasSoundParts}
use Rattle.ds_machine.specs.States.{MachineState}
use Rattle.ds_machine.specs.Steps.{is_halted, processor_of}

-- Nothing is kept that has no effect: while a processor is halted the tick of its next step is 0, and what is kept of a stall's end holds back a
-- channel, which is part of what is settled.

pub record KeepsNoMore (s : MachineState) : Type 0 where
  pub halted : (proc : Proc) → is_halted s proc ≡ true → (processor_of s proc).due ≡ 0
  pub settled : is_settled s.io ≡ true

-- so it is at boot
abbrev pub BootsKeepNoMore : Type 0
BootsKeepNoMore = (s : MachineState) → s.io ≡ io_at_boot → KeepsNoMore s

-- and wherever a run ends, from a machine of which it is so
abbrev pub RunsKeepNoMore : Type 0
RunsKeepNoMore = (limit : ℕ) (start end : MachineState) (outs : List Shown) → Runs reference limit (At end) start outs → HasSoundParts start
    → KeepsNoMore start → KeepsNoMore end
