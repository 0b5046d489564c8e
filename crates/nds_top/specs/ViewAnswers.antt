use Rattle.std.specs.Prelude.{ℕ, ◌≡◌, ◌⊎◌, List, [], Some, None}
use Rattle.ds_base.specs.declared.processors.Proc.{Proc}
use Rattle.ds_runs.specs.Runs.{At, Stopped, Runs}
use Rattle.ds_machine.specs.Booted.{machine_booted}
use Rattle.ds_machine.specs.Reference.{Shown, reference}
use Rattle.ds_machine.specs.States.{MachineState}
use Rattle.run_ahead.specs.Consoles.{ConsoleState}
use Rattle.run_ahead.specs.ToEnd.{TurnsToEnd}
use Rattle.nds_answers.specs.declared.statuses.Status.{Status}
use Rattle.nds_answers.specs.declared.statuses.Status.TheVariants.{Done, WriteFault, LeftOut, NoMemory}
use Rattle.nds_plays.specs.Calls.{Call, IsUntouched, Seated, Written, switched_on}
use Rattle.nds_plays.specs.Demos.{demo_file}
use Rattle.nds_plays.specs.Watches.{IsCutTrace, IsWholeTrace, Traced, demo_of}

-- When each answer to the commands that watch a run comes, and what it leaves. Want of memory is free.

-- what a trace of the run from a machine at boot did, by the status. It leaves no console
abbrev pub TracedBy : Call → ℕ → Proc → ℕ → Status → MachineState → Type 0
TracedBy c ticks proc count Done boot = (c.seat ≡ None) × Traced c.wrote ticks proc count boot (IsWholeTrace count)
TracedBy c ticks proc count (LeftOut left) boot = (c.seat ≡ None) × Traced c.wrote ticks proc count boot (IsCutTrace left count)
TracedBy c ticks proc count WriteFault boot = (c.seat ≡ None) × c.out_rose × Traced c.wrote_front ticks proc count boot (λ lines end. Unit {0})
TracedBy c ticks proc count other boot = ⊥

-- what a command did that writes these bytes after the run from a machine at boot, by the console that it comes to and what it put out
abbrev pub WroteAfter : Call → ℕ → (ConsoleState → List Shown → List ℕ) → Status → MachineState → Type 0
-- the reference run stops, and nothing was written
WroteAfter c ticks bytes (LeftOut left) boot =
    c.still × Seated c ticks (switched_on boot) (λ k. ((outs : List Shown) × Runs reference ticks (Stopped left) boot outs) × (k.stopped ≡ Some left))
-- it comes to the tick, as the console's turns do, and they were written
WroteAfter c ticks bytes status boot = Seated c ticks (switched_on boot) (λ k.
    ((outs : List Shown) × Runs reference ticks (At k.machine) boot outs × Written c status (bytes k outs)) × (k.limit ≡ ticks) × (k.stopped ≡ None)
    × TurnsToEnd ticks (switched_on boot) (At k.machine) k)

-- the machine at boot from the cartridge that is made from a number, with no key script
abbrev pub demo_booted : ℕ → MachineState
demo_booted number = machine_booted (demo_file number) []

-- when each answer to `demo` comes: it needs no file
abbrev pub DemoGives : Call → ℕ → ℕ → Status → Type 0
DemoGives c number ticks status =
    WroteAfter c ticks (demo_of number ticks (demo_booted number)) status (demo_booted number) ⊎ (IsUntouched c × (status ≡ NoMemory))
