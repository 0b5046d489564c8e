use Rattle.std.specs.Prelude.{ℕ, ◌≡◌, List, All, None, max}
use Rattle.ds_base.specs.declared.keys.KeyLine.{KeyLine}
use Rattle.ds_runs.specs.Runs.{IsOver}
use Rattle.ds_machine.specs.Booted.{machine_booted}
use Rattle.ds_machine.specs.Reference.{Shown, dues_of}
use Rattle.ds_machine.specs.Saved.{script_from}
use Rattle.ds_machine.specs.Sound.{HasSoundParts, IsSound}
use Rattle.ds_machine.specs.States.{MachineState}
use Rattle.ds_machine.specs.WithinLaws.{IsWithinTick}
use Rattle.run_ahead.specs.Consoles.{ConsoleState}
use Rattle.run_ahead.specs.Saved.{IsReadBack}
use Rattle.run_ahead.specs.ToEndLaws.{TurnsOn}
use Rattle.gdb_session.specs.declared.saves.Save.{Save}

-- A console with its past (our choice): whatever was done to it, it came by turns from the boot, as each console that is kept did.

-- a console, and the key script that it was switched on with, whole
pub record TapeState : Type 0 where
  pub console : ConsoleState
  pub keys : List KeyLine

-- one console comes from another by some turns
abbrev pub ComesFrom : ConsoleState → ConsoleState → Type 0
ComesFrom old new = (outs : List Shown) × TurnsOn old new outs

-- a console was run to a tick, where it wasn't run further already: nobody is due below it any more, and it hasn't stopped
abbrev pub HasRunTo : ℕ → ConsoleState → ConsoleState → Type 0
HasRunTo until old new = (new.limit ≡ max old.limit until) × IsOver (dues_of new.machine) until × (new.stopped ≡ None)

-- a console stands at a tick: it was run to it and not further, nobody is due below it, and it hasn't stopped. By the laws of turns the reference
-- run to that tick ends there
abbrev pub StandsAt : ℕ → ConsoleState → Type 0
StandsAt at c = (c.limit ≡ at) × IsOver (dues_of c.machine) at × (c.stopped ≡ None)

-- a console comes from a machine at boot. By the laws of turns the reference run from there to each limit that isn't below the console's goes on from
-- it, and where it stopped that run stops
abbrev pub ComesFromBoot : MachineState → ConsoleState → Type 0
ComesFromBoot boot c = ComesFrom (record { machine = boot; limit = 0; stopped = None; turns = 0 }) c

-- the boot from which a tape's console comes: with its cartridge's file and the script
abbrev pub boot_of : TapeState → MachineState
boot_of t = machine_booted t.console.machine.file t.keys

-- what is kept of such a console: the tick to which it was run, and bytes that are read back as it, with the script's lines from that tick on
pub record IsSaveOf (file : List ℕ) (keys : List KeyLine) (digest : List ℕ) (save : Save) : Type 0 where
  pub console : ConsoleState
  pub came : ComesFromBoot (machine_booted file keys) console
  pub at : console.limit ≡ save.at
  pub lines : console.machine.keys ≡ script_from console.limit keys
  pub back : IsReadBack digest console save.bytes.items

-- a boot is sound, a console came from it, and so did all that are kept
pub record IsOfOneRun (boot : MachineState) (keys : List KeyLine) (digest : List ℕ) (c : ConsoleState) (saves : List Save) : Type 0 where
  pub sound : IsSound boot
  pub parts : HasSoundParts boot
  pub within : IsWithinTick 0 boot
  pub came : ComesFromBoot boot c
  pub kept : All (IsSaveOf c.machine.file keys digest) saves
