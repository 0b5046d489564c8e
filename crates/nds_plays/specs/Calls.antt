use Rattle.std.specs.Prelude.{ℕ, ◌≡◌, ◌⊎◌, List, Bool, Option, Some, None, IsSomeAnd}
use Rattle.ds_base.specs.declared.keys.KeyLine.{KeyLine}
use Rattle.ds_io.specs.Faults.{Rose}
use Rattle.ds_io.specs.Shelves.{Named, Told, files_of}
use Rattle.ds_io.specs.Sinks.{Appended, AppendedFront}
use Rattle.ds_machine.specs.Booted.{machine_booted}
use Rattle.ds_machine.specs.States.{MachineState}
use Rattle.run_ahead.specs.Consoles.{ConsoleState}
use Rattle.run_ahead.specs.Turns.{HasTurned}
use Rattle.nds_answers.specs.Loads.{IsCart, AreKeys, RefusesRun}
use Rattle.nds_answers.specs.declared.statuses.Status.{Status}
use Rattle.nds_answers.specs.declared.statuses.Status.TheVariants.{Done, WriteFault}

-- What surrounds a call of the program, and what is said of all commands.

-- what surrounds a call: the shelf's files, where it tells them, and whether its count of faults rose; whether the output's sink has what it had,
-- followed by these bytes and nothing else, or by a front of them, whether it is as it was, and whether its count rose; and the console that is left
-- in the seat
pub record Call : Type 1 where
  pub files : Option (List Named)
  pub shelf_rose : Type 0
  pub wrote : List ℕ → Type 0
  pub wrote_front : List ℕ → Type 0
  pub still : Type 0
  pub out_rose : Type 0
  pub seat : Option ConsoleState

-- a call with these meanings of its shelf and its output's sink, and with both as they were before and after
abbrev pub around : {F S : Type 0} → (told : F → Option Told) → (shelf_faults : F → ℕ) → (tells : S → Bool) → (taken : S → List ℕ → Type 0)
    → (out_faults : S → ℕ) → (shelf_old shelf_new : F) → (old new : S) → (seat : Option ConsoleState) → Call
around told shelf_faults tells taken out_faults shelf_old shelf_new old new seat = record {
  files = files_of (told shelf_old);
  shelf_rose = Rose (shelf_faults shelf_old) (shelf_faults shelf_new);
  wrote = Appended tells taken old new;
  wrote_front = AppendedFront tells taken old new;
  still = new ≡ old;
  out_rose = Rose (out_faults old) (out_faults new);
  seat = seat;
}

-- nothing was written, and no console is left
abbrev pub IsUntouched : Call → Type 0
IsUntouched c = c.still × (c.seat ≡ None)

-- bytes were written, by the status: all of them, or a front of them where the sink's count of faults rose
abbrev pub Written : Call → Status → List ℕ → Type 0
Written c Done bytes = c.wrote bytes
Written c WriteFault bytes = c.out_rose × c.wrote_front bytes
Written c other bytes = ⊥

-- this holds of the machine at boot, from the cartridge's file with the key script's lines
abbrev pub FromBoot : Call → List ℕ → Option (List ℕ) → (MachineState → Type 0) → Type 0
FromBoot c cart keys holds =
    (file : List ℕ) × (lines : List KeyLine) × IsCart c.files cart file × AreKeys c.files keys lines × holds (machine_booted file lines)

-- a command that runs a cartridge with a key script did this from the machine at boot; or one of the files is refused, of which the answer speaks,
-- and nothing was done
abbrev pub GivesBy : Call → List ℕ → Option (List ℕ) → (MachineState → Type 0) → List ℕ → Status → Type 0
GivesBy c cart keys did named status = FromBoot c cart keys did ⊎ (IsUntouched c × RefusesRun c.files c.shelf_rose cart keys status named)

-- a console that is switched on, with its machine at boot
abbrev pub switched_on : MachineState → ConsoleState
switched_on boot = record { machine = boot; limit = 0; stopped = None; turns = 0 }

-- the seat has such a console, with the cartridge's file and the key script's lines
abbrev pub IsSwitchedOn : Option (List Named) → List ℕ → Option (List ℕ) → Option ConsoleState → Type 0
IsSwitchedOn files cart keys seat = (file : List ℕ) × (lines : List KeyLine) × IsCart files cart file × AreKeys files keys lines
    × (seat ≡ Some (switched_on (machine_booted file lines)))

-- the seat has a console that is as this one after turns with the tick, of which this holds; it counts as many of them as count
abbrev pub Seated : Call → ℕ → ConsoleState → (ConsoleState → Type 0) → Type 0
Seated c ticks start holds = IsSomeAnd c.seat (λ k. HasTurned ticks start k × holds k)
