use Rattle.std.specs.Prelude.{ℕ, ◌≡◌, List, Option, Some, Ok, Err}
use Rattle.sha2.specs.Sha256.{sha256}
use Rattle.ds_base.specs.declared.keys.KeyLine.{KeyLine}
use Rattle.ds_io.specs.Shelves.{Named}
use Rattle.ds_machine.specs.Reference.{Shown}
use Rattle.run_ahead.specs.Consoles.{ConsoleState}
use Rattle.ds_machine.specs.Sound.{HasSoundParts}
use Rattle.ds_machine.specs.WithinLaws.{IsWithinTick}
use Rattle.run_ahead.specs.Saved.{IsReadBack, read_state, state_bytes}
use Rattle.nds_answers.specs.Loads.{AreKeys, IsCart, IsFileRead, RefusesFiles, most_state}
use Rattle.nds_answers.specs.declared.statuses.Status.{Status}
use Rattle.nds_answers.specs.declared.statuses.Status.TheVariants.{BadState}
use Rattle.nds_plays.specs.declared.plays.Played.{Played}
use Rattle.nds_plays.specs.declared.plays.Played.TheVariants.{Done}

-- Consoles in bytes: what is written of one, and what the file of one stands for.

-- a console in bytes, with the SHA-256 of its cartridge (FIPS 180-4)
abbrev pub saved_state : ConsoleState → List ℕ
saved_state k = state_bytes (sha256 k.machine.file) k

-- what is written of the console that a run comes to, whatever the run put out
abbrev pub saved_after : ConsoleState → List Shown → List ℕ
saved_after k outs = saved_state k

-- a console is ready to be run and then saved: the parts of its machine are sound, and what that keeps of times is as after a run to the console's
-- limit
pub record IsReady (k : ConsoleState) : Type 0 where
  pub parts : HasSoundParts k.machine
  pub within : IsWithinTick k.limit k.machine

-- the bytes of a console are read back as it
abbrev pub ComesBack : ConsoleState → Type 0
ComesBack k = IsReadBack (sha256 k.machine.file) k (saved_state k)

-- so are those that were written of the console to which one came that was ready
abbrev pub SavesWhole : ConsoleState → Played → ConsoleState → Type 0
SavesWhole old Done new = IsReady old → ComesBack new
SavesWhole old other new = Unit {0}

-- what a saved console's file stands for, with a cartridge and a key script, where the run is to go on to a tick
abbrev pub ReadsState : Option (List Named) → List ℕ → List ℕ → Option (List ℕ) → ℕ → (List ℕ → List ℕ → List KeyLine → Type 0) → Type 0
ReadsState files state cart keys ticks holds =
    (bytes : List ℕ) × (file : List ℕ) × (lines : List KeyLine) × IsFileRead files state most_state bytes × IsCart files cart file
    × AreKeys files keys lines × holds bytes file lines

-- it is accepted, and stands for this console
abbrev pub IsState : Option (List Named) → List ℕ → List ℕ → Option (List ℕ) → ℕ → ConsoleState → Type 0
IsState files state cart keys ticks k =
    ReadsState files state cart keys ticks (λ bytes file lines. read_state (sha256 file) ticks file lines bytes ≡ Ok k)

-- it isn't, and this is the place of the first field that isn't whole or breaks its rule, or of the first byte left over
abbrev pub IsBadState : Option (List Named) → List ℕ → List ℕ → Option (List ℕ) → ℕ → ℕ → Type 0
IsBadState files state cart keys ticks offset =
    ReadsState files state cart keys ticks (λ bytes file lines. read_state (sha256 file) ticks file lines bytes ≡ Err offset)

-- the seat has such a console
abbrev pub IsResumed : Option (List Named) → List ℕ → List ℕ → Option (List ℕ) → ℕ → Option ConsoleState → Type 0
IsResumed files state cart keys ticks seat = (k : ConsoleState) × IsState files state cart keys ticks k × (seat ≡ Some k)

-- when each refusal of a run that goes on comes, and of which file it speaks: of one of its files; or, where they are accepted, that the saved
-- console's isn't
abbrev pub RefusesState : Option (List Named) → Type 0 → List ℕ → List ℕ → Option (List ℕ) → ℕ → Status → List ℕ → Type 0
RefusesState files rose state cart keys ticks (BadState offset) named = IsBadState files state cart keys ticks offset
RefusesState files rose state cart keys ticks other named = RefusesFiles files rose state cart keys other named
