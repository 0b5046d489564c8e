use Rattle.std.specs.Prelude.{ℕ, ◌≡◌, ◌<◌, ◌≤◌, List, [], ◌∷◌, length, slice_index, None, Result, Ok, Err}
use Rattle.ds_base.specs.declared.keys.KeyLine.{KeyLine}
use Rattle.ds_state.specs.Formats.{Format, bytes_written}
use Rattle.ds_state.specs.Reading.{Left, ReadAnswer, ◌>>=◌, read_format}
use Rattle.ds_state.specs.declared.unpacker.Unpacked.{Unpacked}
use Rattle.ds_state.specs.declared.unpacker.Unpacked.TheVariants.{NoMemory, Bad}
use Rattle.ds_machine.specs.Saved.{machine_format, script_from}
use Rattle.ds_machine.specs.States.{MachineState}
use Rattle.run_ahead.specs.Consoles.{ConsoleState}
use Rattle.run_ahead.specs.Heads.{head_format}
use Rattle.run_ahead.specs.declared.heads.Head.{Head}

-- A console in bytes (our choice of form): its head, and then its machine.

-- the head of a console
abbrev pub head_of : ConsoleState → Head
head_of c = record {
  at = c.limit;
  nine = c.machine.nine.processor.steps;
  seven = c.machine.seven.processor.steps;
  events = c.machine.events;
  turns = c.turns;
}

-- the machine that stands behind a head, of a cartridge's file and a key script
abbrev pub format_behind : Head → List ℕ → List KeyLine → Format MachineState MachineState
format_behind head file keys = machine_format file keys head.nine head.seven head.events head.at

-- the bytes of a console, with the SHA-256 of its cartridge
abbrev pub state_bytes : List ℕ → ConsoleState → List ℕ
state_bytes digest c =
    bytes_written (format_behind (head_of c) c.machine.file c.machine.keys) (bytes_written (head_format digest) [] (head_of c)) c.machine

-- the console that a head and a machine say: it hasn't stopped, and was run to the head's tick
abbrev pub console_of : Head → MachineState → ConsoleState
console_of head s = record { machine = s; limit = head.at; stopped = None; turns = head.turns }

-- what is read of a head, and then of a machine at the head's tick
abbrev pub read_console : List ℕ → ℕ → List ℕ → List KeyLine → Left → ReadAnswer ConsoleState
read_console digest limit file keys l =
    read_format (head_format digest) limit l
    >>= (λ h. read_format (format_behind h.0 file keys) h.0.at h.1 >>= (λ m. Ok (console_of h.0 m.0, m.1)))

-- nothing may be left over: the first byte that is left is at this place
abbrev pub where_whole : {A : Type 0} → A → ℕ → List ℕ → Result A ℕ
where_whole a place [] = Ok a
where_whole a place (byte ∷ bytes) = Err place

abbrev pub read_whole : {A : Type 0} → ReadAnswer A → Result A ℕ
read_whole (Ok p) = where_whole p.0 p.1.place p.1.bytes
read_whole (Err place) = Err place

-- the console that bytes stand for, by the SHA-256 of a cartridge, the limit of the run that is to go on, the cartridge's file and a key script: or
-- the place of the first field that isn't whole or breaks its rule, or of the first byte that is left over. The bytes are accepted where there is one
unfoldable pub read_state : List ℕ → ℕ → List ℕ → List KeyLine → List ℕ → Result ConsoleState ℕ
read_state digest limit file keys bytes = read_whole (read_console digest limit file keys (record { place = 0; bytes = bytes }))

-- what a call answered, seen as a console, is what is read, unless memory ran out
abbrev pub FailsState : Unpacked → Result ConsoleState ℕ → Type 0
FailsState NoMemory r = Unit {0}
FailsState (Bad offset) r = r ≡ Err offset

abbrev pub GivesState : {X : Type 0} → (X → ConsoleState) → Result X Unpacked → Result ConsoleState ℕ → Type 0
GivesState view (Ok x) r = r ≡ Ok (view x)
GivesState view (Err e) r = FailsState e r

-- bytes are read back as a console: by each later limit, and with each key script of which the console's lines are those from its tick on
abbrev pub IsReadBack : List ℕ → ConsoleState → List ℕ → Type 0
IsReadBack digest c bytes = (limit : ℕ) (keys : List KeyLine) → c.limit < limit → c.machine.keys ≡ script_from c.limit keys
    → read_state digest limit c.machine.file keys bytes ≡ Ok c

-- and bytes that are read as a console are its bytes: no others are accepted for it
abbrev pub StatesHaveOneSpelling : Type 0
StatesHaveOneSpelling = (digest : List ℕ) (limit : ℕ) (file : List ℕ) (keys : List KeyLine) (bytes : List ℕ) (c : ConsoleState)
    → ((i : ℕ) → slice_index bytes i < 256)
    → read_state digest limit file keys bytes ≡ Ok c
    → bytes ≡ state_bytes digest c

-- and they are no more than this
abbrev pub most_saved : ℕ
most_saved = 8388608

abbrev pub StatesAreShort : Type 0
StatesAreShort = (digest : List ℕ) (limit : ℕ) (file : List ℕ) (keys : List KeyLine) (bytes : List ℕ) (c : ConsoleState)
    → read_state digest limit file keys bytes ≡ Ok c
    → length bytes ≤ most_saved
