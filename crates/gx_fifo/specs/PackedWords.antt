use Rattle.std.specs.Prelude.{ℕ, zero, suc, ◌+◌, ◌/◌, ◌^◌, ◌==◌, ◌&&◌, ◌||◌, nat_le, nat_lt, if◌then◌else◌, Bool, List, [], ◌∷◌, ◌++◌, map, take_while, filter_map, Option, Some, None, option_map, unwrap_or}
use Rattle.ds_base.specs.Bits.{bits}
use Rattle.gx_matrix.specs.CommandTable.{command_row, command_of}
use Rattle.gx_matrix.specs.declared.commands.GeometryCommand.{GeometryCommand}
use Rattle.gx_fifo.specs.declared.entries.GxEntry.{GxEntry}

-- Packed words (GBATEK, "DS 3D Geometry Commands", "Packed Command"): a word of up to four commands, the lowest byte first, and then the parameters
-- of each of them.

-- the entries that wait; the bytes of the last packed word that are left, as a number, which begins with the command that waits for parameters and
-- is 0 where none does; and how many parameters that one was given
pub record FifoState : Type 0 where
  pub entries : List GxEntry
  pub packed : ℕ
  pub given : ℕ

abbrev pub fifo_at_boot : FifoState
fifo_at_boot = record { entries = []; packed = 0; given = 0 }

-- the commands of a packed word, or of what is left of one; a byte that is no command's code counts for nothing
abbrev pub packed_commands : ℕ → List GeometryCommand
packed_commands word = filter_map command_of (bits 0 8 word ∷ bits 8 8 word ∷ bits 16 8 word ∷ bits 24 8 word ∷ [])

-- the command of its first byte, and how many parameters that one has
abbrev pub first_command : ℕ → Option GeometryCommand
first_command word = command_of (bits 0 8 word)

abbrev pub parameters_of : Option GeometryCommand → ℕ
parameters_of command = unwrap_or (option_map (λ c. (command_row c).parameters) command) 0

abbrev pub first_parameters : ℕ → ℕ
first_parameters word = parameters_of (first_command word)

abbrev pub takes_none : GeometryCommand → Bool
takes_none command = (command_row command).parameters == 0

abbrev pub with_word : GeometryCommand → ℕ → GxEntry
with_word command word = record { command = command; word = word }

abbrev pub without_word : GeometryCommand → GxEntry
without_word command = with_word command 0

-- those at the front of its commands that have no parameters become entries at once
abbrev pub added_by : ℕ → List GxEntry
added_by word = map without_word (take_while takes_none (packed_commands word))

-- Then the first of the rest waits for its parameters: the upper bytes are left, from that one's code on, with those among them that are no codes;
-- and none where no command is left.
abbrev pub left_among : ℕ → ℕ → ℕ
left_among zero word = 0
left_among (suc bytes) word = if nat_lt 0 (first_parameters word) then word else left_among bytes (word / 2 ^ 8)

unfoldable pub bytes_left : ℕ → ℕ
bytes_left word = left_among 4 (bits 0 32 word)

unfoldable pub unpacked : List GxEntry → ℕ → FifoState
unpacked entries word = record { entries = entries ++ added_by word; packed = bytes_left word; given = 0 }

-- a word that isn't a packed one is a parameter of the command that waits; its last one makes way for the bytes after it
abbrev pub parameter_taken : Option GeometryCommand → ℕ → FifoState → FifoState
parameter_taken None word s = unpacked s.entries word
parameter_taken (Some command) word s =
    let entries = s.entries ++ with_word command word ∷ [] in
    if nat_le (command_row command).parameters (s.given + 1)
    then unpacked entries (s.packed / 2 ^ 8)
    else record s { entries = entries; given = s.given + 1 }

-- a word is written to the FIFO's port: a packed one where no command waits for parameters
abbrev pub word_taken : ℕ → FifoState → FifoState
word_taken word s = parameter_taken (first_command s.packed) word s

-- the command that waits was given fewer parameters than it has; nothing is left where none waits
abbrev pub is_given : ℕ → ℕ → Bool
is_given packed given = nat_lt given (first_parameters packed) || (packed == 0 && given == 0)

-- a word is written to a command's own port: one entry, at once, where the code is a command's (GBATEK, "DS 3D Geometry Commands", 4000440h and on)
abbrev pub entry_added : Option GeometryCommand → ℕ → FifoState → FifoState
entry_added None word s = s
entry_added (Some command) word s = record s { entries = s.entries ++ with_word command word ∷ [] }
