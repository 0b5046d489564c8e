use Rattle.std.specs.Prelude.{ℕ, ◌+◌, ◌*◌, nat_le, max, if◌then◌else◌, Bool, true, false, List, [], ◌∷◌, length, map, take, Option, Some, None, option_map}
use Rattle.std.specs.List.{list_any}
use Rattle.ds_base.specs.declared.ticks.Tick.{Tick}
use Rattle.gx_matrix.specs.CommandTable.{command_row}
use Rattle.gx_matrix.specs.declared.commands.GeometryCommand.{GeometryCommand}
use Rattle.gx_matrix.specs.declared.commands.GeometryCommand.TheVariants.{MtxPush, MtxPop, SwapBuffers, BoxTest, PosTest, VecTest}
use Rattle.gx_fifo.specs.declared.entries.GxEntry.{GxEntry}

-- What waits for the geometry engine is a list of entries, the oldest first (GBATEK, "DS 3D Geometry Commands", "GXFIFO"): each is one parameter of a
-- command, or a command that has none. The head command is that of the first entry.

-- how many may wait: 260 don't stall ARM9, and one instruction, which moves sixteen words at most, adds four a word (our choice of size)
abbrev pub most_entries : ℕ
most_entries = 324

-- A command takes as many entries as it has parameters, and one where it has none. They are the first ones, whatever they were written for
-- (our choice where they are another command's).
abbrev pub entries_taken : GeometryCommand → ℕ
entries_taken command = max 1 (command_row command).parameters

-- the parameters that it takes
abbrev pub words_taken : GeometryCommand → List GxEntry → List ℕ
words_taken command entries = map (λ e. e.word) (take (command_row command).parameters entries)

-- the head command, where all its entries wait
abbrev pub complete_command : List GxEntry → Option GeometryCommand
complete_command [] = None
complete_command (e ∷ entries) = if nat_le (entries_taken e.command) (length (e ∷ entries)) then Some e.command else None

-- when a command that begins at a tick is done: after its bus clocks, of 2 ticks each (GBATEK, "DS 3D Geometry Commands", the column "Cycles")
abbrev pub done_after : Tick → GeometryCommand → Tick
done_after now command = record { 0 = now.0 + 2 * (command_row command).clocks }

-- When the head command is done, where it begins at this tick: it is complete, and no swap waits, which holds all commands up (GBATEK,
-- SWAP_BUFFERS).
abbrev pub begun : Tick → Bool → List GxEntry → Option Tick
begun now true entries = None
begun now false entries = option_map (done_after now) (complete_command entries)

-- the command that asks for a swap
unfoldable pub asks_for_swap : GeometryCommand → Bool
asks_for_swap SwapBuffers = true
asks_for_swap _ = false

-- the commands that GXSTAT tells of while they wait: tests (bit 0), pushes and pops (bit 14) (GBATEK, GXSTAT)
abbrev pub is_tested : GeometryCommand → Bool
is_tested BoxTest = true
is_tested PosTest = true
is_tested VecTest = true
is_tested _ = false

abbrev pub is_stacked : GeometryCommand → Bool
is_stacked MtxPush = true
is_stacked MtxPop = true
is_stacked _ = false

abbrev pub is_test_entry : GxEntry → Bool
is_test_entry e = is_tested e.command

abbrev pub is_stack_entry : GxEntry → Bool
is_stack_entry e = is_stacked e.command

-- some entry of such a command waits, be it as a parameter (our choice)
abbrev pub kind_waits : (GeometryCommand → Bool) → List GxEntry → Bool
kind_waits kind entries = list_any (λ e. kind e.command) entries
