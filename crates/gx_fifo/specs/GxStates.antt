use Rattle.std.specs.Prelude.{ℕ, ◌≡◌, ◌<◌, ◌≤◌, ◌+◌, ◌-◌, ◌*◌, ◌/◌, ◌%◌, ◌^◌, ◌==◌, ◌&&◌, ◌||◌, not, nat_lt, min, if◌then◌else◌, Bool, true, false, ℤ, pos, List, length, drop, slice_index_or, Option, Some, None, is_some}
use Rattle.std.specs.Int.{cast_unsigned, w16, w32}
use Rattle.ds_base.specs.Bits.{bit, bits, flag}
use Rattle.ds_base.specs.declared.ticks.Tick.{Tick}
use Rattle.gx_matrix.specs.CommandTable.{command_of}
use Rattle.gx_matrix.specs.Commands.{clip_of, levels_of}
use Rattle.gx_matrix.specs.declared.commands.GeometryCommand.{GeometryCommand}
use Rattle.gx_geometry.specs.BoundLaws.{IsGeometry}
use Rattle.gx_geometry.specs.States.{GeometryState, geometry_at_boot, geometry_after, geometry_error_cleared, overflow_cleared, swapped}
use Rattle.gx_fifo.specs.Entries.{entries_taken, words_taken, complete_command, begun, asks_for_swap, is_tested, is_stacked, kind_waits, most_entries}
use Rattle.gx_fifo.specs.PackedWords.{FifoState, fifo_at_boot, is_given, word_taken, entry_added}
use Rattle.gx_fifo.specs.GxPorts.{gx_port}
use Rattle.gx_fifo.specs.declared.ports.GxPort.{GxPort}
use Rattle.gx_fifo.specs.declared.ports.GxPort.TheVariants.{Display, Fifo, Direct, Status, Lengths, Position, Vector, Clip, VectorMatrix}
use Rattle.std.specs.Option.{option_or}

-- The geometry engine with what waits for it.
pub record GxState : Type 0 where
  pub geometry : GeometryState
  pub fifo : FifoState
  -- when the head command is done, where it is under way
  pub due : Option Tick
  -- a swap waits for line 192
  pub swap_waits : Bool
  -- what DISP3DCNT keeps but for the lists' overflow
  pub display : ℕ
  -- GXSTAT bits 30 and 31: which counts raise the interrupt
  pub selector : ℕ

-- nothing waits at boot, and what is kept is 0 (our choice)
abbrev pub gx_at_boot : GxState
gx_at_boot = record { geometry = geometry_at_boot; fifo = fifo_at_boot; due = None; swap_waits = false; display = 0; selector = 0 }

abbrev pub waiting_entries : GxState → ℕ
waiting_entries s = length s.fifo.entries

-- GXSTAT's count, by how many entries wait: the oldest four, which stand next before the engine, don't count, and it is held to 256 (GBATEK, GXSTAT
-- bits 16 to 24; the four are GBATEK's "PIPE")
abbrev pub shown_of : ℕ → ℕ
shown_of waiting = min 256 (waiting - 4)

abbrev pub shown_count : GxState → ℕ
shown_count s = shown_of (waiting_entries s)

-- ARM9 and its DMA are held up while more than the pipe and the FIFO hold wait (GBATEK, "GXFIFO": 4 and 256)
abbrev pub stalls_by : ℕ → Bool
stalls_by waiting = nat_lt 260 waiting

abbrev pub is_stalled : GxState → Bool
is_stalled s = stalls_by (waiting_entries s)

-- GXSTAT's count is below half of the FIFO, by which DMA is started (GBATEK, GXSTAT bit 25)
abbrev pub half_empty_by : ℕ → Bool
half_empty_by waiting = nat_lt (shown_of waiting) 128

abbrev pub is_half_empty : GxState → Bool
is_half_empty s = half_empty_by (waiting_entries s)

-- the interrupt's level, by GXSTAT's selector: 1 below half, 2 empty, 0 and 3 never (GBATEK, GXSTAT bits 30 to 31; 3 by our choice)
abbrev pub level_by : ℕ → ℕ → Bool
level_by selector waiting = (selector == 1 && half_empty_by waiting) || (selector == 2 && shown_of waiting == 0)

abbrev pub gx_level : GxState → Bool
gx_level s = level_by s.selector (waiting_entries s)

-- What the ports read.

-- DISP3DCNT (GBATEK): what was kept, and the lists' overflow in bit 13
abbrev pub display_control : GxState → ℕ
display_control s = s.display + flag 13 s.geometry.outcome.overflow

-- GXSTAT (GBATEK)
unfoldable pub gx_status : GxState → ℕ
gx_status s =
    let entries = s.fifo.entries in
    let stacks = s.geometry.numbers.stacks in
    flag 0 (kind_waits is_tested entries)
    + flag 1 s.geometry.outcome.inside
    + levels_of stacks
    + flag 14 (kind_waits is_stacked entries)
    + flag 15 stacks.error
    + shown_count s * 2 ^ 16
    + flag 25 (is_half_empty s)
    + flag 26 (shown_count s == 0)
    + flag 27 (nat_lt 0 (length entries) || s.swap_waits)
    + s.selector * 2 ^ 30

-- a number of a list as an unsigned word, and as a half
abbrev pub word_in : List ℤ → ℕ → ℕ
word_in numbers i = cast_unsigned w32 (slice_index_or numbers i (pos 0))

abbrev pub half_in : List ℤ → ℕ → ℕ
half_in numbers i = cast_unsigned w16 (slice_index_or numbers i (pos 0))

-- what the ports of results read (GBATEK, "DS 3D Status" and "DS 3D Tests"); of the vector matrix three rows of three (GBATEK, VECMTX_RESULT)
unfoldable pub engine_word : GxPort → GeometryState → ℕ
engine_word Lengths g = length g.outcome.polygons + length g.outcome.vertices * 2 ^ 16
engine_word (Position i) g = word_in g.outcome.position i
engine_word (Vector i) g = half_in g.outcome.vector (2 * i) + half_in g.outcome.vector (2 * i + 1) * 2 ^ 16
engine_word (Clip i) g = word_in (clip_of g.numbers.stacks).cells i
engine_word (VectorMatrix i) g = word_in g.numbers.stacks.pose.vector.cells (i / 3 * 4 + i % 3)
engine_word _ g = 0

-- what a port reads; those that only take words read 0
unfoldable pub read_port : GxPort → GxState → ℕ
read_port Display s = display_control s
read_port Status s = gx_status s
read_port port s = engine_word port s.geometry

abbrev pub gx_word : GxState → ℕ → ℕ
gx_word s at = read_port (gx_port at) s

-- the bits of a port that stay where a write doesn't cover them: DISP3DCNT's and GXSTAT's selector; DISP3DCNT bit 13 and GXSTAT bit 15 act
unfoldable pub kept_port : GxPort → GxState → ℕ
kept_port Display s = s.display
kept_port Status s = s.selector * 2 ^ 30
kept_port _ s = 0

abbrev pub gx_kept : GxState → ℕ → ℕ
gx_kept s at = kept_port (gx_port at) s

-- What a write leaves.

-- entries came at a tick: a command that is under way goes on; otherwise the head command begins
abbrev pub entries_came : Tick → FifoState → GxState → GxState
entries_came now fifo s = record s { fifo = fifo; due = option_or s.due (begun now s.swap_waits fifo.entries) }

-- DISP3DCNT keeps bits 0 to 14 but for bit 13, where a 1 clears the lists' overflow (GBATEK, DISP3DCNT)
abbrev pub kept_display : ℕ → ℕ
kept_display value = bits 0 13 value + flag 14 (bit 14 value)

abbrev pub disp3dcnt_written : ℕ → GxState → GxState
disp3dcnt_written value s = record s { geometry = (if bit 13 value then overflow_cleared s.geometry else s.geometry); display = kept_display value }

-- GXSTAT keeps its selector, and a 1 in bit 15 clears the stacks' error (GBATEK, GXSTAT)
abbrev pub gxstat_written : ℕ → GxState → GxState
gxstat_written value s = record s { geometry = (if bit 15 value then geometry_error_cleared s.geometry else s.geometry); selector = bits 30 2 value }

unfoldable pub write_port : GxPort → ℕ → Tick → GxState → GxState
write_port Display value now s = disp3dcnt_written value s
write_port Fifo value now s = entries_came now (word_taken value s.fifo) s
write_port (Direct code) value now s = entries_came now (entry_added (command_of code) value s.fifo) s
write_port Status value now s = gxstat_written value s
write_port _ value now s = s

abbrev pub gx_written : GxState → ℕ → ℕ → Tick → GxState
gx_written s at value now = write_port (gx_port at) value now s

-- The head command is done at a tick: its entries leave, and the engine is as the command leaves it. After one that asks for a swap no command
-- begins; otherwise the next one does, at that tick.
abbrev pub command_done : GeometryCommand → Tick → GxState → GxState
command_done command now s =
    let entries = drop (entries_taken command) s.fifo.entries in
    record s {
      geometry = geometry_after command (words_taken command s.fifo.entries) s.geometry;
      fifo = record s.fifo { entries = entries };
      due = begun now (asks_for_swap command) entries;
      swap_waits = asks_for_swap command;
    }

abbrev pub done_by : Option Tick → Option GeometryCommand → GxState → GxState
done_by (Some now) (Some command) s = command_done command now s
done_by due head s = s

abbrev pub gx_finished : GxState → GxState
gx_finished s = done_by s.due (complete_command s.fifo.entries) s

-- Line 192 begins: a swap that waits is made, and the next command begins at that tick (GBATEK, SWAP_BUFFERS)
abbrev pub gx_swapped : Tick → GxState → GxState
gx_swapped now s =
    if s.swap_waits then record s { geometry = swapped now s.geometry; due = begun now false s.fifo.entries; swap_waits = false } else s

-- What holds at every time.

-- what waits: how much at most, and that a command is due exactly where the head command is complete and no swap waits
pub record AreWaiting (s : GxState) : Type 0 where
  pub entries : length s.fifo.entries ≤ most_entries
  pub packed : s.fifo.packed < 2 ^ 32
  pub given : is_given s.fifo.packed s.fifo.given ≡ true
  pub due : is_some s.due ≡ (not s.swap_waits && is_some (complete_command s.fifo.entries))

-- and which bits are kept, that a parameter waits with a swap alone, and what holds of the engine
pub record IsGx (s : GxState) : Type 0 where
  pub waiting : AreWaiting s
  pub parameter : s.swap_waits ≡ false → s.geometry.numbers.parameter ≡ 0
  pub display : s.display < 2 ^ 15
  pub overflow_apart : bit 13 s.display ≡ false
  pub selector : s.selector < 2 ^ 2
  pub geometry : IsGeometry s.geometry

-- a command adds one vertex to the current run at most
abbrev pub AddsOneVertex : GxState → GxState → Type 0
AddsOneVertex old new = new.geometry.numbers.run ≤ old.geometry.numbers.run + 1
