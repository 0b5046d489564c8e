use Rattle.std.specs.Prelude.{ℕ, ◌≡◌, ◌<◌, ◌≤◌, ◌-◌, ◌^◌, ◌==◌, ◌&&◌, ◌||◌, not, nat_le, if◌then◌else◌, Bool, true, false, List, length, is_some, unwrap_or}
use Rattle.std.specs.List.{AllByRecursion}
use Rattle.ds_base.specs.Schedules.{due_number, numbered_due}
use Rattle.ds_state.specs.Formats.{Format, number_code, flag_code, tick, done, ◌>>=◌, one_field, its, each, any, at_most, keeps_mask, soon, bytes_written}
use Rattle.ds_state.specs.FormatLaws.{OneSpelling, RoundTrips}
use Rattle.gx_matrix.specs.CommandTable.{command_of, command_row}
use Rattle.gx_matrix.specs.declared.commands.GeometryCommand.{GeometryCommand}
use Rattle.gx_matrix.specs.declared.commands.GeometryCommand.TheVariants.{MtxMode}
use Rattle.gx_geometry.specs.SavedLaws.{HasBounds, IsSavedGeometry}
use Rattle.gx_geometry.specs.Saved.{geometry_format}
use Rattle.gx_fifo.specs.declared.entries.GxEntry.{GxEntry}
use Rattle.gx_fifo.specs.declared.gx.saved.Asked.{Asked}
use Rattle.gx_fifo.specs.Entries.{complete_command, most_entries}
use Rattle.gx_fifo.specs.PackedWords.{FifoState, first_parameters}
use Rattle.gx_fifo.specs.GxStates.{GxState, IsGx, half_empty_by, level_by, stalls_by, waiting_entries}

-- The geometry engine with what waits for it in bytes: the engine; then the FIFO.

-- an entry: its command's code and its word
abbrev pub has_command : ℕ → ℕ → Bool
has_command at code = is_some (command_of code)

abbrev pub command_or_first : ℕ → GeometryCommand
command_or_first code = unwrap_or (command_of code) MtxMode

unfoldable pub entry_format : Format GxEntry GxEntry
entry_format = do
  code ← one_field (number_code 1) (λ e. (command_row e.command).code) has_command
  word ← one_field (number_code 4) (λ e. e.word) any
  done (record { command = command_or_first code; word = word })

-- How many parameters the command that waits has left: from one to all of those that the first of the packed bytes left has, and none where no byte
-- is left.
abbrev pub parameters_left : FifoState → ℕ
parameters_left s = first_parameters s.packed - s.given

abbrev pub are_left : ℕ → ℕ → ℕ → Bool
are_left packed at left = (packed == 0 && left == 0) || (nat_le 1 left && nat_le left (first_parameters packed))

-- A command is due exactly where the head command has all its entries and no swap waits; and a parameter waits with a swap alone.
abbrev pub may_wait : ℕ → Bool → Bool → ℕ → Bool → Bool
may_wait parameter due head at waits = if waits then not due else (parameter == 0 && (if head then due else not due))

-- what the rest of a machine asks of how many entries wait: never so many, or the interrupt's level down, or a stall, or the FIFO not half empty
abbrev pub holds_by : Asked → ℕ → ℕ → Bool
holds_by asked selector waiting =
    not asked.wakes && not (asked.hears && level_by selector waiting) && (not asked.late || stalls_by waiting)
    && not (asked.waits && half_empty_by waiting)

-- nothing is asked
abbrev pub asks_nothing : Asked
asks_nothing = record { wakes = false; hears = false; late = false; waits = false }

abbrev pub count_by : (ℕ → ℕ → Bool) → ℕ → ℕ → ℕ → Bool
count_by asked selector at count = asked selector count && at_most most_entries at count

-- By what else is asked of GXSTAT's selector and how many entries wait, which is told where it is said how many do. DISP3DCNT's kept bits have no
-- bit 13, which stands with the engine's results
unfoldable pub gx_format_by : (ℕ → ℕ → Bool) → Format GxState GxState
gx_format_by asked = do
  geometry ← its geometry_format (λ s. s.geometry)
  display ← one_field (number_code 2) (λ s. s.display) (keeps_mask 0x5FFF)
  selector ← one_field (number_code 1) (λ s. s.selector) (at_most 3)
  count ← one_field (number_code 2) (λ s. length s.fifo.entries) (count_by asked selector)
  entries ← each count entry_format (λ s. s.fifo.entries)
  packed ← one_field (number_code 4) (λ s. s.fifo.packed) any
  left ← one_field (number_code 1) (λ s. parameters_left s.fifo) (are_left packed)
  due ← one_field tick (λ s. due_number s.due) soon
  waits ← one_field flag_code (λ s. s.swap_waits) (may_wait geometry.numbers.parameter (is_some due) (is_some (complete_command entries)))
  done (record {
    geometry = geometry;
    fifo = record { entries = entries; packed = packed; given = first_parameters packed - left };
    due = numbered_due due;
    swap_waits = waits;
    display = display;
    selector = selector;
  })

abbrev pub gx_format : Format GxState GxState
gx_format = gx_format_by (λ selector waiting. true)

-- what holds of each number at every time, beside what `IsGx` has
pub record HasGxBounds (s : GxState) : Type 0 where
  pub geometry : HasBounds s.geometry
  pub words : AllByRecursion (λ e. e.word < 2 ^ 32) s.fifo.entries

-- and at a tick
pub record IsSavedGx (at : ℕ) (s : GxState) : Type 0 where
  pub is : IsGx s
  pub geometry : IsSavedGeometry at s.geometry
  pub words : AllByRecursion (λ e. e.word < 2 ^ 32) s.fifo.entries
  pub due : soon at (due_number s.due) ≡ true

-- Its bytes are read as it was, where what else is asked holds, and bytes that are read are its own. Its bytes are the same whatever is asked.
pub record GxIsSaved : Type 0 where
  pub back : (at : ℕ) (s : GxState) → at ≤ 2 ^ 56 → IsSavedGx at s → RoundTrips gx_format at s
  pub back_by : (asked : ℕ → ℕ → Bool) (at : ℕ) (s : GxState) → at ≤ 2 ^ 56 → IsSavedGx at s → asked s.selector (waiting_entries s) ≡ true
      → RoundTrips (gx_format_by asked) at s
  pub same_bytes : (asked : ℕ → ℕ → Bool) (before : List ℕ) (s : GxState)
      → bytes_written (gx_format_by asked) before s ≡ bytes_written gx_format before s
  pub spelling : (at : ℕ) → OneSpelling gx_format at
  pub spelling_by : (asked : ℕ → ℕ → Bool) (at : ℕ) → OneSpelling (gx_format_by asked) at
