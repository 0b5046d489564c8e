use Rattle.std.specs.Prelude.{ℕ, ◌≡◌, ◌≤◌, ◌+◌, ◌-◌, ◌%◌, ◌==◌, ◌&&◌, nat_le, nat_lt, if◌then◌else◌, List, Option, Some, None, slice_index}
use Rattle.ds_base.specs.Bits.{bits}
use Rattle.ds_base.specs.declared.memories.Space.{Space}
use Rattle.ds_base.specs.declared.memories.Space.TheVariants.{ABg, BBg, AObj, BObj, Lcdc, Arm7, ABgPalette, BBgPalette, AObjPalette, BObjPalette}
use Rattle.vram_banks.specs.declared.windows.Window.{Window}
use Rattle.vram_banks.specs.BankMap.{BankRow, chosen_row, row_start, first_cell}
use Rattle.vram_banks.specs.Cells.{byte_or_0, or_below, put_below}

-- The bank map as a function, as the code computes it: the spaces laid one after another, so that a space and an address in it
-- are one number, a flat address, and a bank's place a range of them. (Our choice of form; that it is the relation of BankMap is
-- proved, by the clauses of each public call that cite it.)

-- where each space begins
abbrev pub origin_of : Space → ℕ
origin_of ABg = 0
origin_of BBg = 0x80000
origin_of AObj = 0xA0000
origin_of BObj = 0xE0000
origin_of Lcdc = 0x100000
origin_of Arm7 = 0x200000
origin_of ABgPalette = 0x240000
origin_of BBgPalette = 0x248000
origin_of AObjPalette = 0x250000
origin_of BObjPalette = 0x252000

abbrev pub no_window : Window
no_window = record { first = 0; size = 0 }

-- the range in which a bank stands by a row
abbrev pub window_by : Option BankRow → ℕ → Window
window_by None control = no_window
window_by (Some r) control = record { first = origin_of r.space + row_start r control; size = r.size }

unfoldable pub window_of : ℕ → ℕ → Window
window_of bank control = if bits 7 1 control == 1 then window_by (chosen_row bank control) control else no_window

-- a window and its bounds are whole pages of 8K below the end of all spaces, and it has at most n bytes
pub record IsRoomy (n : ℕ) (w : Window) : Type 0 where
  pub first : w.first % 8192 ≡ 0
  pub size : w.size % 8192 ≡ 0
  pub inside : w.first + w.size ≤ 0x254000
  pub room : w.size ≤ n

abbrev pub cell_in : Window → ℕ → ℕ → Option ℕ
cell_in w start x = if nat_le w.first x && nat_lt x (w.first + w.size) then Some (start + (x - w.first)) else None

-- the cell of a bank that stands at a flat address
unfoldable pub cell_of : List ℕ → ℕ → ℕ → Option ℕ
cell_of controls bank x = cell_in (window_of bank (slice_index controls bank)) (first_cell bank) x

-- the OR of all cells at a flat address
unfoldable pub or_at : List ℕ → List ℕ → ℕ → ℕ
or_at controls bytes x = or_below 9 (λ bank. byte_or_0 bytes (cell_of controls bank x))

-- a value is put into all cells at a flat address
unfoldable pub put_in_cells : List ℕ → ℕ → ℕ → List ℕ → List ℕ
put_in_cells controls x value bytes = put_below 9 (λ bank. cell_of controls bank x) value bytes
