use Rattle.std.specs.Prelude.{ℕ, ◌≡◌, ◌≢◌, ◌<◌, ◌≤◌, ◌+◌, ◌-◌, ◌*◌, ◌%◌, List, Option, Some, None, slice_index, slice_index_or}
use Rattle.vram_banks.specs.declared.windows.Window.{Window}
use Rattle.vram_banks.specs.declared.maps.Page.{Page}
use Rattle.vram_banks.specs.declared.maps.CellRun.{CellRun}
use Rattle.vram_banks.specs.declared.maps.Page.TheVariants.{Empty, One, Several}
use Rattle.vram_banks.specs.BankMap.{first_cell}
use Rattle.vram_banks.specs.paging.Flat.{no_window, window_of, cell_in, cell_of, IsRoomy}

-- What the code keeps beside the controls: each bank's window, and for each page of 8K what stands there.

abbrev pub window_at : List Window → ℕ → Window
window_at windows bank = slice_index_or windows bank no_window

-- the windows are those of the controls
pub record AreWindows (controls : List ℕ) (windows : List Window) : Type 0 where
  pub each : (bank : ℕ) → bank < 9 → window_at windows bank ≡ window_of bank (slice_index controls bank)
  pub roomy : (bank : ℕ) → bank < 9 → IsRoomy (0xA4000 - first_cell bank) (window_at windows bank)

abbrev pub cell_among : List Window → ℕ → ℕ → Option ℕ
cell_among windows x bank = cell_in (window_at windows bank) (first_cell bank) x

-- of the banks below n, of which f tells the cell that stands somewhere, none has one
abbrev pub NoneBelow : (ℕ → Option ℕ) → ℕ → Type 0
NoneBelow f n = (bank : ℕ) → bank < n → f bank ≡ None

-- one alone has one
pub record OneBelow (f : ℕ → Option ℕ) (n cell : ℕ) : Type 0 where
  pub bank : ℕ
  pub known : bank < n
  pub there : f bank ≡ Some cell
  pub others : (b : ℕ) → b < n → b ≢ bank → f b ≡ None

abbrev pub IsPageBelow : (ℕ → Option ℕ) → ℕ → Page → Type 0
IsPageBelow f n Empty = NoneBelow f n
IsPageBelow f n (One cell) = OneBelow f n cell
IsPageBelow f n Several = Unit {0}

-- what stands where this stood and, maybe, a cell more
abbrev pub with_cell : Page → Option ℕ → Page
with_cell page None = page
with_cell Empty (Some cell) = One cell
with_cell (One other) (Some cell) = Several
with_cell Several (Some cell) = Several

abbrev pub page_at : List Page → ℕ → Page
page_at pages k = slice_index_or pages k Several

-- the first n pages say what stands at their first addresses
abbrev pub ArePages : List Window → List Page → ℕ → Type 0
ArePages windows pages n = (k : ℕ) → k < n → IsPageBelow (cell_among windows (k * 8192)) 9 (page_at pages k)

-- what stands at a flat address and from there on to the end of its page
abbrev pub IsFound : List ℕ → ℕ → Page → Type 0
IsFound controls x Empty = (j : ℕ) → x % 8192 + j < 8192 → NoneBelow (λ bank. cell_of controls bank (x + j)) 9
IsFound controls x (One cell) =
    (cell + (8192 - x % 8192) ≤ 0xA4000)
    × ((j : ℕ) → x % 8192 + j < 8192 → OneBelow (λ bank. cell_of controls bank (x + j)) 9 (cell + j))
IsFound controls x Several = Unit {0}

-- one bank alone stands at all of so many flat addresses, with cells in a row
pub record IsCellRun (controls : List ℕ) (x : ℕ) (run : CellRun) : Type 0 where
  pub room : run.first + run.size ≤ 0xA4000
  pub each : (i : ℕ) → i < run.size → OneBelow (λ bank. cell_of controls bank (x + i)) 9 (run.first + i)
