use Rattle.std.specs.Prelude.{ℕ, Bool, ◌%◌, ◌≡◌, ◌<◌, ◌+◌, ◌*◌, ◌^◌, ◌==◌, ◌||◌, nat_lt, if◌then◌else◌, List, [], ◌∷◌, Option, Some, None, slice_index}
use Rattle.ds_base.specs.Bits.{bits}
use Rattle.ds_base.specs.declared.memories.Space.{Space}
use Rattle.ds_base.specs.declared.memories.Space.TheVariants.{ABg, BBg, AObj, BObj, Lcdc, Arm7, ABgPalette, BBgPalette, AObjPalette, BObjPalette}

-- The bank map (GBATEK, "DS Memory Control - VRAM", the table of VRAM bank control registers). Banks are numbered from 0, which
-- is A, to 8, which is I.

-- where each bank's bytes begin in the memory of all nine: A to D have 128K each, E 64K, F and G 16K each, H 32K, I 16K
unfoldable pub first_cell : ℕ → ℕ
first_cell bank =
    if nat_lt bank 4 then bank * 0x20000 else (
    if bank == 4 then 0x80000 else (
    if bank == 5 then 0x90000 else (
    if bank == 6 then 0x94000 else (
    if bank == 7 then 0x98000 else 0xA0000))))

-- a row of a bank's table: an MST, the space in which the bank stands with it, the address there, what bit 0 and what bit 1 of
-- OFS add to that address, and how many of the bank's bytes stand there, from its first on
pub record BankRow : Type 0 where
  pub mst : ℕ
  pub space : Space
  pub base : ℕ
  pub ofs_0 : ℕ
  pub ofs_1 : ℕ
  pub size : ℕ

abbrev pub mapped : ℕ → Space → ℕ → ℕ → ℕ → ℕ → BankRow
mapped mst space base ofs_0 ofs_1 size = record { mst = mst; space = space; base = base; ofs_0 = ofs_0; ofs_1 = ofs_1; size = size }

-- An MST that has no row maps a bank nowhere; so do those of textures and their palettes, which no processor sees.

-- A and B
abbrev pub rows_of_ab : ℕ → List BankRow
rows_of_ab lcdc =
    mapped 0 Lcdc lcdc 0 0 0x20000
    ∷ mapped 1 ABg 0 0x20000 0x40000 0x20000
    ∷ mapped 2 AObj 0 0x20000 0 0x20000
    ∷ []

-- C and D, which differ in the space of MST 4
abbrev pub rows_of_cd : ℕ → Space → List BankRow
rows_of_cd lcdc fourth =
    mapped 0 Lcdc lcdc 0 0 0x20000
    ∷ mapped 1 ABg 0 0x20000 0x40000 0x20000
    ∷ mapped 2 Arm7 0 0x20000 0 0x20000
    ∷ mapped 4 fourth 0 0 0 0x20000
    ∷ []

-- E; of its 64K the first 32K serve as palettes
abbrev pub rows_of_e : List BankRow
rows_of_e =
    mapped 0 Lcdc 0x80000 0 0 0x10000
    ∷ mapped 1 ABg 0 0 0 0x10000
    ∷ mapped 2 AObj 0 0 0 0x10000
    ∷ mapped 4 ABgPalette 0 0 0 0x8000
    ∷ []

-- F and G; of their 16K the first 8K serve as palettes of objects
abbrev pub rows_of_fg : ℕ → List BankRow
rows_of_fg lcdc =
    mapped 0 Lcdc lcdc 0 0 0x4000
    ∷ mapped 1 ABg 0 0x4000 0x10000 0x4000
    ∷ mapped 2 AObj 0 0x4000 0x10000 0x4000
    ∷ mapped 4 ABgPalette 0 0x4000 0 0x4000
    ∷ mapped 5 AObjPalette 0 0 0 0x2000
    ∷ []

-- H
abbrev pub rows_of_h : List BankRow
rows_of_h =
    mapped 0 Lcdc 0x98000 0 0 0x8000
    ∷ mapped 1 BBg 0 0 0 0x8000
    ∷ mapped 2 BBgPalette 0 0 0 0x8000
    ∷ []

-- I; of its 16K the first 8K serve as palettes of objects
abbrev pub rows_of_i : List BankRow
rows_of_i =
    mapped 0 Lcdc 0xA0000 0 0 0x4000
    ∷ mapped 1 BBg 0x8000 0 0 0x4000
    ∷ mapped 2 BObj 0 0 0 0x4000
    ∷ mapped 3 BObjPalette 0 0 0 0x2000
    ∷ []

abbrev pub rows_of : ℕ → List BankRow
rows_of bank =
    if bank == 0 then rows_of_ab 0x00000 else (
    if bank == 1 then rows_of_ab 0x20000 else (
    if bank == 2 then rows_of_cd 0x40000 BBg else (
    if bank == 3 then rows_of_cd 0x60000 BObj else (
    if bank == 4 then rows_of_e else (
    if bank == 5 then rows_of_fg 0x90000 else (
    if bank == 6 then rows_of_fg 0x94000 else (
    if bank == 7 then rows_of_h else rows_of_i)))))))

-- a number for each space, by which spaces are compared
abbrev pub space_number : Space → ℕ
space_number ABg = 0
space_number BBg = 1
space_number AObj = 2
space_number BObj = 3
space_number Lcdc = 4
space_number Arm7 = 5
space_number ABgPalette = 6
space_number BBgPalette = 7
space_number AObjPalette = 8
space_number BObjPalette = 9

abbrev pub same_space : Space → Space → Bool
same_space a b = space_number a == space_number b

-- the row of an MST
abbrev pub row_by : List BankRow → ℕ → Option BankRow
row_by [] mst = None
row_by (r ∷ rs) mst = if mst == r.mst then Some r else row_by rs mst

-- how many bits of MST a bank's control has: A, B, H and I have two, the others three
abbrev pub mst_bits : ℕ → ℕ
mst_bits bank = if nat_lt bank 2 || nat_lt 6 bank then 2 else 3

-- what a bank's control keeps of a byte that is written to it: MST, which begins at bit 0; OFS, which is bits 3 and 4; and bit 7, which
-- enables the bank. The other bits are 0 from then on
abbrev pub kept_bank_control : ℕ → ℕ → ℕ
kept_bank_control bank written = written % 2 ^ mst_bits bank + 2 ^ 3 * bits 3 2 written + 2 ^ 7 * bits 7 1 written

-- where a bank begins in the space of a row
abbrev pub row_start : BankRow → ℕ → ℕ
row_start r control = r.base + bits 3 1 control * r.ofs_0 + bits 4 1 control * r.ofs_1

-- the row that a control chooses
abbrev pub chosen_row : ℕ → ℕ → Option BankRow
chosen_row bank control = row_by (rows_of bank) (control % 8)

-- cell i of a bank stands at an address of a space by the bank's control
pub record Stands (bank control i : ℕ) (space : Space) (at : ℕ) : Type 0 where
  pub enabled : bits 7 1 control ≡ 1
  pub row : BankRow
  pub by : chosen_row bank control ≡ Some row
  pub in_space : row.space ≡ space
  pub within : i < row.size
  pub address : at ≡ row_start row control + i

-- a bank stands somewhere in a space
pub record StandsIn (bank control : ℕ) (space : Space) : Type 0 where
  pub i : ℕ
  pub at : ℕ
  pub stands : Stands bank control i space at

-- a byte of the memory of all nine banks is a cell that stands at an address of a space, by all controls
pub record IsThere (controls : List ℕ) (space : Space) (at cell : ℕ) : Type 0 where
  pub bank : ℕ
  pub known : bank < 9
  pub i : ℕ
  pub stands : Stands bank (slice_index controls bank) i space at
  pub number : cell ≡ first_cell bank + i
