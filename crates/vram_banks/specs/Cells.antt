use Rattle.std.specs.Prelude.{ℕ, zero, suc, ◌≡◌, ◌<◌, ◌+◌, ◌-◌, ◌*◌, ◌/◌, ◌%◌, ◌^◌, ◌↔◌, ◌==◌, ◌&&◌, ◌||◌, Bool, false, nat_le, nat_lt, if◌then◌else◌, Option, Some, None, List, [], ◌∷◌, length, slice_index, slice_set, bit_or}
use Rattle.std.specs.Int.{bit_at}
use Rattle.ds_base.specs.Bits.{bits}
use Rattle.ds_base.specs.Memories.{space_size}
use Rattle.ds_base.specs.Numbers.{zeroes, width_bytes, aligned_down, value_by, put_by}
use Rattle.ds_base.specs.declared.memories.Space.{Space}
use Rattle.ds_base.specs.declared.memories.Width.{Width}
use Rattle.vram_banks.specs.BankMap.{BankRow, kept_bank_control, chosen_row, row_start, same_space, first_cell, IsThere}

-- What is read and written in a space, straight from the bank map (GBATEK, "DS Memory Control - VRAM"). Where several banks stand at one
-- address, they are read together, as the OR of all, and written together (our choice, where GBATEK is open).

-- video memory: all banks' bytes in order, A to I, 656K, and the nine controls
pub record Banks : Type 0 where
  pub bytes : List ℕ
  pub controls : List ℕ

-- all is 0, and no bank is enabled
abbrev pub blank_banks : Banks
blank_banks = record { bytes = zeroes 0xA4000; controls = 0 ∷ 0 ∷ 0 ∷ 0 ∷ 0 ∷ 0 ∷ 0 ∷ 0 ∷ 0 ∷ [] }

-- a bank's control is a byte that has only the bits that the bank keeps
pub record IsControl (bank control : ℕ) : Type 0 where
  pub small : control < 256
  pub kept : kept_bank_control bank control ≡ control

-- what always holds of video memory
pub record AreBanks (v : Banks) : Type 0 where
  pub bytes : length v.bytes ≡ 0xA4000
  pub narrow : (at : ℕ) → slice_index v.bytes at < 256
  pub controls : length v.controls ≡ 9
  pub each : (bank : ℕ) → bank < 9 → IsControl bank (slice_index v.controls bank)

-- ---- the cells at an address

-- the byte of the memory of all banks that stands at an address of a space by a bank's row and control, if one does; `first` is the
-- number of the bank's first byte
abbrev pub cell_by : Option BankRow → ℕ → ℕ → Space → ℕ → Option ℕ
cell_by None first control space at = None
cell_by (Some r) first control space at =
    if same_space r.space space && (nat_le (row_start r control) at && nat_lt at (row_start r control + r.size))
    then Some (first + (at - row_start r control)) else None

-- the byte of a bank that stands at an address of a space, which is taken by remainder of the space's size
unfoldable pub cell_there : List ℕ → Space → ℕ → ℕ → Option ℕ
cell_there controls space at bank =
    let control = slice_index controls bank in
    if bits 7 1 control == 1 then cell_by (chosen_row bank control) (first_cell bank) control space (at % space_size space) else None

-- the OR of f at the numbers below n
unfoldable pub or_below : ℕ → (ℕ → ℕ) → ℕ
or_below zero f = 0
or_below (suc n) f = bit_or (or_below n f) (f n)

abbrev pub byte_or_0 : List ℕ → Option ℕ → ℕ
byte_or_0 bytes None = 0
byte_or_0 bytes (Some cell) = slice_index bytes cell

-- a value is put where f gives a place, for the numbers below n
abbrev pub put_there : Option ℕ → ℕ → List ℕ → List ℕ
put_there None value bytes = bytes
put_there (Some cell) value bytes = slice_set bytes cell value

unfoldable pub put_below : ℕ → (ℕ → Option ℕ) → ℕ → List ℕ → List ℕ
put_below zero f value bytes = bytes
put_below (suc n) f value bytes = put_there (f n) value (put_below n f value bytes)

-- ---- what is read and written

-- the byte that is read at an address of a space: the OR of what the nine banks have there, 0 where none has anything
unfoldable pub vram_byte : Banks → Space → ℕ → ℕ
vram_byte v space at = or_below 9 (λ bank. byte_or_0 v.bytes (cell_there v.controls space at bank))

-- a byte is written at an address of a space: into every cell that stands there
unfoldable pub with_vram_byte : Space → ℕ → ℕ → Banks → Banks
with_vram_byte space at value v = record v { bytes = put_below 9 (cell_there v.controls space at) value v.bytes }

-- what an access reads; its address is aligned down to its width
abbrev pub vram_value : Banks → Space → ℕ → Width → ℕ
vram_value v space at width = value_by width (vram_byte v space) (aligned_down width at)

-- what an access leaves that writes a value
abbrev pub vram_written : Banks → Space → ℕ → Width → ℕ → Banks
vram_written v space at width value = put_by width (with_vram_byte space) (aligned_down width at) value v

-- C and D are ARM7's where they are enabled with MST 2 (GBATEK, "DS Memory Control - VRAM", VRAMSTAT)
abbrev pub allotted_bit : ℕ → ℕ
allotted_bit control = if bits 7 1 control == 1 && control % 8 == 2 then 1 else 0

abbrev pub allotted_of : List ℕ → ℕ
allotted_of controls = allotted_bit (slice_index controls 2) + 2 * allotted_bit (slice_index controls 3)

-- a byte of the memory of all banks lies in a bank that is allotted to ARM7: C's are the 128K from 40000h on, D's those from 60000h on
abbrev pub is_allotted : List ℕ → ℕ → Bool
is_allotted controls cell =
    ((cell / 0x20000 == 2) && (allotted_bit (slice_index controls 2) == 1)) || ((cell / 0x20000 == 3) && (allotted_bit (slice_index controls 3) == 1))

-- so does the byte that stands somewhere, if one does
abbrev pub is_allotted_there : List ℕ → Option ℕ → Bool
is_allotted_there controls None = false
is_allotted_there controls (Some cell) = is_allotted controls cell

-- one of the cells at an address of a space lies in such a bank
unfoldable pub meets_allotted : List ℕ → Space → ℕ → Bool
meets_allotted controls space at =
    is_allotted_there controls (cell_there controls space at 2) || is_allotted_there controls (cell_there controls space at 3)

-- ---- the same as relations over the set of cells that stand at an address

-- a byte has exactly the bits that some cell of a set has
pub record IsOr (IsCell : ℕ → Type 0) (bytes : List ℕ) (value : ℕ) : Type 0 where
  pub bits : (k : ℕ) → (bit_at value k ≡ 1) ↔ ((cell : ℕ) × IsCell cell × (bit_at (slice_index bytes cell) k ≡ 1))

-- the cells that stand at an address of a space, which is taken by remainder of the space's size
abbrev pub IsCellAt : Banks → Space → ℕ → ℕ → Type 0
IsCellAt v space at cell = IsThere v.controls space (at % space_size space) cell

-- what an access reads, the lowest byte first: each byte is the OR of the cells that stand at its address
pub record IsRead (v : Banks) (space : Space) (at : ℕ) (width : Width) (value : ℕ) : Type 0 where
  pub bytes : ℕ → ℕ
  pub each : (k : ℕ) → k < width_bytes width → IsOr (IsCellAt v space (aligned_down width at + k)) v.bytes (bytes k)
  pub in_order : value ≡ value_by width bytes 0

-- after a write each cell at the address of one of its bytes has that byte, and every other cell and the controls are as before
pub record IsWritten (old new : Banks) (space : Space) (at : ℕ) (width : Width) (value : ℕ) : Type 0 where
  pub controls : new.controls ≡ old.controls
  pub long : length new.bytes ≡ length old.bytes
  pub each : (k cell : ℕ) → k < width_bytes width → IsCellAt old space (aligned_down width at + k) cell → slice_index new.bytes cell
      ≡ value / 256 ^ k % 256
  pub others : (cell : ℕ) → ((k : ℕ) → k < width_bytes width → ¬ IsCellAt old space (aligned_down width at + k) cell) → slice_index new.bytes cell
      ≡ slice_index old.bytes cell

-- bytes are those at the addresses of a space from one on, as many as they are
abbrev pub IsRunOf : Banks → Space → ℕ → List ℕ → Type 0
IsRunOf v space at bytes = (i : ℕ) → i < length bytes → slice_index bytes i ≡ vram_byte v space (at + i)
