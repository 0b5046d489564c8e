use Rattle.std.specs.Prelude.{ℕ, Bool, true, false, ◌+◌, ◌-◌, ◌*◌, ◌/◌, ◌%◌, ◌==◌, if◌then◌else◌}
use Rattle.ds_base.specs.declared.memories.Space.{Space}
use Rattle.vram_banks.specs.Cells.{Banks, vram_byte}

-- Tiles of 8 by 8 pixels, for backgrounds and objects alike (GBATEK, "LCD VRAM Character Data"). A tile begins at an address of a space;
-- x counts from the left, y from the top.

-- of a byte that has two pixels, the left one is the low nibble
abbrev pub nibble_at : ℕ → ℕ → ℕ
nibble_at x byte = if x % 2 == 0 then byte % 16 else byte / 16

-- the index at a pixel of a tile of 16 colours, which has four bytes a row
abbrev pub index_of_16 : Banks → Space → ℕ → ℕ → ℕ → ℕ
index_of_16 v space tile x y = nibble_at x (vram_byte v space (tile + 4 * y + x / 2))

-- the index at a pixel of a tile of 256 colours, which has eight bytes a row
abbrev pub index_of_256 : Banks → Space → ℕ → ℕ → ℕ → ℕ
index_of_256 v space tile x y = vram_byte v space (tile + 8 * y + x)

-- a place in a tile's row or column, flipped or not
abbrev pub flipped : Bool → ℕ → ℕ
flipped true place = 7 - place
flipped false place = place
