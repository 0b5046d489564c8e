use Rattle.std.specs.Prelude.{ℕ, Bool, ◌≡◌, ◌≢◌, ◌<◌, ◌≤◌, ◌+◌, ◌*◌, ◌%◌, ◌^◌, ◌==◌, if◌then◌else◌, List, slice_index}
use Rattle.ds_base.specs.Numbers.{number_at}
use Rattle.ds_base.specs.declared.memories.Space.{Space}
use Rattle.ds_base.specs.declared.memories.Width.TheVariants.{Half}
use Rattle.vram_banks.specs.Cells.{Banks, vram_value}

-- Pixels and the colours of palettes, for backgrounds and objects alike.

-- an opaque pixel: red, green and blue in bits 0 to 14, as a palette has them (GBATEK, "LCD Color Palettes"), and bit 15 set (our choice,
-- where a palette's bit 15 is unused). A transparent pixel is 0
abbrev pub opaque_pixel : ℕ → ℕ
opaque_pixel colour = colour % 2 ^ 15 + 2 ^ 15

-- so a pixel is 0, or has bit 15 set
abbrev pub HasForm : ℕ → Type 0
HasForm pixel = pixel ≢ 0 → 2 ^ 15 ≤ pixel

-- the pixel of a colour's index in a palette: index 0 is transparent, whatever the palette has there (GBATEK, "LCD Color Palettes")
abbrev pub indexed_pixel : (ℕ → ℕ) → ℕ → ℕ
indexed_pixel palette index = if index == 0 then 0 else opaque_pixel (palette index)

-- a colour of an engine's standard palette, which has 256 halves
abbrev pub palette_colour : List ℕ → ℕ → ℕ
palette_colour palette index = number_at Half palette (2 * index)

-- a colour of a palette of 256 halves that begins at an address of a space of extended palettes (GBATEK, "DS Video Extended Palettes")
abbrev pub extended_colour : Banks → Space → ℕ → ℕ → ℕ
extended_colour v space at index = vram_value v space (at + 2 * index) Half

-- the pixel of each colour of a standard palette, as tiles of 256 colours or of 16 take it: of the whole palette colour 0 is transparent, or that of
-- each palette of sixteen
abbrev pub table_pixel : Bool → List ℕ → ℕ → ℕ
table_pixel wide palette index = if index % (if wide then 256 else 16) == 0 then 0 else opaque_pixel (palette_colour palette index)

-- a table has these pixels
abbrev pub IsTable : Bool → List ℕ → List ℕ → Type 0
IsTable wide palette table = (i : ℕ) → i < 256 → slice_index table i ≡ table_pixel wide palette i
