use Rattle.std.specs.Prelude.{ℕ, ◌≡◌, ◌<◌, ◌+◌, ◌*◌, ◌/◌, List, slice_index}
use Rattle.ds_base.specs.Bits.{bits}
use Rattle.ds_base.specs.declared.memories.Space.{Space}
use Rattle.vram_banks.specs.Cells.{Banks, vram_byte}
use Rattle.vram_banks.specs.Bases.{map_base}
use Rattle.bg_ext.specs.declared.layers.ExtLayer.{ExtLayer}
use Rattle.bg_ext.specs.ExtendedPixels.{bitmap_base, bitmap_widths, map_sides}

-- How the code draws a row of a background that isn't turned: the bytes of its line are read at once. No public call speaks of it.

-- where the entries of a map, or the pixels of a bitmap, begin that show line y
abbrev pub entries_start : ExtLayer → ℕ → ℕ
entries_start layer y =
    map_base layer.engine layer.display layer.control + 2 * (slice_index map_sides (bits 14 2 layer.control) / 8 * (y / 8))

abbrev pub bytes_start : ExtLayer → ℕ → ℕ
bytes_start layer y = bitmap_base layer + slice_index bitmap_widths (bits 14 2 layer.control) * y

abbrev pub halves_start : ExtLayer → ℕ → ℕ
halves_start layer y = bitmap_base layer + 2 * (slice_index bitmap_widths (bits 14 2 layer.control) * y)

-- a list has the n bytes that stand in a space from an address on
abbrev pub AreBytes : Banks → Space → ℕ → List ℕ → ℕ → Type 0
AreBytes v space at bytes n = (i : ℕ) → i < n → slice_index bytes i ≡ vram_byte v space (at + i)
