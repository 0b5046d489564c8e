use Rattle.std.specs.Prelude.{ℕ, ◌+◌, ◌*◌}
use Rattle.ds_base.specs.Bits.{bits}
use Rattle.ds_base.specs.declared.memories.Space.TheVariants.{Lcdc}
use Rattle.ds_base.specs.declared.memories.Width.TheVariants.{Half}
use Rattle.vram_banks.specs.Cells.{Banks, vram_value}
use Rattle.vram_banks.specs.Colours.{opaque_pixel}

-- The pixel of a bank that is shown as it lies (GBATEK, "DS Video BG Modes / Control", display mode 2): the half at its place in one of the first
-- four blocks of 128K of LCDC, which DISPCNT's bits 18 and 19 choose. Its low 15 bits are the colour, bit 15 counts for nothing, and each pixel is
-- opaque. Where no bank is mapped there, the half is 0 (our choice)
unfoldable pub vram_pixel : Banks → ℕ → ℕ → ℕ → ℕ
vram_pixel v display line x = opaque_pixel (vram_value v Lcdc (0x20000 * bits 18 2 display + 512 * line + 2 * x) Half)
