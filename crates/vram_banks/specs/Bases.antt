use Rattle.std.specs.Prelude.{ℕ, ◌+◌, ◌*◌, ◌==◌, if◌then◌else◌}
use Rattle.ds_base.specs.Bits.{bits}
use Rattle.ds_base.specs.declared.memories.Space.{Space}
use Rattle.ds_base.specs.declared.memories.Space.TheVariants.{ABg, BBg, ABgPalette, BBgPalette}

-- Where the backgrounds of an engine have their maps and tiles (GBATEK, "LCD I/O BG Control" and "DS Video BG Modes / Control"). Engine 0
-- is A, any other is B. Addresses are exact sums; each byte is taken by remainder of the space's size.

abbrev pub background_space : ℕ → Space
background_space engine = if engine == 0 then ABg else BBg

-- the space of their extended palettes
abbrev pub background_palette_space : ℕ → Space
background_palette_space engine = if engine == 0 then ABgPalette else BBgPalette

-- engine A has a base of 64K steps in DISPCNT; B has none
abbrev pub display_base : ℕ → ℕ → ℕ
display_base engine field = if engine == 0 then 0x10000 * field else 0

-- the map's base: 2K steps in bits 8 to 12 of BGxCNT, 64K steps in bits 27 to 29 of DISPCNT
abbrev pub map_base : ℕ → ℕ → ℕ → ℕ
map_base engine display control = 0x800 * bits 8 5 control + display_base engine (bits 27 3 display)

-- the tiles' base: 16K steps in bits 2 to 5 of BGxCNT, 64K steps in bits 24 to 26 of DISPCNT
abbrev pub tile_base : ℕ → ℕ → ℕ → ℕ
tile_base engine display control = 0x4000 * bits 2 4 control + display_base engine (bits 24 3 display)
