use Rattle.std.specs.Prelude.{ℕ}
use Rattle.ds_base.specs.declared.memories.Memory.{Memory}
use Rattle.ds_base.specs.declared.memories.Memory.TheVariants.{Main, Shared, Own7, Itcm, Dtcm, Palette, Vram, Oam}
use Rattle.ds_base.specs.declared.memories.Space.{Space}
use Rattle.ds_base.specs.declared.memories.Space.TheVariants.{ABg, BBg, AObj, BObj, Lcdc, Arm7, ABgPalette, BBgPalette, AObjPalette, BObjPalette}

-- how many bytes a memory has (GBATEK, "DS Memory Map")
abbrev pub memory_size : Memory → ℕ
memory_size Main = 0x400000
memory_size Shared = 0x8000
memory_size Own7 = 0x10000
memory_size Itcm = 0x8000
memory_size Dtcm = 0x4000
memory_size Palette = 0x800
memory_size Vram = 0xA4000
memory_size Oam = 0x800

-- how many bytes a space of video memory has (GBATEK, "DS Memory Control - VRAM")
abbrev pub space_size : Space → ℕ
space_size ABg = 0x80000
space_size BBg = 0x20000
space_size AObj = 0x40000
space_size BObj = 0x20000
space_size Lcdc = 0x100000
space_size Arm7 = 0x40000
space_size ABgPalette = 0x8000
space_size BBgPalette = 0x8000
space_size AObjPalette = 0x2000
space_size BObjPalette = 0x2000
