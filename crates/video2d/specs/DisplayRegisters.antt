use Rattle.std.specs.Prelude.{ℕ, ◌≡◌, ◌≤◌, ◌-◌, ◌*◌, ◌/◌, ◌%◌, ◌^◌, Bool, true, false, if◌then◌else◌, List, [], ◌∷◌, ◌++◌, Option, Some, None, option_map, unwrap_or}
use Rattle.ds_base.specs.Numbers.{is_within}
use Rattle.video2d.specs.declared.display_registers.DisplayRegister.{DisplayRegister}
use Rattle.video2d.specs.declared.display_registers.DisplayRegister.TheVariants.{Dispstat, Vcount, Powcnt1, Dispcnt, Bg0cnt, Bg0hofs, Bg2pa, Bg2x, Bg3pa, Bg3x, Win0h, Win0v, Winin, Winout, Mosaic, Bldcnt, Bldalpha, Bldy, MasterBright, Dispcapcnt}
use Rattle.video2d.specs.declared.display_registers.DisplayRow.{DisplayRow}
use Rattle.video2d.specs.declared.engines.Engine.{Engine}
use Rattle.video2d.specs.declared.engines.Engine.TheVariants.{A, B}

-- The display's registers by GBATEK's names, in the order of its list ("DS I/O Maps"). What else of the display knows an offset or a kept bit has it
-- from here, and so has the register map.

-- Registers that follow one another are one row, with the name of the first: its offset, the bytes of each, how many there are, the bits that each
-- keeps, and whether they read what they keep, or 0. GBATEK names the used bits; that unused bits of DISPCNT, BGxCNT, MOSAIC, the windows' sides,
-- DISPCAPCNT and POWCNT1 are kept too is our choice.
abbrev pub read_write : ℕ → ℕ → ℕ → ℕ → DisplayRow
read_write first bytes count kept = record { first = first; bytes = bytes; count = count; kept = kept; reads = true }

abbrev pub written_alone : ℕ → ℕ → ℕ → ℕ → DisplayRow
written_alone first bytes count kept = record { first = first; bytes = bytes; count = count; kept = kept; reads = false }

abbrev pub display_row : DisplayRegister → DisplayRow
-- by the offset from 4000000h: each processor's DISPSTAT, which reads flags beside what it keeps, VCOUNT, and POWCNT1
display_row Dispstat = read_write 0x004 2 1 0xFFB8  -- DISPSTAT
display_row Vcount = read_write 0x006 2 1 0  -- VCOUNT
display_row Powcnt1 = read_write 0x304 2 1 0xFFFF  -- POWCNT1
-- by the offset from its engine's base
display_row Dispcnt = read_write 0x00 4 1 0xFFFFFFFF  -- DISPCNT
display_row Bg0cnt = read_write 0x08 2 4 0xFFFF  -- BG0CNT, BG1CNT, BG2CNT, BG3CNT
display_row Bg0hofs = written_alone 0x10 2 8 0x1FF  -- BG0HOFS, BG0VOFS, BG1HOFS, BG1VOFS, BG2HOFS, BG2VOFS, BG3HOFS, BG3VOFS
display_row Bg2pa = written_alone 0x20 2 4 0xFFFF  -- BG2PA, BG2PB, BG2PC, BG2PD
display_row Bg2x = written_alone 0x28 4 2 0x0FFFFFFF  -- BG2X, BG2Y
display_row Bg3pa = written_alone 0x30 2 4 0xFFFF  -- BG3PA, BG3PB, BG3PC, BG3PD
display_row Bg3x = written_alone 0x38 4 2 0x0FFFFFFF  -- BG3X, BG3Y
display_row Win0h = written_alone 0x40 2 2 0xFFFF  -- WIN0H, WIN1H
display_row Win0v = written_alone 0x44 2 2 0xFFFF  -- WIN0V, WIN1V
display_row Winin = read_write 0x48 2 1 0x3F3F  -- WININ
display_row Winout = read_write 0x4A 2 1 0x3F3F  -- WINOUT
display_row Mosaic = written_alone 0x4C 2 1 0xFFFF  -- MOSAIC
display_row Bldcnt = read_write 0x50 2 1 0x3FFF  -- BLDCNT
display_row Bldalpha = read_write 0x52 2 1 0x1F1F  -- BLDALPHA
display_row Bldy = written_alone 0x54 2 1 0x1F  -- BLDY
display_row Dispcapcnt = read_write 0x64 4 1 0xFFFFFFFF  -- DISPCAPCNT
display_row MasterBright = read_write 0x6C 2 1 0xC01F  -- MASTER_BRIGHT

-- ---- an engine's, of which display capture is A's alone

abbrev pub control_registers : List DisplayRegister
control_registers = Dispcnt ∷ []

abbrev pub background_registers : List DisplayRegister
background_registers = Bg0cnt ∷ Bg0hofs ∷ Bg2pa ∷ Bg2x ∷ Bg3pa ∷ Bg3x ∷ []

abbrev pub window_registers : List DisplayRegister
window_registers = Win0h ∷ Win0v ∷ Winin ∷ Winout ∷ Mosaic ∷ []

abbrev pub effect_registers : List DisplayRegister
effect_registers = Bldcnt ∷ Bldalpha ∷ Bldy ∷ []

abbrev pub drawing_registers : List DisplayRegister
drawing_registers = background_registers ++ window_registers ++ effect_registers

abbrev pub output_registers : Engine → List DisplayRegister
output_registers A = Dispcapcnt ∷ MasterBright ∷ []
output_registers B = MasterBright ∷ []

abbrev pub engine_registers : Engine → List DisplayRegister
engine_registers which = control_registers ++ drawing_registers ++ output_registers which

-- where its registers begin, from 4000000h, and how many bytes from there on are its own
abbrev pub engine_base : Engine → ℕ
engine_base A = 0
engine_base B = 0x1000

abbrev pub engine_bytes : ℕ
engine_bytes = 0x70

-- ---- what a row tells

abbrev pub display_offset : DisplayRegister → ℕ
display_offset register = (display_row register).first

-- a register of the row has the byte at an offset
abbrev pub has_byte : DisplayRow → ℕ → Bool
has_byte row at = is_within row.first (row.count * row.bytes) at

-- the first row of which that holds
abbrev pub row_among : List DisplayRegister → ℕ → Option DisplayRow
row_among [] at = None
row_among (register ∷ registers) at = if has_byte (display_row register) at then Some (display_row register) else row_among registers at

abbrev pub engine_row_at : Engine → ℕ → Option DisplayRow
engine_row_at which at = row_among (engine_registers which) at

-- what holds of a row with a byte at an offset: its registers have two bytes or four
pub record HasByteAt (row : DisplayRow) (at : ℕ) : Type 0 where
  pub from : row.first ≤ at
  pub some : 2 ≤ row.bytes
  pub few : row.bytes ≤ 4
  pub even : row.bytes % 2 ≡ 0

-- the bits that the byte at an offset keeps
abbrev pub kept_at : DisplayRow → ℕ → ℕ
kept_at row at = row.kept / 2 ^ (8 * ((at - row.first) % row.bytes)) % 256

-- the byte there, if it is read
abbrev pub read_of : Option DisplayRow → ℕ → ℕ
read_of row byte = unwrap_or (option_map (λ (r : DisplayRow). if r.reads then byte else 0) row) 0
