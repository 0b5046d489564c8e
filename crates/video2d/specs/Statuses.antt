use Rattle.std.specs.Prelude.{ℕ, ◌+◌, ◌*◌, ◌/◌, ◌%◌, ◌==◌, ◌&&◌, Bool, true, false, if◌then◌else◌, bit_and}
use Rattle.ds_base.specs.Bits.{bit, bits, flag}
use Rattle.ds_base.specs.Interrupts.{interrupt_bit}
use Rattle.ds_base.specs.declared.interrupts.Interrupt.{Interrupt}
use Rattle.ds_base.specs.declared.interrupts.Interrupt.TheVariants.{VBlank, HBlank, VCount}
use Rattle.video2d.specs.DisplayRegisters.{display_row}
use Rattle.video2d.specs.declared.display_registers.DisplayRegister.TheVariants.{Dispstat}

-- DISPSTAT, of which each processor has its own (GBATEK, "LCD I/O Interrupts and Status"): the flags of V-blank, H-blank and V-count in bits 0
-- to 2, their enables in bits 3 to 5, and the V-count setting, whose bit 8 is bit 7 and whose bits 7 to 0 are bits 15 to 8.

-- one processor's: the enables in bits 3 to 5 and the V-count setting, as they are kept, and the three flags, which events set and clear
pub record StatusState : Type 0 where
  pub kept : ℕ
  pub vblank : Bool
  pub hblank : Bool
  pub vcount : Bool

-- a byte of a half, the low one being byte 0, and the half with that byte written
abbrev pub half_byte : ℕ → ℕ → ℕ
half_byte byte half = if byte == 0 then half % 256 else half / 256

abbrev pub with_half_byte : ℕ → ℕ → ℕ → ℕ
with_half_byte byte half value = if byte == 0 then half / 256 * 256 + value else half % 256 + 256 * value

abbrev pub status_at_boot : StatusState
status_at_boot = record { kept = 0; vblank = false; hblank = false; vcount = false }

-- enables and setting are kept; a write leaves the flags
abbrev pub status_written : StatusState → ℕ → ℕ → StatusState
status_written s byte value = record s { kept = bit_and (with_half_byte byte s.kept value) (display_row Dispstat).kept }

-- nine bits: bit 8 stands apart
abbrev pub vcount_setting : StatusState → ℕ
vcount_setting s = bits 8 8 s.kept + 256 * bits 7 1 s.kept

-- as it is read
abbrev pub status_word : StatusState → ℕ
status_word s = flag 0 s.vblank + flag 1 s.hblank + flag 2 s.vcount + 8 * bits 3 13 s.kept

-- a line's H-blank sets the flag of H-blank
abbrev pub status_blanked : StatusState → StatusState
status_blanked s = record s { hblank = true }

-- A line starts: the flag of V-blank is set at line 192 and cleared at line 262, that of H-blank is cleared, and that of V-count tells whether it is
-- the line of the setting, which changes at no other time (our choice).
abbrev pub status_started : ℕ → StatusState → StatusState
status_started line s = record s {
  vblank = if line == 192 then true else (if line == 262 then false else s.vblank);
  hblank = false;
  vcount = line == vcount_setting s;
}

-- what events raise, where their enables are set: H-blank at each line, V-blank at line 192, V-count at the line of the setting
abbrev pub raised_where : Bool → Interrupt → ℕ
raised_where asked interrupt = if asked then interrupt_bit interrupt else 0

abbrev pub raised_at_hblank : StatusState → ℕ
raised_at_hblank s = raised_where (bit 4 s.kept) HBlank

abbrev pub raised_at_start : ℕ → StatusState → ℕ
raised_at_start line s = raised_where ((line == 192) && bit 3 s.kept) VBlank + raised_where ((line == vcount_setting s) && bit 5 s.kept) VCount
