use Rattle.std.specs.Prelude.{ℕ, ◌+◌, ◌-◌, ◌*◌, ◌/◌, ◌%◌, ◌^◌, ◌==◌, ◌&&◌, if◌then◌else◌, Bool, List, length, slice_index_or, slice_set}
use Rattle.ds_base.specs.Bits.{bit, bits, flag}
use Rattle.ds_base.specs.Numbers.{is_within, number_at, put_by, width_bytes}
use Rattle.ds_base.specs.declared.memories.Width.{Width}
use Rattle.ds_base.specs.declared.memories.Width.TheVariants.{Word}

-- The card's ports, byte by byte, by their offsets above 4000000h (GBATEK, "DS Cartridge I/O Ports").

abbrev pub auxspicnt_at : ℕ
auxspicnt_at = 0x1A0

abbrev pub romctrl_at : ℕ
romctrl_at = 0x1A4

abbrev pub command_at : ℕ
command_at = 0x1A8

-- the port by which words are taken, whole words alone
abbrev pub data_port_at : ℕ
data_port_at = 0x100010

-- one byte of a port
abbrev pub with_byte : ℕ → ℕ → ℕ → List ℕ → List ℕ
with_byte base place byte port = if is_within base (length port) place then slice_set port (place - base) byte else port

-- the bytes of a port after an access wrote those of it that it covers
abbrev pub overwritten : ℕ → List ℕ → Width → ℕ → ℕ → List ℕ
overwritten base port width at value = put_by width (with_byte base) at value port

-- AUXSPICNT keeps bits 13 to 15: the serial port itself is left out, and the rest reads 0 (our choice)
abbrev pub kept_auxspicnt : List ℕ → List ℕ
kept_auxspicnt port = slice_set (slice_set port 0 0) 1 (slice_index_or port 1 0 / 32 * 32)

-- ROMCTRL keeps bits 0 to 22 and 24 to 30; bit 23 shows that a word is ready, and bit 31 that a transfer is busy (GBATEK, "ROMCTRL")
abbrev pub kept_romctrl : List ℕ → List ℕ
kept_romctrl port = slice_set (slice_set port 2 (slice_index_or port 2 0 % 128)) 3 (slice_index_or port 3 0 % 128)

abbrev pub shown_romctrl : List ℕ → Bool → Bool → List ℕ
shown_romctrl port ready busy =
    slice_set (slice_set port 2 (slice_index_or port 2 0 + flag 7 ready)) 3 (slice_index_or port 3 0 + flag 7 busy)

-- a write starts a transfer where it covers ROMCTRL's top byte and sets bit 31
abbrev pub starts_at : Width → ℕ → List ℕ → Bool
starts_at width at port = is_within at (width_bytes width) (romctrl_at + 3) && bit 31 (number_at Word port 0)

-- how many words a transfer has, by ROMCTRL bits 24 to 26: none for 0, 100h << n bytes for n from 1 to 6, and four bytes for 7
-- (GBATEK, "ROMCTRL")
abbrev pub words_of_size : ℕ → ℕ
words_of_size size = if size == 0 then 0 else if size == 7 then 1 else 64 * 2 ^ size

abbrev pub block_words : List ℕ → ℕ
block_words port = words_of_size (bits 24 3 (number_at Word port 0))
