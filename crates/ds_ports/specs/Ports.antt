use Rattle.std.specs.Prelude.{ℕ, zero, suc, ◌+◌, ◌*◌, ◌/◌, ◌%◌, ◌^◌, ◌==◌, nat_le, ◌&&◌, not, if◌then◌else◌, Bool, Option, Some, None, is_some, option_and_then, option_map, unwrap_or}
use Rattle.ds_base.specs.Numbers.{width_bytes}
use Rattle.ds_base.specs.declared.memories.Width.{Width}
use Rattle.ds_base.specs.declared.memories.Width.TheVariants.{Byte, Half, Word}
use Rattle.ds_base.specs.declared.processors.Proc.{Proc}
use Rattle.ds_base.specs.declared.left_out.Stop.{Stop}
use Rattle.ds_base.specs.declared.ticks.Tick.{Tick}
use Rattle.ds_card.specs.Cards.{is_whole_word}
use Rattle.ds_ports.specs.RegisterMap.{slot_of}
use Rattle.ds_ports.specs.Registers.{after_write, meaning_of}
use Rattle.ds_ports.specs.Io.{IoState}
use Rattle.ds_ports.specs.declared.registers.Register.{Register}
use Rattle.ds_ports.specs.declared.registers.Slot.{Slot}
use Rattle.std.specs.Option.{option_or}

-- What an access of a port reads and leaves, at an offset that is a multiple of its width. One that lies in one register is an access of some
-- or all of its bytes. Any other goes through the registers that begin in it, each whole, in ascending address. (Our choice, where GBATEK is
-- open.)

-- so many bits of a number from a byte of it on
abbrev pub part : Width → ℕ → ℕ → ℕ
part width byte number = number / 2 ^ (8 * byte) % 2 ^ (8 * width_bytes width)

-- the width of a whole register
abbrev pub width_of : ℕ → Width
width_of bytes = if bytes == 1 then Byte else (if bytes == 2 then Half else Word)

-- a kept number, with some of its bytes from one on written
abbrev pub with_bytes_from : Width → ℕ → ℕ → ℕ → ℕ
with_bytes_from width byte kept value =
    kept % 2 ^ (8 * byte) + value % 2 ^ (8 * width_bytes width) * 2 ^ (8 * byte)
    + kept / 2 ^ (8 * (byte + width_bytes width)) * 2 ^ (8 * (byte + width_bytes width))

-- the register in which an access lies, if it lies in one
abbrev pub whole_if : Bool → Slot → Option Slot
whole_if whole slot = if whole then Some slot else None

abbrev pub whole_in : Width → Option Slot → Option Slot
whole_in width slot = option_and_then (λ (s : Slot). whole_if (nat_le (s.byte + width_bytes width) s.bytes) s) slot

-- an access that a register ignores: one that is narrower than a word, of a register that takes whole words
abbrev pub ignores : Width → Register → Bool
ignores width register = not (is_whole_word width) && (meaning_of register).takes_words

-- ---- reads

-- what some bytes of a register read, or the number that is read in its stead
abbrev pub slot_value : Proc → Tick → IoState → Width → Slot → ℕ
slot_value proc now u width slot =
    if ignores width slot.register then 0 else part width slot.byte ((meaning_of slot.register).value proc now u slot.number)

abbrev pub read_or : Proc → Tick → IoState → Width → Option Slot → ℕ → ℕ
read_or proc now u width slot other = unwrap_or (option_map (slot_value proc now u width) slot) other

-- what a register reads whole of which the first byte stands at a place; where none does, 0
abbrev pub begun_value : Proc → Tick → IoState → Option Slot → ℕ
begun_value proc now u None = 0
begun_value proc now u (Some slot) = if slot.byte == 0 then slot_value proc now u (width_of slot.bytes) slot else 0

-- those that begin in so many bytes from an offset on
abbrev pub values_from : Proc → Tick → IoState → ℕ → ℕ → ℕ
values_from proc now u at zero = 0
values_from proc now u at (suc n) = begun_value proc now u (slot_of proc at) + 2 ^ 8 * values_from proc now u (at + 1) n

-- what an access reads at a tick
unfoldable pub port_value : Proc → Tick → IoState → ℕ → Width → ℕ
port_value proc now u at width = read_or proc now u width (whole_in width (slot_of proc at)) (values_from proc now u at (width_bytes width))

-- what a read leaves: a register that a read changes is one that takes whole words
abbrev pub slot_read : Proc → Tick → IoState → Option Slot → IoState
slot_read proc now u slot = unwrap_or (option_map (λ (s : Slot). (meaning_of s.register).after_read proc now u) slot) u

unfoldable pub port_read : Proc → Tick → IoState → ℕ → Width → IoState
port_read proc now u at width = if is_whole_word width then slot_read proc now u (whole_in Word (slot_of proc at)) else u

-- ---- writes

-- the number that a write of some bytes of a register gives it
abbrev pub slot_joined : Proc → IoState → Width → Slot → ℕ → ℕ
slot_joined proc u width slot value = with_bytes_from width slot.byte ((meaning_of slot.register).kept proc u slot.number) value

-- what a write of some bytes of a register leaves, or the state that is left in its stead
abbrev pub slot_written : Proc → Tick → IoState → Width → Slot → ℕ → IoState
slot_written proc now u width slot value =
    if ignores width slot.register then u else after_write proc now u slot.register slot.number (slot_joined proc u width slot value)

abbrev pub written_or : Proc → Tick → IoState → Width → Option Slot → ℕ → IoState → IoState
written_or proc now u width slot value other = unwrap_or (option_map (λ (s : Slot). slot_written proc now u width s value) slot) other

-- what a write of a whole register leaves, where one begins
abbrev pub begun_written : Proc → Tick → IoState → Option Slot → ℕ → IoState
begun_written proc now u None value = u
begun_written proc now u (Some slot) value = if slot.byte == 0 then slot_written proc now u (width_of slot.bytes) slot value else u

abbrev pub ascending : Proc → Tick → IoState → ℕ → ℕ → ℕ → IoState
ascending proc now u at value zero = u
ascending proc now u at value (suc n) = ascending proc now (begun_written proc now u (slot_of proc at) value) (at + 1) (value / 2 ^ 8) n

-- what a write leaves that isn't refused
unfoldable pub port_written : Proc → Tick → IoState → ℕ → Width → ℕ → IoState
port_written proc now u at width value =
    written_or proc now u width (whole_in width (slot_of proc at)) value (ascending proc now u at value (width_bytes width))

-- ---- refusals: a write is refused whole where it would write a register that refuses it, and then none of its registers is written

abbrev pub slot_refusal : Proc → IoState → Width → Slot → ℕ → Option Stop
slot_refusal proc u width slot value =
    if ignores width slot.register then None else (meaning_of slot.register).refusal proc u slot.number (slot_joined proc u width slot value)

abbrev pub refusal_or : Proc → IoState → Width → Option Slot → ℕ → Option Stop → Option Stop
refusal_or proc u width slot value other = unwrap_or (option_map (λ (s : Slot). slot_refusal proc u width s value) slot) other

abbrev pub begun_refusal : Proc → IoState → Option Slot → ℕ → Option Stop
begun_refusal proc u None value = None
begun_refusal proc u (Some slot) value = if slot.byte == 0 then slot_refusal proc u (width_of slot.bytes) slot value else None

abbrev pub first_refusal : Proc → IoState → ℕ → ℕ → ℕ → Option Stop
first_refusal proc u at value zero = None
first_refusal proc u at value (suc n) = option_or (begun_refusal proc u (slot_of proc at) value) (first_refusal proc u (at + 1) (value / 2 ^ 8) n)

-- for the first of its registers that refuses what it is given
unfoldable pub port_refusal : Proc → IoState → ℕ → Width → ℕ → Option Stop
port_refusal proc u at width value =
    refusal_or proc u width (whole_in width (slot_of proc at)) value (first_refusal proc u at value (width_bytes width))

-- what a write leaves: where it is refused, all stays
abbrev pub unless_stopped : Option Stop → IoState → IoState → IoState
unless_stopped stop old new = if is_some stop then old else new
