use Rattle.std.specs.Prelude.{ℕ, ◌≡◌, ◌+◌, ◌*◌, ◌/◌, ◌^◌, Option, None}
use Rattle.std.specs.Option.{option_or}
use Rattle.ds_base.specs.declared.memories.Width.{Width}
use Rattle.ds_base.specs.declared.memories.Width.TheVariants.{Byte, Half, Word}
use Rattle.ds_base.specs.declared.processors.Proc.{Proc}
use Rattle.ds_base.specs.declared.left_out.Stop.{Stop}
use Rattle.ds_base.specs.declared.ticks.Tick.{Tick}
use Rattle.ds_ports.specs.RegisterMap.{slot_of}
use Rattle.ds_ports.specs.Io.{IoState}
use Rattle.ds_ports.specs.Ports.{port_refusal, port_value, port_written, read_or, refusal_or, whole_in, written_or}

-- A law of accesses: at a multiple of its width, one that lies in no one register is one of its lower half and then one of its upper half.

-- ---- reads

abbrev pub port_byte : Proc → Tick → IoState → ℕ → ℕ
port_byte proc now u at = read_or proc now u Byte (slot_of proc at) 0

abbrev pub port_half : Proc → Tick → IoState → ℕ → ℕ
port_half proc now u at = read_or proc now u Half (whole_in Half (slot_of proc at)) (port_byte proc now u at + 2 ^ 8 * port_byte proc now u (at + 1))

abbrev pub port_word : Proc → Tick → IoState → ℕ → ℕ
port_word proc now u at = read_or proc now u Word (whole_in Word (slot_of proc at)) (port_half proc now u at + 2 ^ 16 * port_half proc now u (at + 2))

abbrev pub halved_value : Proc → Tick → IoState → ℕ → Width → ℕ
halved_value proc now u at Byte = port_byte proc now u at
halved_value proc now u at Half = port_half proc now u at
halved_value proc now u at Word = port_word proc now u at

-- ---- writes

abbrev pub byte_written : Proc → Tick → IoState → ℕ → ℕ → IoState
byte_written proc now u at value = written_or proc now u Byte (slot_of proc at) value u

abbrev pub half_written : Proc → Tick → IoState → ℕ → ℕ → IoState
half_written proc now u at value =
    written_or proc now u Half (whole_in Half (slot_of proc at)) value
    (byte_written proc now (byte_written proc now u at value) (at + 1) (value / 2 ^ 8))

abbrev pub word_written : Proc → Tick → IoState → ℕ → ℕ → IoState
word_written proc now u at value =
    written_or proc now u Word (whole_in Word (slot_of proc at)) value
    (half_written proc now (half_written proc now u at value) (at + 2) (value / 2 ^ 16))

abbrev pub halved_written : Proc → Tick → IoState → ℕ → Width → ℕ → IoState
halved_written proc now u at Byte value = byte_written proc now u at value
halved_written proc now u at Half value = half_written proc now u at value
halved_written proc now u at Word value = word_written proc now u at value

-- ---- refusals

abbrev pub byte_refusal : Proc → IoState → ℕ → ℕ → Option Stop
byte_refusal proc u at value = refusal_or proc u Byte (slot_of proc at) value None

abbrev pub half_refusal : Proc → IoState → ℕ → ℕ → Option Stop
half_refusal proc u at value =
    refusal_or proc u Half (whole_in Half (slot_of proc at)) value
    (option_or (byte_refusal proc u at value) (byte_refusal proc u (at + 1) (value / 2 ^ 8)))

abbrev pub word_refusal : Proc → IoState → ℕ → ℕ → Option Stop
word_refusal proc u at value =
    refusal_or proc u Word (whole_in Word (slot_of proc at)) value
    (option_or (half_refusal proc u at value) (half_refusal proc u (at + 2) (value / 2 ^ 16)))

abbrev pub halved_refusal : Proc → IoState → ℕ → Width → ℕ → Option Stop
halved_refusal proc u at Byte value = byte_refusal proc u at value
halved_refusal proc u at Half value = half_refusal proc u at value
halved_refusal proc u at Word value = word_refusal proc u at value

-- ---- the law

pub record GoesByHalves (proc : Proc) (now : Tick) (u : IoState) (at : ℕ) (width : Width) (value : ℕ) : Type 0 where
  pub reads : port_value proc now u at width ≡ halved_value proc now u at width
  pub writes : port_written proc now u at width value ≡ halved_written proc now u at width value
  pub refuses : port_refusal proc u at width value ≡ halved_refusal proc u at width value
