use Rattle.std.specs.Prelude.{ℕ, ◌+◌, ◌-◌, ◌%◌, ◌^◌, ◌==◌, ◌&&◌, ◌||◌, min, not, if◌then◌else◌, Bool, false, bit_and, Option, Some, None, option_map, unwrap_or}
use Rattle.ds_base.specs.Bits.{bit, bits}
use Rattle.ds_base.specs.declared.interrupts.Interrupt.{Interrupt}
use Rattle.ds_base.specs.declared.interrupts.Interrupt.TheVariants.{Dma0, Dma1, Dma2, Dma3}
use Rattle.ds_base.specs.declared.left_out.Stop.{Stop}
use Rattle.ds_base.specs.declared.left_out.LeftKind.TheVariants.{DmaStart}
use Rattle.ds_base.specs.declared.memories.Width.{Width}
use Rattle.ds_base.specs.declared.memories.Width.TheVariants.{Half, Word}
use Rattle.ds_base.specs.declared.processors.Proc.{Proc}
use Rattle.ds_base.specs.declared.processors.Proc.TheVariants.{Nine, Seven}
use Rattle.ds_dma.specs.declared.controls.Cause.{Cause}
use Rattle.ds_dma.specs.declared.controls.Cause.TheVariants.{VBlank, HBlank, Card, Geometry}

-- A control word, by its fields (GBATEK, "DS DMA Transfers", DMAxCNT; "GBA DMA Transfers", DMAxCNT_H, of which these are the upper 16 bits).

-- a source or a target has 28 bits (GBATEK, "GBA DMA Transfers", DMAxSAD and DMAxDAD; that every channel of both processors keeps all 28 is
-- our choice, by "DS DMA Transfers")
abbrev pub kept_address : ℕ → ℕ
kept_address value = value % 2 ^ 28

-- the greatest count: 21 bits on ARM9; 14 on ARM7, and 16 on its channel 3 (GBATEK, "DS DMA Transfers" and "GBA DMA Transfers")
abbrev pub greatest_count : Proc → ℕ → ℕ
greatest_count Nine which = 0x1FFFFF
greatest_count Seven which = if which == 3 then 0xFFFF else 0x3FFF

-- what a control keeps: all of it on ARM9; its count and bits 21 to 26 and 28 to 31 on ARM7 (GBATEK, "DS DMA Transfers")
abbrev pub channel_control_mask : Proc → ℕ → ℕ
channel_control_mask Nine which = 0xFFFFFFFF
channel_control_mask Seven which = if which == 3 then 0xF7E0FFFF else 0xF7E03FFF

abbrev pub kept_channel_control : Proc → ℕ → ℕ → ℕ
kept_channel_control proc which value = bit_and value (channel_control_mask proc which)

-- how many units a channel moves: its count, where 0 stands for the greatest count and one more (GBATEK, "GBA DMA Transfers", DMAxCNT_L)
abbrev pub units_counted : Proc → ℕ → ℕ → ℕ
units_counted proc which control =
    let count = control % (greatest_count proc which + 1) in
    if count == 0 then greatest_count proc which + 1 else count

-- it is enabled (bit 31), raises an interrupt at its end (30), repeats (25)
abbrev pub is_enabled : ℕ → Bool
is_enabled control = bit 31 control

abbrev pub interrupts : ℕ → Bool
interrupts control = bit 30 control

abbrev pub repeats : ℕ → Bool
repeats control = bit 25 control

-- the control of a channel that isn't enabled any more
abbrev pub disabled : ℕ → ℕ
disabled control = control % 2 ^ 31

-- a unit is a word or a half (bit 26), and has so many bytes
abbrev pub unit_width : ℕ → Width
unit_width control = if bit 26 control then Word else Half

abbrev pub unit_bytes : ℕ → ℕ
unit_bytes control = if bit 26 control then 4 else 2

-- how a target and a source move (bits 21 and 22, and 23 and 24)
abbrev pub target_mode : ℕ → ℕ
target_mode control = bits 21 2 control

abbrev pub source_mode : ℕ → ℕ
source_mode control = bits 23 2 control

-- the target is latched again where a channel repeats: mode 3
abbrev pub latches_again : ℕ → Bool
latches_again control = target_mode control == 3

-- from one unit to the next an address goes up by a unit's bytes in mode 0, down in mode 1, stays in mode 2 and goes up in mode 3; as a number
-- modulo 2 ^ 32, in which down is up by 2 ^ 32 less these bytes. (That a source goes up in mode 3, which GBATEK forbids, is our choice.)
abbrev pub address_step : ℕ → ℕ → ℕ
address_step mode size = if mode == 1 then 2 ^ 32 - size else (if mode == 2 then 0 else size)

-- when it starts: bits 27 to 29 on ARM9, 28 and 29 on ARM7 (GBATEK, "DS DMA Transfers": 0 is at once)
abbrev pub start_mode : Proc → ℕ → ℕ
start_mode Nine control = bits 27 3 control
start_mode Seven control = bits 28 2 control

abbrev pub starts_immediately : Proc → ℕ → Bool
starts_immediately proc control = start_mode proc control == 0

-- the start mode that an event triggers (GBATEK, "DS DMA Transfers": on ARM9 1 is V-blank, 2 H-blank, 5 the card, 7 the geometry FIFO; on ARM7 1 is
-- V-blank and 2 the card)
abbrev pub start_of_cause : Proc → Cause → Option ℕ
start_of_cause Nine VBlank = Some 1
start_of_cause Nine HBlank = Some 2
start_of_cause Nine Card = Some 5
start_of_cause Nine Geometry = Some 7
start_of_cause Seven VBlank = Some 1
start_of_cause Seven Card = Some 2
start_of_cause Seven cause = None

-- a control waits for an event that triggers its start mode
abbrev pub waits_for : Proc → Cause → ℕ → Bool
waits_for proc cause control = unwrap_or (option_map (λ start. start == start_mode proc control) (start_of_cause proc cause)) false

-- At its end a channel is armed again where it repeats, and starts neither at once nor by the geometry FIFO, which ignores the repeat bit (our
-- choice, by GBATEK, "GBA DMA Transfers", DMAxCNT_H bit 9).
abbrev pub is_armed_again : Proc → ℕ → Bool
is_armed_again proc control = repeats control && not (starts_immediately proc control) && not (waits_for proc Geometry control)

-- How many units a channel that is triggered with so many left moves in one burst: where the geometry FIFO triggers it 112, or what is left where
-- that is less (GBATEK, "DS 3D Geometry Commands", its limit of 112 words to DMA). Any other event has no bursts, which is 0: the channel runs to its
-- end.
abbrev pub most_burst : ℕ
most_burst = 112

abbrev pub burst_of : Cause → ℕ → ℕ
burst_of Geometry left = min most_burst left
burst_of cause left = 0

-- the starts that are left out: 3 (start of display), 4 (main memory display) and 6 (GBA slot) on ARM9; 3 (wireless or GBA slot) on ARM7 (our
-- choice; the names are GBATEK's, "DS DMA Transfers")
abbrev pub is_left_out : Proc → ℕ → Bool
is_left_out Nine control = (start_mode Nine control == 3) || (start_mode Nine control == 4) || (start_mode Nine control == 6)
is_left_out Seven control = start_mode Seven control == 3

-- Why a control isn't taken, from the one that was kept and the one that would be, which is the stop's value: enable goes from 0 to 1 with a start
-- that is left out (our choice).
abbrev pub refusal : Proc → ℕ → ℕ → Option Stop
refusal proc old control =
    if is_enabled control && not (is_enabled old) && is_left_out proc control then Some (record { kind = DmaStart; value = control }) else None

-- each channel's interrupt (GBATEK, "DS Interrupts")
abbrev pub channel_interrupt : ℕ → Interrupt
channel_interrupt which = if which == 0 then Dma0 else (if which == 1 then Dma1 else (if which == 2 then Dma2 else Dma3))
