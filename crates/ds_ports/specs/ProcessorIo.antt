use Rattle.std.specs.Prelude.{ℕ, ◌+◌, ◌-◌, ◌/◌, ◌%◌, ◌^◌, ◌==◌, ◌&&◌, ◌||◌, not, if◌then◌else◌, Bool, true, false, List, bit_and}
use Rattle.ds_base.specs.Bits.{bit, bits}
use Rattle.ds_base.specs.Interrupts.{interrupt_bit}
use Rattle.ds_base.specs.declared.interrupts.Interrupt.TheVariants.{Keys}
use Rattle.ds_base.specs.declared.processors.Proc.{Proc}
use Rattle.ds_base.specs.declared.ticks.Tick.{Tick}
use Rattle.ds_dma.specs.States.{DmaState, any_runs, channel_written, dma_at_boot, dma_finished, dma_triggered, finished_bits}
use Rattle.ds_dma.specs.declared.controls.Cause.{Cause}
use Rattle.ds_dma.specs.declared.controls.DmaPort.{DmaPort}
use Rattle.ds_timers.specs.Irqs.{IrqState, interrupts_of, irq_acked, irq_at_boot, irq_raised}
use Rattle.ds_timers.specs.declared.timers.Timer.{Timer}
use Rattle.ds_timers.specs.Timing.{control_set, reload_set, timers_at_boot}

-- What each processor has of its own behind the ports: its interrupt words, its timers, KEYCNT, whether it is halted, and its DMA channels.

pub record ProcessorIoState : Type 0 where
  pub irq : IrqState
  pub timers : List Timer
  pub keycnt : ℕ
  pub halted : Bool
  pub dma : DmaState

-- all is 0 at boot (our choice)
abbrev pub processor_io_at_boot : Proc → ProcessorIoState
processor_io_at_boot proc = record { irq = irq_at_boot; timers = timers_at_boot; keycnt = 0; halted = false; dma = dma_at_boot proc }

-- bits of IF are raised
abbrev pub processor_io_raised : ProcessorIoState → ℕ → ProcessorIoState
processor_io_raised processor_io raised = record processor_io { irq = irq_raised processor_io.irq raised }

-- ---- interrupts (GBATEK, "DS Interrupts")

-- IME keeps bit 0, IE the bits of the interrupts that the processor has, and a 1 that is written to IF clears its bit
abbrev pub ime_written : ProcessorIoState → ℕ → ProcessorIoState
ime_written processor_io word = record processor_io { irq = record processor_io.irq { ime = bit 0 word } }

abbrev pub ie_written : Proc → ProcessorIoState → ℕ → ProcessorIoState
ie_written proc processor_io word = record processor_io { irq = record processor_io.irq { ie = bit_and word (interrupts_of proc) } }

abbrev pub if_written : ProcessorIoState → ℕ → ProcessorIoState
if_written processor_io word = record processor_io { irq = irq_acked processor_io.irq word }

-- ---- timers (GBATEK, "DS Timers"): TMxCNT_L is written as the reload, and TMxCNT_H is the control

abbrev pub reload_written : ProcessorIoState → ℕ → ℕ → ProcessorIoState
reload_written processor_io which value = record processor_io { timers = reload_set processor_io.timers which value }

abbrev pub control_written : ProcessorIoState → ℕ → ℕ → Tick → ProcessorIoState
control_written processor_io which value now = record processor_io { timers = control_set processor_io.timers which value now }

-- ---- keys (GBATEK, "DS Keypad"); `pressed` has a bit for each key that is pressed, A to L and then X and Y

-- a 0 tells that a key is pressed
abbrev pub keyinput_word : ℕ → ℕ
keyinput_word pressed = 2 ^ 10 - 1 - pressed % 2 ^ 10

-- X and Y in bits 0 and 1; bits 2 to 6 read 1 (our choice, where GBATEK has the pen and the hinge)
abbrev pub extkeyin_word : ℕ → ℕ
extkeyin_word pressed = 0x7C + (3 - pressed / 2 ^ 10)

-- what KEYCNT keeps: a bit for each key in 0 to 9, the enable in 14, all instead of any in 15
abbrev pub kept_keycnt : ℕ → ℕ
kept_keycnt value = bit_and value 0xC3FF

-- KEYCNT's condition holds: it is enabled, and all of its keys, or any of them, are pressed
abbrev pub keys_hold : ℕ → ℕ → Bool
keys_hold keycnt pressed =
    let chosen = bits 0 10 keycnt in
    let both = bit_and chosen pressed in
    bit 14 keycnt && (if bit 15 keycnt then both == chosen else not (both == 0))

-- its interrupt is raised where its condition holds, at each change of the keys and at each write of it
abbrev pub keys_told : ProcessorIoState → ℕ → ProcessorIoState
keys_told processor_io pressed = if keys_hold processor_io.keycnt pressed then processor_io_raised processor_io (interrupt_bit Keys) else processor_io

abbrev pub keycnt_written : ProcessorIoState → ℕ → ℕ → ProcessorIoState
keycnt_written processor_io pressed value = keys_told (record processor_io { keycnt = kept_keycnt value }) pressed

-- ---- the halt of ARM7 (GBATEK, "DS Power Control", HALTCNT): mode 2 in bits 6 and 7 halts

abbrev pub haltcnt_written : ProcessorIoState → ℕ → ProcessorIoState
haltcnt_written processor_io value = if bits 6 2 value == 2 then record processor_io { halted = true } else processor_io

-- ---- DMA (GBATEK, "DS DMA Transfers")

-- a channel's DMAxSAD, DMAxDAD or DMAxCNT is written
abbrev pub dma_written : ProcessorIoState → Tick → DmaPort → ℕ → ℕ → ProcessorIoState
dma_written processor_io now port which word = record processor_io { dma = channel_written processor_io.dma which port word now }

-- an event triggers the channels that wait for it
abbrev pub processor_io_triggered : ProcessorIoState → Cause → Tick → ProcessorIoState
processor_io_triggered processor_io cause now = record processor_io { dma = dma_triggered processor_io.dma cause now }

-- the channel that is due moves its first unit at a tick, with so many ticks of waits, and raises its interrupt at its end
abbrev pub processor_io_moved : ProcessorIoState → Tick → ℕ → ProcessorIoState
processor_io_moved processor_io now waits =
    processor_io_raised (record processor_io { dma = dma_finished processor_io.dma now waits }) (finished_bits processor_io.dma)

-- what that changes, as it was before: the channels and the interrupt words
pub record BeforeMove : Type 0 where
  pub dma : DmaState
  pub irq : IrqState

abbrev pub before_move : ProcessorIoState → BeforeMove
before_move processor_io = record { dma = processor_io.dma; irq = processor_io.irq }

-- these are put back
abbrev pub processor_io_put_back : BeforeMove → ProcessorIoState → ProcessorIoState
processor_io_put_back before processor_io = record processor_io { dma = before.dma; irq = before.irq }

-- the processor isn't due: it is halted, or a channel of it runs (our choice, by GBATEK, "DS DMA Transfers")
abbrev pub blocks_processor : ProcessorIoState → Bool
blocks_processor processor_io = processor_io.halted || any_runs processor_io.dma.channels
