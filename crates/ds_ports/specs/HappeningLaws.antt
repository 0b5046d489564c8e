use Rattle.std.specs.Prelude.{ℕ, ◌≡◌, ◌<◌, ◌≤◌, ◌+◌, true, bit_or}
use Rattle.ds_base.specs.Interrupts.{interrupt_bit}
use Rattle.ds_base.specs.Schedules.{IsLater, Reschedules}
use Rattle.ds_base.specs.declared.interrupts.Interrupt.TheVariants.{IpcSync, SendFifoEmpty, ReceiveFifoNotEmpty}
use Rattle.ds_base.specs.declared.processors.Proc.{Proc}
use Rattle.ds_base.specs.declared.processors.Proc.TheVariants.{Seven}
use Rattle.ds_base.specs.declared.ticks.Tick.{Tick}
use Rattle.ds_card.specs.Cards.{CardState, card_due_for}
use Rattle.ds_dma.specs.States.{AreReadyLater, IsDma}
use Rattle.ds_ipc.specs.Ipcs.{other_proc}
use Rattle.ds_runs.specs.Actors.{IsNumbered}
use Rattle.ds_runs.specs.declared.actors.Actor as actor
use Rattle.ds_timers.specs.Irqs.{IrqState}
use Rattle.ds_timers.specs.Timing.{AreTimers, timer_at, timer_due}
use Rattle.ds_ports.specs.Dues.{io_due}
use Rattle.ds_ports.specs.Io.{IoState, io_of}
use Rattle.ds_ports.specs.ProcessorIo.{ProcessorIoState}
use Rattle.gx_fifo.specs.Entries.{most_entries}
use Rattle.gx_fifo.specs.GxStates.{AreWaiting, is_stalled, waiting_entries}

-- What holds of the units at every time, and what happens at a tick makes of them and of when they are due.

-- what holds of a processor's own, and of the units, at every time
pub record IsProcessorIo (processor_io : ProcessorIoState) : Type 0 where
  pub timers : AreTimers processor_io.timers
  pub dma : IsDma processor_io.dma

pub record IsIo (u : IoState) : Type 0 where
  pub nine : IsProcessorIo u.nine
  pub seven : IsProcessorIo u.seven
  pub gx : AreWaiting u.gx

-- a processor's timers, and its channels that run, come later than a tick: so it is where the processor, or a channel of it, makes an access then
pub record HasOnlyLaterEvents (now : Tick) (processor_io : ProcessorIoState) : Type 0 where
  pub timers : (which : ℕ) → which < 4 → IsLater now (timer_due (timer_at processor_io.timers which))
  pub dma : AreReadyLater now processor_io.dma

-- nothing changed of a processor's own but its interrupt words
pub record IsUnchanged (old new : ProcessorIoState) : Type 0 where
  pub timers : new.timers ≡ old.timers
  pub keycnt : new.keycnt ≡ old.keycnt
  pub halted : new.halted ≡ old.halted
  pub dma : new.dma ≡ old.dma

-- the interrupts that one processor raises at the other, bits 16 to 18 of IF (GBATEK, "DS Interrupts": IPC sync, send FIFO empty, receive FIFO not
-- empty)
abbrev pub ipc_bits : ℕ
ipc_bits = interrupt_bit IpcSync + interrupt_bit SendFifoEmpty + interrupt_bit ReceiveFifoNotEmpty

-- two words are the same but for these bits where they are the same once these are set
abbrev pub bits_but_ipc : ℕ → ℕ
bits_but_ipc word = bit_or word ipc_bits

-- a processor is told by the other of nothing but these interrupts: IME and IE stay, and the other bits of IF
pub record IsTold (old new : IrqState) : Type 0 where
  pub ime : new.ime ≡ old.ime
  pub ie : new.ie ≡ old.ie
  pub if_ : bits_but_ipc new.if_ ≡ bits_but_ipc old.if_

-- what happens at a tick leaves each due tick as it was, or later
abbrev pub ReschedulesEach : Tick → IoState → IoState → Type 0
ReschedulesEach now old new = (a : actor.Actor) → IsNumbered a → Reschedules now (io_due a old) (io_due a new)

-- what accesses leave of geometry: no entry leaves, and those that wait are as they can be, where there is room for them; no stall ends, its current
-- run is as long as it was, and the lists of its last swap stay; ARM7's leave all of it
pub record LeavesGeometry (proc : Proc) (old new : IoState) : Type 0 where
  pub released : new.released ≡ old.released
  pub longer : waiting_entries old.gx ≤ waiting_entries new.gx
  pub waiting : waiting_entries new.gx ≤ most_entries → AreWaiting old.gx → AreWaiting new.gx
  pub run : new.gx.geometry.numbers.run ≡ old.gx.geometry.numbers.run
  pub last : new.gx.geometry.last ≡ old.gx.geometry.last
  pub stall : is_stalled old.gx ≡ true → is_stalled new.gx ≡ true
  pub of_seven : proc ≡ Seven → new.gx ≡ old.gx

-- and of the card: the transfer that the other processor started, if one is busy, is due as it was, and none of that processor's begins
abbrev pub LeavesTransfer : Proc → CardState → CardState → Type 0
LeavesTransfer proc old new = card_due_for (other_proc proc) new ≡ card_due_for (other_proc proc) old

-- what accesses of a processor, or of a channel of it, at a tick make of the units: each due tick is as it was or later, and the other processor is
-- told of the IPC interrupts and of nothing else; the display is where it was, and so is its last whole frame
pub record Goes (proc : Proc) (now : Tick) (old new : IoState) : Type 0 where
  pub is : IsProcessorIo (io_of new proc)
  pub quiet : HasOnlyLaterEvents now (io_of new proc)
  pub each : ReschedulesEach now old new
  pub other : IsUnchanged (io_of old (other_proc proc)) (io_of new (other_proc proc))
  pub told : IsTold (io_of old (other_proc proc)).irq (io_of new (other_proc proc)).irq
  pub scan : new.video.scan ≡ old.video.scan
  pub whole : new.video.whole ≡ old.video.whole
  pub geometry : LeavesGeometry proc old new
  pub card : LeavesTransfer proc old.card new.card
