use Rattle.std.specs.Prelude.{ℕ, ◌^◌}
use Rattle.ds_base.specs.declared.interrupts.Interrupt.{Interrupt}
use Rattle.ds_base.specs.declared.interrupts.Interrupt.TheVariants.{VBlank, HBlank, VCount, Timer0, Timer1, Timer2, Timer3, Dma0, Dma1, Dma2, Dma3, Keys, IpcSync, SendFifoEmpty, ReceiveFifoNotEmpty, CardTransfer, GeometryFifo}

-- the bit of each interrupt in IE and IF (GBATEK, "DS Interrupts", 4000210h and 4000214h)
abbrev pub interrupt_number : Interrupt → ℕ
interrupt_number VBlank = 0
interrupt_number HBlank = 1
interrupt_number VCount = 2
interrupt_number Timer0 = 3
interrupt_number Timer1 = 4
interrupt_number Timer2 = 5
interrupt_number Timer3 = 6
interrupt_number Dma0 = 8
interrupt_number Dma1 = 9
interrupt_number Dma2 = 10
interrupt_number Dma3 = 11
interrupt_number Keys = 12
interrupt_number IpcSync = 16
interrupt_number SendFifoEmpty = 17
interrupt_number ReceiveFifoNotEmpty = 18
interrupt_number CardTransfer = 19
interrupt_number GeometryFifo = 21

-- the word that has this bit alone
abbrev pub interrupt_bit : Interrupt → ℕ
interrupt_bit interrupt = 2 ^ interrupt_number interrupt
