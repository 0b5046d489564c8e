use Rattle.std.specs.Prelude.{ℕ, ◌<◌, ◌^◌, ◌==◌, ◌&&◌, not, if◌then◌else◌, Bool, false, bit_and, bit_or}
use Rattle.std.specs.Int.{bit_not, w32}
use Rattle.ds_base.specs.Interrupts.{interrupt_bit}
use Rattle.ds_base.specs.declared.interrupts.Interrupt.TheVariants.{GeometryFifo}
use Rattle.ds_base.specs.declared.processors.Proc.{Proc}
use Rattle.ds_base.specs.declared.processors.Proc.TheVariants.{Nine, Seven}

-- a processor's interrupt words (GBATEK, "DS Interrupts"): IME bit 0, IE and IF
pub record IrqState : Type 0 where
  pub ime : Bool
  pub ie : ℕ
  pub if_ : ℕ

-- what holds of them at every time: IE and IF have 32 bits
pub record IsIrq (s : IrqState) : Type 0 where
  pub ie : s.ie < 2 ^ 32
  pub if_ : s.if_ < 2 ^ 32

-- the interrupts that each processor has, whose bits IE keeps (GBATEK, "DS Interrupts")
abbrev pub interrupts_of : Proc → ℕ
interrupts_of Nine = 0x2F1F7F
interrupts_of Seven = 0x0F1F7F

-- all is 0 at boot (our choice)
abbrev pub irq_at_boot : IrqState
irq_at_boot = record { ime = false; ie = 0; if_ = 0 }

-- IE and IF share a bit. A halted processor wakes by this, whatever IME is (our choice)
abbrev pub shares_bit : IrqState → Bool
shares_bit s = not (bit_and s.ie s.if_ == 0)

-- the line to the processor is up (GBATEK, "DS Interrupts": IME, IE and IF)
abbrev pub line_is_up : IrqState → Bool
line_is_up s = s.ime && shares_bit s

-- the bit of the geometry FIFO's interrupt, which tells its condition as it is and no event (our choice, by GBATEK, "DS 3D Status", GXSTAT
-- bits 30 and 31)
abbrev pub level : ℕ
level = interrupt_bit GeometryFifo

-- all bits but that one
abbrev pub events : ℕ → ℕ
events word = bit_and word (bit_not w32 level)

-- events set their bits of IF
abbrev pub irq_raised : IrqState → ℕ → IrqState
irq_raised s bits = record s { if_ = bit_or s.if_ (events bits) }

-- a 1 written to a bit of IF clears it (GBATEK, "DS Interrupts", IF); that it leaves the level as it is is our choice
abbrev pub irq_acked : IrqState → ℕ → IrqState
irq_acked s bits = record s { if_ = bit_and s.if_ (bit_not w32 (events bits)) }

-- the level's bit of IF is as it is told, and no other bit changes (our choice)
abbrev pub irq_levelled : IrqState → Bool → IrqState
irq_levelled s on = record s { if_ = if on then bit_or s.if_ level else events s.if_ }
