use Rattle.std.specs.Prelude.{ℕ, zero, suc, ◌+◌, ◌-◌, ◌%◌, ◌^◌, ◌==◌, nat_lt, Bool, if◌then◌else◌, List, [], ◌∷◌, ◌++◌, slice_index, slice_index_or, slice_set, Option, Some, None}
use Rattle.ds_base.specs.Bits.{bit, bits}
use Rattle.arm_core.specs.declared.banks.Bank.{Bank}
use Rattle.arm_core.specs.declared.banks.Bank.TheVariants.{System, Fiq, Supervisor, Abort, Irq, Undefined}

-- The registers of a processor (ARM manual, A2.2 "Processor modes", A2.3 "Registers", A2.4 "General-purpose registers", A2.5 "Program
-- status registers").

-- the 37 registers
pub record RegisterState : Type 0 where
  -- r0 to r12; r8 to r12 of FIQ; r13 and r14 of System, FIQ, Supervisor, Abort, IRQ, Undefined
  pub general : List ℕ
  -- r15, the program counter: the address of the instruction that is executed next
  pub pc : ℕ
  pub cpsr : ℕ
  -- SPSR of FIQ, Supervisor, Abort, IRQ, Undefined
  pub saved : List ℕ

-- all of them, in this order
abbrev pub words_of : RegisterState → List ℕ
words_of s = s.general ++ s.pc ∷ s.cpsr ∷ s.saved

-- the bank of a mode, by bits 4 to 0 of CPSR. 10h and 1Fh are User and System; a mode that there isn't has their registers (our choice)
abbrev pub bank_of : ℕ → Bank
bank_of mode =
    if mode == 0x11 then Fiq
    else if mode == 0x12 then Irq
    else if mode == 0x13 then Supervisor
    else if mode == 0x17 then Abort
    else if mode == 0x1B then Undefined
    else System

-- the bank that a processor sees
abbrev pub bank : RegisterState → Bank
bank s = bank_of (bits 0 5 s.cpsr)

-- where r8 to r14 stand among the general registers, in each bank (figure "Register organization")
abbrev pub places : Bank → List ℕ
places System = 8 ∷ 9 ∷ 10 ∷ 11 ∷ 12 ∷ 18 ∷ 19 ∷ []
places Fiq = 13 ∷ 14 ∷ 15 ∷ 16 ∷ 17 ∷ 20 ∷ 21 ∷ []
places Supervisor = 8 ∷ 9 ∷ 10 ∷ 11 ∷ 12 ∷ 22 ∷ 23 ∷ []
places Abort = 8 ∷ 9 ∷ 10 ∷ 11 ∷ 12 ∷ 24 ∷ 25 ∷ []
places Irq = 8 ∷ 9 ∷ 10 ∷ 11 ∷ 12 ∷ 26 ∷ 27 ∷ []
places Undefined = 8 ∷ 9 ∷ 10 ∷ 11 ∷ 12 ∷ 28 ∷ 29 ∷ []

-- where a register below r15 stands
abbrev pub place : Bank → ℕ → ℕ
place b r = if nat_lt r 8 then r else slice_index_or (places b) (r - 8) 0

-- which of the SPSRs a bank has
abbrev pub saved_place : Bank → Option ℕ
saved_place System = None
saved_place Fiq = Some 0
saved_place Supervisor = Some 1
saved_place Abort = Some 2
saved_place Irq = Some 3
saved_place Undefined = Some 4

-- T: the processor is in Thumb state
abbrev pub is_thumb : RegisterState → Bool
is_thumb s = bit 5 s.cpsr

-- r15 goes on to the next instruction
abbrev pub next : RegisterState → RegisterState
next s = record s { pc = (s.pc + (if is_thumb s then 2 else 4)) % 2 ^ 32 }

-- what r15 reads as: the instruction's address + 8, or + 4 in Thumb state (A2.4.3 "Register 15 and the program counter")
abbrev pub r15 : RegisterState → ℕ
r15 s = (s.pc + (if is_thumb s then 4 else 8)) % 2 ^ 32

-- what it reads as where it is stored, and where a register shifts: in ARM state the address + 12 (our choice)
abbrev pub late_r15 : RegisterState → ℕ
late_r15 s = (s.pc + (if is_thumb s then 4 else 12)) % 2 ^ 32

-- a register of a bank, by what r15 reads as
abbrev pub register_in : Bank → ℕ → RegisterState → ℕ → ℕ
register_in b as_r15 s r = if r == 15 then as_r15 else slice_index s.general (place b r)

-- a register as an instruction reads it
abbrev pub register : RegisterState → ℕ → ℕ
register s r = register_in (bank s) (r15 s) s r

-- a register as it is stored, or read where a register shifts
abbrev pub late_register : RegisterState → ℕ → ℕ
late_register s r = register_in (bank s) (late_r15 s) s r

-- r15 is written: bits 1 and 0 are cleared, in Thumb state bit 0 (our choice)
abbrev pub jumped : ℕ → RegisterState → RegisterState
jumped target s = record s { pc = (if is_thumb s then target - target % 2 else target - target % 4) }

-- a register of a bank is written
abbrev pub put_in : Bank → ℕ → ℕ → RegisterState → RegisterState
put_in b r value s = if r == 15 then jumped value s else record s { general = slice_set s.general (place b r) value }

-- a register is written
abbrev pub put : ℕ → ℕ → RegisterState → RegisterState
put r value s = put_in (bank s) r value s

-- How the code keeps the general registers (our choice): the first n that a bank shows stand by their numbers in an array of their own; the
-- store has all others. These are the general registers.
unfoldable pub general_of : Bank → ℕ → List ℕ → List ℕ → List ℕ
general_of b zero present store = store
general_of b (suc n) present store = slice_set (general_of b n present store) (place b n) (slice_index present n)
