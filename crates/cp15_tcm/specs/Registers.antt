use Rattle.std.specs.Prelude.{ℕ, ◌≡◌, ◌==◌, ◌&&◌, bit_and, bit_or, Bool, if◌then◌else◌, List, [], ◌∷◌}
use Rattle.ds_base.specs.Bits.{bit}
use Rattle.ds_base.specs.declared.left_out.LeftKind.TheVariants.{BigEndian}
use Rattle.cp15_tcm.specs.declared.answers.Mcr.{Mcr}
use Rattle.cp15_tcm.specs.declared.answers.Mcr.TheVariants.{Kept, Halt, Left}

-- CP15's registers (ARM946E-S manual, "Programmer's model"; GBATEK, "ARM CP15 System Control Coprocessor").

-- the numbers that it keeps: the control register as it reads, and the region registers of both tightly coupled memories
pub record Cp15State : Type 0 where
  pub control : ℕ
  pub dtcm : ℕ
  pub itcm : ℕ

-- at boot (our choice): ITCM is on at 0 with 32 MiB of mirrors, DTCM is on at 3000000h with 16 KiB, and vectors are high
abbrev pub cp15_at_boot : Cp15State
cp15_at_boot = record { control = 0x00052078; dtcm = 0x0300000A; itcm = 0x00000020 }

-- a register: one that always reads the same, the three that are kept, the wait for an interrupt, and all others, which ignore
-- writes and read as 0
pub data Cp15Register : Type 0 where
  Constant : (value : ℕ) → Cp15Register
  Control : Cp15Register
  DtcmRegion : Cp15Register
  ItcmRegion : Cp15Register
  WaitForInterrupt : Cp15Register
  Other : Cp15Register

-- a row of the table: a register by crn, crm and op2; op1 is 0 in all of them
pub record CodeRow : Type 0 where
  pub crn : ℕ
  pub crm : ℕ
  pub op2 : ℕ
  pub register : Cp15Register

abbrev pub at_codes : ℕ → ℕ → ℕ → Cp15Register → CodeRow
at_codes crn crm op2 register = record { crn = crn; crm = crm; op2 = op2; register = register }

-- the table: main ID, cache type, size of the tightly coupled memories, control, wait for an interrupt, both regions
abbrev pub registers : List CodeRow
registers =
    at_codes 0 0 0 (Constant 0x41059461)
    ∷ at_codes 0 0 1 (Constant 0x0F0D2112)
    ∷ at_codes 0 0 2 (Constant 0x00140180)
    ∷ at_codes 1 0 0 Control
    ∷ at_codes 7 0 4 WaitForInterrupt
    ∷ at_codes 9 1 0 DtcmRegion
    ∷ at_codes 9 1 1 ItcmRegion
    ∷ []

-- the register of the codes of an MCR or MRC
abbrev pub register_by : List CodeRow → ℕ → ℕ → ℕ → Cp15Register
register_by [] crn crm op2 = Other
register_by (r ∷ rs) crn crm op2 = if r.crn == crn && r.crm == crm && r.op2 == op2 then r.register else register_by rs crn crm op2

abbrev pub register_of : ℕ → ℕ → ℕ → ℕ → Cp15Register
register_of op1 crn crm op2 = if op1 == 0 then register_by registers crn crm op2 else Other

-- what a register reads
abbrev pub register_read : Cp15State → Cp15Register → ℕ
register_read s (Constant value) = value
register_read s Control = s.control
register_read s DtcmRegion = s.dtcm
register_read s ItcmRegion = s.itcm
register_read s WaitForInterrupt = 0
register_read s Other = 0

-- the bits that each kept register keeps. Control: 0 protection unit, 2 and 12 caches, 13 high vectors, 14 and 15 cache replacement
-- and loads of r15, 16 DTCM, 17 its load mode, 18 ITCM, 19 its load mode; bits 3 to 6 always read as 1
abbrev pub control_mask : ℕ
control_mask = 0x000F7005

abbrev pub control_ones : ℕ
control_ones = 0x00000078

abbrev pub dtcm_mask : ℕ
dtcm_mask = 0xFFFFF03E

abbrev pub itcm_mask : ℕ
itcm_mask = 0x0000003E

-- what holds of them at every time: they have the bits that are kept alone, and the control register the ones that it always has
pub record IsCp15 (s : Cp15State) : Type 0 where
  pub control : bit_or (bit_and s.control control_mask) control_ones ≡ s.control
  pub dtcm : bit_and s.dtcm dtcm_mask ≡ s.dtcm
  pub itcm : bit_and s.itcm itcm_mask ≡ s.itcm

-- a write that asks for big-endian mode, bit 7 of the control register, is refused
abbrev pub asks_big_endian : Cp15Register → ℕ → Bool
asks_big_endian Control value = bit 7 value
asks_big_endian register value = 0 == 1

-- what a write leaves
abbrev pub register_written : Cp15State → Cp15Register → ℕ → Cp15State
register_written s Control value = record s { control = bit_or (bit_and value control_mask) control_ones }
register_written s DtcmRegion value = record s { dtcm = bit_and value dtcm_mask }
register_written s ItcmRegion value = record s { itcm = bit_and value itcm_mask }
register_written s register value = s

-- what a write answers
abbrev pub write_answer : Cp15Register → ℕ → Mcr
write_answer WaitForInterrupt value = Halt
write_answer register value = if asks_big_endian register value then Left (record { kind = BigEndian; value = value }) else Kept

-- a write: it answers so, and a refused one leaves all as it was
pub record Writes (register : Cp15Register) (value : ℕ) (old : Cp15State) (answer : Mcr) (new : Cp15State) : Type 0 where
  pub answered : answer ≡ write_answer register value
  pub left : new ≡ (if asks_big_endian register value then old else register_written old register value)

-- the base of the exception vectors (ARM manual, A2.6 "Exceptions", high vectors)
abbrev pub vectors_of : Cp15State → ℕ
vectors_of s = if bit 13 s.control then 0xFFFF0000 else 0
