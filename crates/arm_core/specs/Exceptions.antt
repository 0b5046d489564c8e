use Rattle.std.specs.Prelude.{ℕ, ◌+◌, ◌%◌, ◌^◌, bit_and, List, slice_set, Option, Some, None}
use Rattle.arm_core.specs.declared.banks.Bank.{Bank}
use Rattle.arm_core.specs.declared.banks.Bank.TheVariants.{Supervisor, Abort, Irq, Undefined}
use Rattle.arm_core.specs.declared.exceptions.Exception.{Exception}
use Rattle.arm_core.specs.declared.exceptions.Exception.TheVariants.{UndefinedInstruction, SoftwareInterrupt, Breakpoint, Interrupt}
use Rattle.arm_core.specs.Registers.{RegisterState, place, saved_place, next}
use Rattle.arm_core.specs.Effects.{Meaning, without_access}
use Rattle.arm_core.specs.declared.classes.Class.TheVariants.{Entry}

-- Exceptions (ARM manual, A2.6 "Exceptions"). The vectors' base is 0, or FFFF0000h with high vectors.

-- table "Exception processing modes": the vector, the mode, and its bank
abbrev pub vector : Exception → ℕ
vector UndefinedInstruction = 0x04
vector SoftwareInterrupt = 0x08
vector Breakpoint = 0x0C
vector Interrupt = 0x18

abbrev pub entry_mode : Exception → ℕ
entry_mode UndefinedInstruction = 0x1B
entry_mode SoftwareInterrupt = 0x13
entry_mode Breakpoint = 0x17
entry_mode Interrupt = 0x12

abbrev pub entry_bank : Exception → Bank
entry_bank UndefinedInstruction = Undefined
entry_bank SoftwareInterrupt = Supervisor
entry_bank Breakpoint = Abort
entry_bank Interrupt = Irq

-- a status register in an exception's mode, in ARM state, with I set
abbrev pub entered_status : ℕ → ℕ → ℕ
entered_status cpsr mode = bit_and cpsr 0xFFFFFF40 + 0x80 + mode

abbrev pub kept_status : Option ℕ → RegisterState → List ℕ
kept_status None s = s.saved
kept_status (Some at) s = slice_set s.saved at s.cpsr

-- the entry: r14 and SPSR of the exception's mode keep the address to return to and CPSR
abbrev pub entered : ℕ → Exception → ℕ → RegisterState → RegisterState
entered base exception link s = record {
  general = slice_set s.general (place (entry_bank exception) 14) link;
  pc = (base + vector exception) % 2 ^ 32;
  cpsr = entered_status s.cpsr (entry_mode exception);
  saved = kept_status (saved_place (entry_bank exception)) s;
}

-- an undefined instruction, and SWI: r14 is the next instruction's address
abbrev pub undefined_meaning : ℕ → RegisterState → Meaning
undefined_meaning base s = without_access (entered base UndefinedInstruction (next s).pc s) Entry

abbrev pub software_meaning : ℕ → RegisterState → Meaning
software_meaning base s = without_access (entered base SoftwareInterrupt (next s).pc s) Entry

-- BKPT: r14 is its address + 4
abbrev pub breakpoint_meaning : ℕ → RegisterState → Meaning
breakpoint_meaning base s = without_access (entered base Breakpoint ((s.pc + 4) % 2 ^ 32) s) Entry

-- the interrupt line, before an instruction: r14 is that instruction's address + 4
abbrev pub interrupt_meaning : ℕ → RegisterState → Meaning
interrupt_meaning base s = without_access (entered base Interrupt ((s.pc + 4) % 2 ^ 32) s) Entry
