use Rattle.std.specs.Prelude.{◌==◌, Bool, false, ◌&&◌, not, if◌then◌else◌, Option, Some, None}
use Rattle.ds_base.specs.Accesses.{MemoryMachine}
use Rattle.ds_base.specs.declared.processors.Arch.TheVariants.{V5}
use Rattle.arm_core.specs.Registers.{RegisterState}
use Rattle.arm_core.specs.Effects.{Outcome, carried_out}
use Rattle.arm_core.specs.Exceptions.{interrupt_meaning}
use Rattle.arm_core.specs.Steps.{Setting, FetchOutcome, enters, executed_word, fetched}
use Rattle.arm_core.specs.declared.outcomes.Stepped.{Stepped}
use Rattle.cp15_tcm.specs.Registers.{Cp15State, vectors_of}
use Rattle.cp15_tcm.specs.TightlyCoupled.{in_itcm}
use Rattle.arm9_exec.specs.Coprocessors.{MoveOutcome, move_of, moved_if, waits}
use Rattle.arm9_exec.specs.declared.coprocessors.Moved.{Moved}

-- ARM9 (GBATEK, "NDS Overview"; an ARM946E-S): ARMv5TE, whose vectors stand where CP15 says. That of SWI lies in the boot ROM where they
-- are high and ITCM doesn't answer the vector's fetch
abbrev pub arm9 : Cp15State → Setting
arm9 cp = record { arch = V5; base = vectors_of cp; in_rom = vectors_of cp == 0xFFFF0000 && not (in_itcm cp 0xFFFF0008 false) }

-- what a step comes to: the registers, those of CP15, the memory machine's state, and the cost or the stop
pub record Outcome9 (S : Type 0) : Type 0 where
  pub registers : RegisterState
  pub cp : Cp15State
  pub state : S
  pub stepped : Stepped

-- CP15 stays
abbrev pub beside : {S : Type 0} → Cp15State → Outcome S → Outcome9 S
beside cp o = record { registers = o.registers; cp = cp; state = o.state; stepped = o.stepped }

-- a move makes no access of data
abbrev pub before : {S : Type 0} → S → MoveOutcome → Outcome9 S
before state o = record { registers = o.registers; cp = o.cp; state = state; stepped = o.stepped }

abbrev pub executed_or_moved : {S : Type 0} → MemoryMachine S → RegisterState → Cp15State → FetchOutcome S → Option Moved → Outcome9 S
executed_or_moved memory s cp f None = beside cp (executed_word memory (arm9 cp) s f.state f.number f.instr)
executed_or_moved memory s cp f (Some m) = before f.state (moved_if s cp m)

-- its step on a memory machine: the interrupt's entry, a move to or from CP15, or another instruction
abbrev pub step9_of : {S : Type 0} → MemoryMachine S → Bool → RegisterState → Cp15State → S → Outcome9 S
step9_of memory line s cp state =
    if enters line s then beside cp (carried_out memory V5 s state (interrupt_meaning (vectors_of cp) s))
    else let f = fetched memory V5 s state in executed_or_moved memory s cp f (move_of f.instr)

-- it writes the wait for an interrupt
abbrev pub step_waits : {S : Type 0} → MemoryMachine S → Bool → RegisterState → S → Bool
step_waits memory line s state = not (enters line s) && waits s (move_of (fetched memory V5 s state).instr)
