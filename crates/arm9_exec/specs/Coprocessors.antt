use Rattle.std.specs.Prelude.{ℕ, ◌+◌, ◌*◌, ◌/◌, ◌%◌, ◌^◌, ◌==◌, Bool, true, false, ◌&&◌, not, if◌then◌else◌, [], Option, Some, None}
use Rattle.ds_base.specs.declared.processors.Arch.TheVariants.{V5}
use Rattle.arm_words.specs.declared.instructions.Instr.{Instr}
use Rattle.arm_words.specs.declared.instructions.Instr.TheVariants.{Coprocessor}
use Rattle.arm_core.specs.Costs.{clocks}
use Rattle.arm_core.specs.Conditions.{holds}
use Rattle.arm_core.specs.Effects.{cost_of}
use Rattle.arm_core.specs.Meanings.{skipped}
use Rattle.arm_core.specs.Registers.{RegisterState, register, next, put}
use Rattle.arm_core.specs.Undefined.{has_coprocessor}
use Rattle.arm_core.specs.declared.classes.Class.TheVariants as classes
use Rattle.arm_core.specs.declared.outcomes.Stepped.{Stepped}
use Rattle.arm_core.specs.declared.outcomes.Stepped.TheVariants.{Cost, Halted, Left}
use Rattle.cp15_tcm.specs.Registers.{Cp15State, Cp15Register, register_of, register_read, register_written, write_answer}
use Rattle.cp15_tcm.specs.Registers.Cp15Register.{WaitForInterrupt}
use Rattle.cp15_tcm.specs.declared.answers.Mcr.{Mcr}
use Rattle.cp15_tcm.specs.declared.answers.Mcr.TheVariants as mcr
use Rattle.arm9_exec.specs.declared.coprocessors.Moved.{Moved}

-- MRC and MCR of CP15 (ARM manual, A4.1 "MCR", "MRC"; ARM946E-S manual, "Programmer's model").

-- what a move between a register and one of CP15's comes to: the registers of both, and the cost or the stop
pub record MoveOutcome : Type 0 where
  pub registers : RegisterState
  pub cp : Cp15State
  pub stepped : Stepped

-- the move that an instruction makes to or from CP15, the coprocessor that there is, if it makes one
abbrev pub move_of : Option Instr → Option Moved
move_of (Some (Coprocessor cond load op1 crn rd cp op2 crm)) =
    if has_coprocessor V5 cp then Some (record { cond = cond; load = load; op1 = op1; crn = crn; rd = rd; op2 = op2; crm = crm }) else None
move_of _ = None

abbrev pub register_moved : Moved → Cp15Register
register_moved m = register_of m.op1 m.crn m.crm m.op2

-- what it costs
abbrev pub move_clocks : ℕ
move_clocks = clocks classes.Coprocessor V5

-- MRC: rd has the value; r15 stands for the flags, which its bits 31 to 28 give
abbrev pub read_into : ℕ → ℕ → RegisterState → RegisterState
read_into rd value s = if rd == 15 then record s { cpsr = s.cpsr % 2 ^ 28 + value / 2 ^ 28 * 2 ^ 28 } else put rd value s

abbrev pub read_by : RegisterState → Cp15State → ℕ → Cp15Register → MoveOutcome
read_by s cp rd r = record { registers = read_into rd (register_read cp r) (next s); cp = cp; stepped = Cost move_clocks }

-- MCR, by what CP15 answers: a halt is taken; what is left out leaves the registers of both as they were
abbrev pub written_by : RegisterState → Cp15State → Cp15Register → ℕ → Mcr → MoveOutcome
written_by s cp r value mcr.Kept = record { registers = next s; cp = register_written cp r value; stepped = Cost move_clocks }
written_by s cp r value mcr.Halt = record { registers = next s; cp = register_written cp r value; stepped = Halted move_clocks }
written_by s cp r value (mcr.Left stop) = record { registers = s; cp = cp; stepped = Left stop }

abbrev pub written : RegisterState → Cp15State → Cp15Register → ℕ → MoveOutcome
written s cp r value = written_by s cp r value (write_answer r value)

-- a move takes effect where its condition holds
abbrev pub carried_over : RegisterState → Cp15State → Moved → MoveOutcome
carried_over s cp m = if m.load then read_by s cp m.rd (register_moved m) else written s cp (register_moved m) (register s m.rd)

abbrev pub moved_if : RegisterState → Cp15State → Moved → MoveOutcome
moved_if s cp m =
    if holds m.cond s.cpsr then carried_over s cp m
    else record { registers = (skipped s).after []; cp = cp; stepped = Cost (cost_of V5 (skipped s)) }

-- it writes the wait for an interrupt (c7,c0,4)
abbrev pub is_wait : Cp15Register → Bool
is_wait WaitForInterrupt = true
is_wait _ = false

abbrev pub waits : RegisterState → Option Moved → Bool
waits s None = false
waits s (Some m) = holds m.cond s.cpsr && not m.load && is_wait (register_moved m)
