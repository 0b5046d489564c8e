use Rattle.std.specs.Prelude.{ℕ, ◌≡◌, ◌||◌, if◌then◌else◌, Option, Some, None}
use Rattle.ds_base.specs.declared.memories.Width.{Width}
use Rattle.ds_base.specs.declared.processors.Proc.{Proc}
use Rattle.ds_base.specs.declared.processors.Proc.TheVariants.{Nine, Seven}
use Rattle.ds_base.specs.declared.ticks.Tick.{Tick}
use Rattle.arm_core.specs.Steps.{enters}
use Rattle.arm_core.specs.declared.touches.Reach.{Reach}
use Rattle.arm_words.specs.declared.instructions.Instr.{Instr}
use Rattle.ds_map.specs.Looks.{nine_looked, seven_looked}
use Rattle.ds_machine.specs.States.{MachineState}
use Rattle.ds_machine.specs.Steps.{is_blocked, line_of, nine_reach, processor_of, seven_reach}
use Rattle.ds_machine.specs.Touching.{IsFootprint, instr_at}

-- What somebody sees of a machine who looks on from outside.

-- the value that a processor's read at a tick would give at an address, where anything answers
abbrev pub looked_of : MachineState → Proc → Tick → ℕ → Width → Option ℕ
looked_of s Nine now at width = nine_looked (nine_reach now s) at width
looked_of s Seven now at width = seven_looked (seven_reach now s) at width

-- the address of a processor's next instruction, and its CPSR
abbrev pub pc_of : MachineState → Proc → ℕ
pc_of s proc = (processor_of s proc).registers.pc

abbrev pub cpsr_of : MachineState → Proc → ℕ
cpsr_of s proc = (processor_of s proc).registers.cpsr

-- the instruction that a processor's next step executes: none where it isn't due, enters an interrupt, or fetches none
abbrev pub executed_next : MachineState → Proc → Option Instr
executed_next s proc = if is_blocked s proc || enters (line_of s proc) (processor_of s proc).registers then None else instr_at s proc

-- what is told of the data that a processor's next step reaches is so: where it executes an instruction, exactly those bytes, and whether they are
-- read and written
abbrev pub IsReached : MachineState → Proc → Option Reach → Type 0
IsReached s proc None = executed_next s proc ≡ None
IsReached s proc (Some reach) = (instr : Instr) × (executed_next s proc ≡ Some instr) × IsFootprint s proc instr reach
