use Rattle.std.specs.Prelude.{ℕ, ◌+◌, Bool, if◌then◌else◌, List, [], Option, Some, None}
use Rattle.ds_base.specs.Accesses.{Access, Fetch, MemoryMachine}
use Rattle.ds_base.specs.declared.memories.Width.TheVariants.{Half, Word}
use Rattle.ds_base.specs.declared.processors.Arch.{Arch}
use Rattle.ds_base.specs.declared.processors.Arch.TheVariants.{V4, V5}
use Rattle.arm_words.specs.declared.instructions.Instr.{Instr}
use Rattle.arm_core.specs.Effects.{Outcome, carried_out}
use Rattle.arm_core.specs.Exceptions.{interrupt_meaning}
use Rattle.arm_core.specs.Meanings.{meaning}
use Rattle.arm_core.specs.Registers.{RegisterState, is_thumb}
use Rattle.arm_core.specs.Steps.{enters, executed_word, fetched}
use Rattle.arm7_exec.specs.Arm7.{arm7}
use Rattle.arm9_exec.specs.Arm9.{arm9}
use Rattle.arm9_exec.specs.Coprocessors.{move_of, moved_if}
use Rattle.arm9_exec.specs.declared.coprocessors.Moved.{Moved}
use Rattle.cp15_tcm.specs.Registers.{vectors_of}
use Rattle.ds_map.specs.Views.{NineReach, SevenReach, nine_memory, seven_memory}
use Rattle.ds_map.specs.Waits.{nine_wait, seven_wait, waits_of}

-- A processor's step over what it reaches, said once for both, and what parts one from the other.

-- what parts one processor's step from the other's, over the states of what it reaches
pub record StepOf (S : Type 0) : Type 0 where
  pub arch : Arch
  -- where the exception vectors begin
  pub base : S → ℕ
  -- what a word or half comes to that was fetched: by the number of its condition and its instruction, if it has one
  pub executed : RegisterState → S → ℕ → Option Instr → Outcome S
  -- how long an access waits
  pub wait : S → Access → ℕ

-- The step, by the interrupt line: the interrupt's entry, or what is fetched at r15. A fetch leaves all as it is.
unfoldable pub taken : {S : Type 0} → MemoryMachine S → StepOf S → Bool → RegisterState → S → Outcome S
taken memory step line s state =
    if enters line s then carried_out memory step.arch s state (interrupt_meaning (step.base state) s)
    else let f = fetched memory step.arch s state in step.executed s state f.number f.instr

-- ---- how long it waits (our choice)

-- what is fetched at r15
abbrev pub next_fetch : RegisterState → Access
next_fetch s = Fetch s.pc (if is_thumb s then Half else Word)

-- the accesses of data that an instruction makes
abbrev pub data_accesses : Arch → ℕ → RegisterState → Option Instr → List Access
data_accesses arch base s None = []
data_accesses arch base s (Some instr) = (meaning arch base s instr).accesses

-- how long those wait of what is fetched
abbrev pub data_waits : {S : Type 0} → MemoryMachine S → StepOf S → RegisterState → S → ℕ
data_waits memory step s state =
    waits_of memory step.wait state (data_accesses step.arch (step.base state) s (fetched memory step.arch s state).instr)

-- The step waits for its fetch, and then for each of those accesses; an interrupt's entry fetches nothing, and doesn't wait
unfoldable pub waits_of_step : {S : Type 0} → MemoryMachine S → StepOf S → Bool → RegisterState → S → ℕ
waits_of_step memory step line s state = if enters line s then 0 else step.wait state (next_fetch s) + data_waits memory step s state

-- ---- the two processors

-- ARM9 makes moves to and from CP15, which stands in what it reaches; all else goes by its memories
abbrev pub nine_executed : RegisterState → NineReach → ℕ → Option Instr → Option Moved → Outcome NineReach
nine_executed s r number instr None = executed_word nine_memory (arm9 r.cp15) s r number instr
nine_executed s r number instr (Some move) =
    let o = moved_if s r.cp15 move in record { registers = o.registers; state = record r { cp15 = o.cp }; stepped = o.stepped }

abbrev pub nine_step : StepOf NineReach
nine_step = record {
  arch = V5;
  base = λ r. vectors_of r.cp15;
  executed = λ s r number instr. nine_executed s r number instr (move_of instr);
  wait = nine_wait;
}

abbrev pub seven_step : StepOf SevenReach
seven_step = record {
  arch = V4;
  base = λ r. 0;
  executed = λ s r number instr. executed_word seven_memory arm7 s r number instr;
  wait = seven_wait;
}
