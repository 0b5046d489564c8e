use Rattle.std.specs.Prelude.{ℕ, ◌%◌, ◌^◌, Bool, if◌then◌else◌, List}
use Rattle.ds_base.specs.declared.memories.Memory.{Memory}
use Rattle.ds_base.specs.declared.memories.Memory.TheVariants.{Main, Shared, Own7, Itcm, Dtcm, Palette, Vram, Oam}
use Rattle.ds_base.specs.declared.memories.Width.{Width}
use Rattle.ds_base.specs.declared.memories.Width.TheVariants as width
use Rattle.ds_base.specs.declared.processors.Proc.{Proc}
use Rattle.ds_base.specs.declared.processors.Proc.TheVariants.{Nine, Seven}
use Rattle.arm_core.specs.Registers.{is_thumb, words_of}
use Rattle.arm_core.specs.Steps.{enters}
use Rattle.ds_map.specs.Views.{nine_memory, seven_memory}
use Rattle.ds_machine.specs.declared.answers.Seen.{Seen}
use Rattle.ds_machine.specs.declared.answers.Seen.TheVariants.{Half, Idle, Irq, Word}
use Rattle.ds_machine.specs.States.{MachineState, ProcessorState}
use Rattle.ds_machine.specs.Steps.{is_blocked, line_of, nine_reach, processor_of, seven_reach, tick_of}

-- What is told of a machine.

-- a memory's bytes
abbrev pub memory_of : MachineState → Memory → List ℕ
memory_of s Main = s.main
memory_of s Shared = s.shared
memory_of s Own7 = s.seven.wram
memory_of s Itcm = s.nine.itcm
memory_of s Dtcm = s.nine.dtcm
memory_of s Palette = s.palette
memory_of s Vram = s.io.vram.bytes
memory_of s Oam = s.oam

-- a processor's 37 registers
abbrev pub registers_of : MachineState → Proc → List ℕ
registers_of s proc = words_of (processor_of s proc).registers

-- what a processor fetches at an address
abbrev pub fetch_of : MachineState → Proc → ℕ → Width → ℕ
fetch_of s Nine at width = nine_memory.fetch_value (nine_reach (tick_of s.nine.processor) s) at width
fetch_of s Seven at width = seven_memory.fetch_value (seven_reach (tick_of s.seven.processor) s) at width

-- what a processor does next: the entry of an interrupt at its r15, or a word or, in Thumb state, a half that it fetches; nothing where it isn't
-- due
abbrev pub seen_by : Bool → Bool → ProcessorState → (ℕ → Width → ℕ) → Seen
seen_by blocked line p fetch =
    if blocked then Idle
    else if enters line p.registers then Irq p.registers.pc
    else if is_thumb p.registers then Half p.registers.pc (fetch p.registers.pc width.Half % 2 ^ 16)
    else Word p.registers.pc (fetch p.registers.pc width.Word)

abbrev pub seen_of : MachineState → Proc → Seen
seen_of s proc = seen_by (is_blocked s proc) (line_of s proc) (processor_of s proc) (fetch_of s proc)
