use Rattle.std.specs.Prelude.{◌≡◌, ◌/◌, ◌==◌, ◌||◌, ◌&&◌, not, ℕ, Bool, true, false, Option, Some, None}
use Rattle.std.specs.List.{list_all}
use Rattle.ds_base.specs.Accesses.{MemoryMachine}
use Rattle.ds_base.specs.Bits.{bits}
use Rattle.ds_base.specs.Processors.{architecture_of}
use Rattle.ds_base.specs.declared.processors.Arch.TheVariants.{V4, V5}
use Rattle.ds_base.specs.declared.processors.Proc.{Proc}
use Rattle.ds_base.specs.declared.processors.Proc.TheVariants.{Nine, Seven}
use Rattle.arm_words.specs.declared.instructions.Instr.{Instr}
use Rattle.arm_core.specs.FootprintLaws.{AreAsTold, AreOfData, Covers, touched_bytes}
use Rattle.arm_core.specs.Meanings.{meaning}
use Rattle.arm_core.specs.Registers.{RegisterState}
use Rattle.arm_core.specs.Steps.{fetched}
use Rattle.arm_core.specs.declared.touches.Reach.{Reach}
use Rattle.arm_core.specs.declared.touches.Touch.{Touch}
use Rattle.arm_ops.specs.Meanings.{AreNear}
use Rattle.arm_ops.specs.Operations.{loads}
use Rattle.arm_ops.specs.declared.operations.DataAccess.{DataAccess}
use Rattle.ds_base.specs.declared.ticks.Tick.{Tick}
use Rattle.ds_map.specs.Views.{nine_memory, seven_memory}
use Rattle.ds_timers.specs.Irqs.{IrqState}
use Rattle.ds_machine.specs.Private.{AllReachPrivate, IsBelowFence, ReachesPrivate, is_deaf, may_go_ahead}
use Rattle.ds_machine.specs.Sides.{data_accesses, next_fetch}
use Rattle.ds_machine.specs.SteadyPorts.{is_steady_port}
use Rattle.ds_machine.specs.PrivateSides.{SideOf, is_private_to_seven, nine_side, seven_side}
use Rattle.ds_machine.specs.States.{MachineState}
use Rattle.ds_machine.specs.Steps.{line_of, nine_reach, processor_of, seven_reach, tick_of}

-- What the code says of private places. Public clauses speak of the instruction at r15 and of footprints alone.

-- the byte at an address lies in a processor's private places, as a write, a fetch, or else a read reaches it
abbrev pub is_private_to : MachineState → Proc → (writing fetching : Bool) → ℕ → Bool
is_private_to s Nine writing fetching at = nine_side.is_private (nine_reach (tick_of s.nine.processor) s) writing fetching at
is_private_to s Seven writing fetching at = is_private_to_seven at

-- the instruction that is fetched at r15, if it is one
abbrev pub instr_at : MachineState → Proc → Option Instr
instr_at s Nine = (fetched nine_memory V5 s.nine.processor.registers (nine_reach (tick_of s.nine.processor) s)).instr
instr_at s Seven = (fetched seven_memory V4 s.seven.processor.registers (seven_reach (tick_of s.seven.processor) s)).instr

-- what is told of the accesses of an instruction of a processor's is so: exactly those bytes are reached, and so
pub record IsFootprint (s : MachineState) (proc : Proc) (instr : Instr) (reach : Reach) : Type 0 where
  pub covers : (base : ℕ) → Covers reach.touch (meaning (architecture_of proc) base (processor_of s proc).registers instr).accesses
  pub told : (base : ℕ) → AreAsTold reach.reads reach.writes (meaning (architecture_of proc) base (processor_of s proc).registers instr).accesses
  pub words : (base : ℕ) → AreOfData (meaning (architecture_of proc) base (processor_of s proc).registers instr).accesses

-- all of a touch's bytes lie in private places, as reads or as writes reach them, where there are any
abbrev pub all_private : MachineState → Proc → (writing fetching : Bool) → Touch → Bool
all_private s proc writing fetching touch = list_all (is_private_to s proc writing fetching) (touched_bytes touch)

abbrev pub data_private : MachineState → Proc → Reach → Bool
data_private s proc reach =
    (not reach.reads || all_private s proc false false reach.touch) && (not reach.writes || all_private s proc true false reach.touch)

-- what is fetched at r15 lies in private places; and an instruction is of a kind that may be taken before its turn, and its accesses of data stay
-- there
abbrev pub FetchStaysPrivate : MachineState → Proc → Type 0
FetchStaysPrivate s Nine = ReachesPrivate nine_side (nine_reach (tick_of s.nine.processor) s) (next_fetch s.nine.processor.registers)
FetchStaysPrivate s Seven = ReachesPrivate seven_side (seven_reach (tick_of s.seven.processor) s) (next_fetch s.seven.processor.registers)

abbrev pub InstrReaches : {S : Type 0} → SideOf S → S → RegisterState → Instr → Type 0
InstrReaches side state s instr =
    (may_go_ahead side.step.arch (Some instr) ≡ true)
    × AllReachPrivate side state (data_accesses side.step.arch (side.step.base state) s (Some instr))

abbrev pub InstrStaysPrivate : MachineState → Proc → Instr → Type 0
InstrStaysPrivate s Nine instr = InstrReaches nine_side (nine_reach (tick_of s.nine.processor) s) s.nine.processor.registers instr
InstrStaysPrivate s Seven instr = InstrReaches seven_side (seven_reach (tick_of s.seven.processor) s) s.seven.processor.registers instr

-- a processor's IME is 0, or its IE has none of the interrupts that the other processor raises
abbrev pub is_told_nothing : IrqState → Bool
is_told_nothing irq = not irq.ime || bits 16 3 irq.ie == 0

-- ---- by decoded operations

-- the four bytes of a word that is aligned are private together
pub record GoesByWords {S : Type 0} (side : SideOf S) : Type 0 where
  pub same : (state : S) (writing fetching : Bool) (a b : ℕ) → a / 4 ≡ b / 4 → side.is_private state writing fetching a
      ≡ side.is_private state writing fetching b

-- it is to a private place, if there is one
abbrev pub access_stays : {S : Type 0} → SideOf S → S → Option DataAccess → Bool
access_stays side state None = true
access_stays side state (Some access) = side.is_private state (not (loads access.op)) false access.to.address

-- what is fetched is of a kind that may be taken before its turn, and its accesses of data stay in private places
pub record DataStays {S : Type 0} (memory : MemoryMachine S) (side : SideOf S) (s : RegisterState) (state : S) : Type 0 where
  pub kind : may_go_ahead side.step.arch (fetched memory side.step.arch s state).instr ≡ true
  pub accesses : AllReachPrivate side state (data_accesses side.step.arch (side.step.base state) s (fetched memory side.step.arch s state).instr)

abbrev pub DataStaysPrivate : Tick → MachineState → Proc → Type 0
DataStaysPrivate now s Nine = DataStays nine_memory nine_side s.nine.processor.registers (nine_reach now s)
DataStaysPrivate now s Seven = DataStays seven_memory seven_side s.seven.processor.registers (seven_reach now s)

-- each access of data of what is fetched is one of RAM, or a load from a port that changes no unit and isn't observed
abbrev pub DataIsNear : {S : Type 0} → MemoryMachine S → SideOf S → RegisterState → S → Type 0
DataIsNear memory side s state =
    AreNear is_steady_port (data_accesses side.step.arch (side.step.base state) s (fetched memory side.step.arch s state).instr)

abbrev pub DataStaysNear : Tick → MachineState → Proc → Type 0
DataStaysNear now s Nine = DataIsNear nine_memory nine_side s.nine.processor.registers (nine_reach now s)
DataStaysNear now s Seven = DataIsNear seven_memory seven_side s.seven.processor.registers (seven_reach now s)

-- a processor's step at a tick may be taken before its turn, but for what it does
pub record MayBeAhead (tick : Tick) (s : MachineState) (proc : Proc) : Type 0 where
  pub fetch : FetchStaysPrivate s proc
  pub down : line_of s proc ≡ false
  pub deaf : is_deaf s proc ≡ true
  pub below : IsBelowFence s proc tick
