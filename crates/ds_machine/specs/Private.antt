use Rattle.std.specs.Prelude.{ℕ, ◌≡◌, ◌<◌, ◌==◌, ◌&&◌, ◌||◌, not, Bool, true, false, Contains, List, [], ◌∷◌, Option, Some, None}
use Rattle.ds_base.specs.Accesses.{Access, Fetch, MemoryMachine, Read, Write}
use Rattle.ds_base.specs.Bits.{bit, bits}
use Rattle.ds_base.specs.declared.processors.Arch.{Arch}
use Rattle.ds_base.specs.declared.processors.Proc.{Proc}
use Rattle.ds_base.specs.declared.processors.Proc.TheVariants.{Nine, Seven}
use Rattle.ds_base.specs.declared.ticks.Tick.{Tick}
use Rattle.arm_words.specs.declared.instructions.Instr.{Instr}
use Rattle.arm_words.specs.declared.instructions.Instr.TheVariants.{Bkpt, Coprocessor, Swi, ThumbBkpt, ThumbSwi}
use Rattle.arm_core.specs.Footprints.{access_bytes}
use Rattle.arm_core.specs.Registers.{RegisterState}
use Rattle.arm_core.specs.Steps.{fetched}
use Rattle.arm_core.specs.Undefined.{is_undefined}
use Rattle.ds_map.specs.Views.{nine_memory, seven_memory}
use Rattle.ds_ports.specs.Io.{io_of}
use Rattle.ds_runs.specs.Actors.{actor_of}
use Rattle.ds_runs.specs.Runs.{due_at}
use Rattle.ds_timers.specs.Irqs.{IrqState}
use Rattle.ds_machine.specs.Acting.{acting_dues}
use Rattle.ds_machine.specs.Hearing.{Fences}
use Rattle.ds_machine.specs.Sides.{data_accesses, next_fetch}
use Rattle.ds_machine.specs.PrivateSides.{SideOf, nine_side, seven_side}
use Rattle.ds_machine.specs.States.{MachineState}
use Rattle.ds_machine.specs.Steps.{is_blocked, line_of, nine_reach, processor_of, seven_reach, tick_of}

-- Which steps a processor may take before its turn: those that reach what it alone reaches, while it hears of nobody. Our choice; a console's turn
-- rests on it.

-- ---- over what a processor reaches

-- each byte of an access lies in its private places, as an access of that kind reaches it
abbrev pub ReachesPrivate : {S : Type 0} → SideOf S → S → Access → Type 0
ReachesPrivate side state (Fetch at width) = (byte : ℕ) → Contains (access_bytes (Fetch at width)) byte → side.is_private state false true byte ≡ true
ReachesPrivate side state (Read at width) = (byte : ℕ) → Contains (access_bytes (Read at width)) byte → side.is_private state false false byte ≡ true
ReachesPrivate side state (Write at width value) =
    (byte : ℕ) → Contains (access_bytes (Write at width value)) byte → side.is_private state true false byte ≡ true

abbrev pub AllReachPrivate : {S : Type 0} → SideOf S → S → List Access → Type 0
AllReachPrivate side state [] = Unit {0}
AllReachPrivate side state (access ∷ rest) = ReachesPrivate side state access × AllReachPrivate side state rest

-- what enters an exception or changes CP15, whatever its condition: SWI, BKPT and MCR
abbrev pub stays_behind : Instr → Bool
stays_behind (Swi cond immed) = true
stays_behind (ThumbSwi immed) = true
stays_behind (Bkpt immed) = true
stays_behind (ThumbBkpt immed) = true
stays_behind (Coprocessor cond load op1 crn rd cp op2 crm) = not load
stays_behind _ = false

-- an instruction of another kind, which isn't undefined
abbrev pub may_go_ahead : Arch → Option Instr → Bool
may_go_ahead arch None = false
may_go_ahead arch (Some instr) = not (is_undefined arch (Some instr)) && not (stays_behind instr)

-- a step that enters no interrupt reaches private places alone: its fetch, and each access of its instruction, which is of such a kind
pub record StaysPrivate {S : Type 0} (memory : MemoryMachine S) (side : SideOf S) (s : RegisterState) (state : S) : Type 0 where
  pub fetch : ReachesPrivate side state (next_fetch s)
  pub kind : may_go_ahead side.step.arch (fetched memory side.step.arch s state).instr ≡ true
  pub accesses : AllReachPrivate side state (data_accesses side.step.arch (side.step.base state) s (fetched memory side.step.arch s state).instr)

-- ---- in the machine

abbrev pub ProcessorStaysPrivate : MachineState → Proc → Type 0
ProcessorStaysPrivate s Nine = StaysPrivate nine_memory nine_side s.nine.processor.registers (nine_reach (tick_of s.nine.processor) s)
ProcessorStaysPrivate s Seven = StaysPrivate seven_memory seven_side s.seven.processor.registers (seven_reach (tick_of s.seven.processor) s)

-- nothing that another actor raises reaches a processor: its I flag is set, or its IME is 0, or its IE has none of the interrupts that the other
-- processor raises, bits 16 to 18 (GBATEK, "DS Interrupts": IPC sync, send FIFO empty, receive FIFO not empty)
abbrev pub hears_nobody : RegisterState → IrqState → Bool
hears_nobody s irq = bit 7 s.cpsr || (not irq.ime || bits 16 3 irq.ie == 0)

abbrev pub is_deaf : MachineState → Proc → Bool
is_deaf s proc = hears_nobody (processor_of s proc).registers (io_of s.io proc).irq

-- a processor's next step may be taken before its turn, but for when it is due: it is due, its interrupt line is down, it is deaf, and it stays in
-- private places
pub record IsPrivate (s : MachineState) (proc : Proc) : Type 0 where
  pub free : is_blocked s proc ≡ false
  pub down : line_of s proc ≡ false
  pub deaf : is_deaf s proc ≡ true
  pub own : ProcessorStaysPrivate s proc

-- a tick is below it
abbrev pub IsBelowFence : MachineState → Proc → Tick → Type 0
IsBelowFence s proc tick = (rank : ℕ) (at : Tick) → due_at (acting_dues s) rank ≡ Some at → Fences (actor_of rank) proc s → tick.0 < at.0

-- a processor's next step may be taken before its turn
pub record IsAhead (s : MachineState) (proc : Proc) : Type 0 where
  pub private : IsPrivate s proc
  pub below : IsBelowFence s proc (tick_of (processor_of s proc))

-- a processor's rank
abbrev pub rank_of : Proc → ℕ
rank_of Nine = 22
rank_of Seven = 23
