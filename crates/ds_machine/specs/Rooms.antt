use Rattle.std.specs.Prelude.{ℕ, ◌-◌, ◌≡◌, ◌≤◌, Bool, false, if◌then◌else◌, List, [], ◌∷◌, length, Option, Some, None}
use Rattle.ds_base.specs.Accesses.{Access, Fetch, MemoryMachine, Performed, Read, Write, perform}
use Rattle.ds_base.specs.declared.processors.Arch.{Arch}
use Rattle.ds_base.specs.declared.processors.Proc.TheVariants.{Nine, Seven}
use Rattle.ds_base.specs.declared.ticks.Tick.{Tick}
use Rattle.arm_words.specs.declared.instructions.Instr.{Instr}
use Rattle.arm_core.specs.Meanings.{meaning}
use Rattle.arm_core.specs.Registers.{RegisterState}
use Rattle.arm_core.specs.Steps.{enters, fetched}
use Rattle.ds_dma.specs.declared.channels.Unit.{Unit as DmaUnit}
use Rattle.ds_map.specs.Maps.{MapState}
use Rattle.ds_map.specs.Moves.{next_unit, unit_moved, unit_taken}
use Rattle.ds_map.specs.Views.{NineReach, nine_memory}
use Rattle.ds_ports.specs.Dues.{io_due}
use Rattle.ds_runs.specs.Actors.{actor_of}
use Rattle.ds_runs.specs.declared.actors.Actor.TheVariants.{Dma, Processor}
use Rattle.gx_fifo.specs.Entries.{most_entries}
use Rattle.gx_fifo.specs.GxStates.{AreWaiting, is_stalled, waiting_entries}
use Rattle.ds_machine.specs.Reference.{reference_step}
use Rattle.ds_machine.specs.PrivateSides.{SideOf, nine_side, side_taken}
use Rattle.ds_machine.specs.States.{MachineState}
use Rattle.ds_machine.specs.Statuses.{left_by}
use Rattle.ds_machine.specs.Steps.{is_blocked, line_of, map_of, nine_reach, tick_of}

-- Whatever is written to geometry finds room. A word that is written adds four entries at most to those that wait for it; more than 260 hold ARM9 and
-- its DMA (GBATEK, "GXFIFO"), and an instruction makes sixteen accesses at most. So at most 320 wait before each access, and at most 324 after it.

-- ---- instructions

-- an instruction makes as many accesses of data as LDM and STM can name registers, or fewer (ARM manual, A5.4 "Addressing Mode 4")
abbrev pub InstructionsAreShort : Type 0
InstructionsAreShort = (arch : Arch) (base : ℕ) (s : RegisterState) (instr : Instr) → length (meaning arch base s instr).accesses ≤ 16

-- the accesses of data of a step: those of the instruction that is fetched. The entry of an interrupt makes none, nor does a word or half without an
-- instruction
abbrev pub accesses_of : Arch → ℕ → RegisterState → Option Instr → List Access
accesses_of arch base s None = []
accesses_of arch base s (Some instr) = (meaning arch base s instr).accesses

abbrev pub step_accesses : {S : Type 0} → MemoryMachine S → SideOf S → Bool → RegisterState → S → List Access
step_accesses memory side line s state =
    if enters line s then [] else accesses_of side.step.arch (side.step.base state) s (fetched memory side.step.arch s state).instr

-- ---- ARM9

-- there is room for what one more access adds
abbrev pub HasRoom : MapState → Type 0
HasRoom m = waiting_entries m.io.gx ≤ most_entries - 4

-- each of some accesses of ARM9, made one after another, finds room; so would those after one that is refused, which aren't made
abbrev pub FindsRoom : List Access → NineReach → Type 0
FindsRoom [] r = Unit {0}
FindsRoom (Fetch at width ∷ rest) r = HasRoom r.map × FindsRoom rest (nine_memory.fetch_next r at width)
FindsRoom (Read at width ∷ rest) r = HasRoom r.map × FindsRoom rest (nine_memory.read_next r at width)
FindsRoom (Write at width value ∷ rest) r = HasRoom r.map × FindsRoom rest (nine_memory.write_next r at width value)

-- where a step of ARM9 finds room: each of its accesses does, and no more wait after it than the FIFO has room for. These accesses are all that it
-- makes of what ARM9 reaches, but for what a move to CP15 changes there
pub record StepFindsRoom (line : Bool) (s : RegisterState) (r : NineReach) : Type 0 where
  pub accesses : FindsRoom (step_accesses nine_memory nine_side line s r) r
  pub after : waiting_entries (side_taken nine_memory nine_side line s r).state.map.io.gx ≤ most_entries
  pub made : (let done : Performed NineReach = perform nine_memory r (step_accesses nine_memory nine_side line s r) in
      (side_taken nine_memory nine_side line s r).state ≡ record done.state { cp15 = (side_taken nine_memory nine_side line s r).state.cp15 })

-- so it is of every instruction and every step of ARM9 that no stall holds
abbrev pub InstructionsFindRoom : Type 0
InstructionsFindRoom =
    (arch : Arch) (base : ℕ) (s : RegisterState) (instr : Instr) (r : NineReach) → AreWaiting r.map.io.gx → is_stalled r.map.io.gx ≡ false
    → FindsRoom (meaning arch base s instr).accesses r

abbrev pub StepsFindRoom : Type 0
StepsFindRoom = (line : Bool) (s : RegisterState) (r : NineReach) → AreWaiting r.map.io.gx → is_stalled r.map.io.gx ≡ false → StepFindsRoom line s r

-- and in the machine: of the step of ARM9 that is due, which isn't blocked
pub record NineFindsRoom (s : MachineState) : Type 0 where
  pub step : StepFindsRoom (line_of s Nine) s.nine.processor.registers (nine_reach (tick_of s.nine.processor) s)
  pub after : (rank : ℕ) → actor_of rank ≡ Processor Nine → waiting_entries (left_by (reference_step rank s)).io.gx ≤ most_entries

abbrev pub NineStepsFindRoom : Type 0
NineStepsFindRoom = (s : MachineState) → AreWaiting s.io.gx → is_blocked s Nine ≡ false → NineFindsRoom s

-- ---- ARM9's DMA

-- a unit of a channel finds room, at its read and at its write, which comes after it was taken
pub record UnitFindsRoom (now : Tick) (unit : DmaUnit) (m : MapState) : Type 0 where
  pub read : HasRoom m
  pub write : HasRoom (unit_taken Nine now unit m)
  pub after : waiting_entries (unit_moved Nine now unit m).io.gx ≤ most_entries

-- so does in the machine the unit of a channel that is due, which no stall holds then
pub record ChannelFindsRoom (now : Tick) (channel : ℕ) (s : MachineState) : Type 0 where
  pub unit : UnitFindsRoom now (next_unit s.io Nine) (map_of Nine s)
  pub after : (rank : ℕ) → actor_of rank ≡ Dma Nine channel → waiting_entries (left_by (reference_step rank s)).io.gx ≤ most_entries

abbrev pub NineUnitsFindRoom : Type 0
NineUnitsFindRoom =
    (now : Tick) (channel : ℕ) (s : MachineState) → AreWaiting s.io.gx → io_due (Dma Nine channel) s.io ≡ Some now → ChannelFindsRoom now channel s

-- ---- ARM7 and its DMA leave geometry as it is

abbrev pub SevenStepsLeaveGeometry : Type 0
SevenStepsLeaveGeometry = (rank : ℕ) (s : MachineState) → actor_of rank ≡ Processor Seven → (left_by (reference_step rank s)).io.gx ≡ s.io.gx

abbrev pub SevenUnitsLeaveGeometry : Type 0
SevenUnitsLeaveGeometry =
    (rank channel : ℕ) (s : MachineState) → actor_of rank ≡ Dma Seven channel → (left_by (reference_step rank s)).io.gx ≡ s.io.gx
