use Rattle.std.specs.Prelude.{ℕ, ◌+◌, List}
use Rattle.arm_core.specs.Registers.{RegisterState}
use Rattle.cp15_tcm.specs.Registers.{Cp15State}
use Rattle.ds_base.specs.declared.keys.KeyLine.{KeyLine}
use Rattle.ds_ports.specs.declared.units.IoParts.{IoParts as IoState}

-- The machine's state: one part for each unit, each processor's own part apart, so that an actor's step names the parts that it
-- uses and leaves the others alone.

-- a processor: its registers, the tick at which its next step is due, and how many steps it took. While it is blocked, which the units behind the
-- ports tell (it is halted, a DMA channel of it runs, or a stall of geometry holds ARM9), it isn't due; while it is halted that tick is 0
pub record ProcessorState : Type 0 where
  pub registers : RegisterState
  pub due : ℕ
  pub steps : ℕ

-- ARM9's own part: the processor, CP15, and its two tightly coupled memories
pub record NineState : Type 0 where
  pub processor : ProcessorState
  pub cp15 : Cp15State
  pub itcm : List ℕ
  pub dtcm : List ℕ

-- ARM7's own part: the processor, and its own work RAM
pub record SevenState : Type 0 where
  pub processor : ProcessorState
  pub wram : List ℕ

-- the whole machine; main memory and shared work RAM, which both processors reach; palettes and OAM, which ARM9 and its DMA channels alone reach; the
-- units behind the ports, among them video memory, the display and the geometry engine; `keys` are the lines of the key script that are to come,
-- `events` counts the steps of all actors but the processors, and `file` is the cartridge's, of which no step changes a byte
pub record MachineState : Type 0 where
  pub nine : NineState
  pub seven : SevenState
  pub main : List ℕ
  pub shared : List ℕ
  pub palette : List ℕ
  pub oam : List ℕ
  pub io : IoState
  pub keys : List KeyLine
  pub events : ℕ
  pub file : List ℕ

-- The machine with another cartridge's file. A machine may step with a cartridge that is lent to it: its state is read together with that file
abbrev pub with_file : List ℕ → MachineState → MachineState
with_file file s = record s { file = file }

-- all steps that the machine took
abbrev pub counts_of : MachineState → ℕ
counts_of s = s.nine.processor.steps + s.seven.processor.steps + s.events
