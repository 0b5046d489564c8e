use Rattle.std.specs.Prelude.{ℕ, ◌≡◌, ◌<◌, ◌≤◌, ◌^◌, List, length}
use Rattle.std.specs.List.{AllByRecursion}
use Rattle.arm_core.specs.Saved.{AreRegisters}
use Rattle.cp15_tcm.specs.Registers.{IsCp15}
use Rattle.ds_base.specs.Memories.{memory_size}
use Rattle.ds_base.specs.declared.keys.KeyLine.{KeyLine}
use Rattle.ds_base.specs.declared.memories.Memory.TheVariants.{Main, Shared, Own7, Itcm, Dtcm, Palette, Oam}
use Rattle.ds_base.specs.declared.processors.Proc.{Proc}
use Rattle.ds_card.specs.Cards.{CardState, IsCard}
use Rattle.ds_card.specs.Saved.{KeepsAuxspicnt}
use Rattle.ds_ipc.specs.Ipcs.{AreSides}
use Rattle.ds_math.specs.Dividers.{IsDivider}
use Rattle.ds_math.specs.Roots.{IsRootUnit}
use Rattle.ds_ports.specs.declared.units.IoParts.{IoParts as IoState}
use Rattle.ds_ports.specs.Io.{io_of}
use Rattle.ds_runs.specs.Runs.{IsOver}
use Rattle.ds_state.specs.FormatLaws.{RoundTrips}
use Rattle.ds_timers.specs.Irqs.{IsIrq}
use Rattle.gx_fifo.specs.GxStates.{IsGx}
use Rattle.gx_fifo.specs.Saved.{HasGxBounds}
use Rattle.vram_banks.specs.Cells.{AreBanks}
use Rattle.ds_machine.specs.Reference.{dues_of}
use Rattle.ds_machine.specs.Saved.{machine_format, script_from}
use Rattle.ds_machine.specs.Sound.{IsSound}
use Rattle.ds_machine.specs.States.{MachineState}
use Rattle.ds_machine.specs.Statuses.{HasBothStatuses}
use Rattle.ds_machine.specs.Steps.{processor_of}
use Rattle.ds_machine.specs.WithinLaws.{IsWithinTick}

-- What a machine at a tick needs to come back from its bytes.

-- ---- what each of its numbers has at every time, whatever its tick

-- the memories, of which each has its size
pub record HasSizes (s : MachineState) : Type 0 where
  pub main : length s.main ≡ memory_size Main
  pub shared : length s.shared ≡ memory_size Shared
  pub wram : length s.seven.wram ≡ memory_size Own7
  pub itcm : length s.nine.itcm ≡ memory_size Itcm
  pub dtcm : length s.nine.dtcm ≡ memory_size Dtcm
  pub palette : length s.palette ≡ memory_size Palette
  pub oam : length s.oam ≡ memory_size Oam
  pub vram : AreBanks s.io.vram

-- the card's registers
pub record HasCardBounds (c : CardState) : Type 0 where
  pub card : IsCard c
  pub nine : KeepsAuxspicnt c.nine
  pub seven : KeepsAuxspicnt c.seven

-- the units behind the ports
pub record HasUnitBounds (u : IoState) : Type 0 where
  pub irq : (proc : Proc) → IsIrq (io_of u proc).irq
  pub wramcnt : u.wramcnt < 4
  pub pressed : u.pressed < 2 ^ 12
  pub four : length u.fill ≡ 4
  pub fill : AllByRecursion (λ word. word < 2 ^ 32) u.fill
  pub divider : IsDivider u.divider
  pub root : IsRootUnit u.root
  pub ipc : AreSides u.ipc
  pub gx : IsGx u.gx
  pub bounds : HasGxBounds u.gx
  pub card : HasCardBounds u.card

pub record HasMachineBounds (s : MachineState) : Type 0 where
  pub registers : (proc : Proc) → AreRegisters (processor_of s proc).registers
  pub statuses : HasBothStatuses s
  pub cp15 : IsCp15 s.nine.cp15
  pub sizes : HasSizes s
  pub units : HasUnitBounds s.io

-- ---- the law

-- a machine that the steps below a tick brought there, and that waits at it: its bytes are read as it was, with the file, the key script and the
-- counts of steps that it was written with
abbrev pub MachinesComeBack : Type 0
MachinesComeBack =
    (keys : List KeyLine) (at : ℕ) (s : MachineState) → HasMachineBounds s → IsSound s → IsWithinTick at s → IsOver (dues_of s) at → at ≤ 2 ^ 56
    → s.keys ≡ script_from at keys
    → RoundTrips (machine_format s.file keys s.nine.processor.steps s.seven.processor.steps s.events at) at s
