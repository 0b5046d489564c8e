use Rattle.std.specs.Prelude.{ℕ, ◌≡◌, ◌+◌, ◌^◌, ◌==◌, ◌&&◌, not, nat_le, nat_lt, if◌then◌else◌, Bool, false, bit_and, List, [], ◌∷◌, Ok}
use Rattle.arm_core.specs.Registers.{RegisterState}
use Rattle.arm_core.specs.Saved.{registers_format}
use Rattle.cp15_tcm.specs.Registers.{Cp15State}
use Rattle.cp15_tcm.specs.Saved.{cp15_format}
use Rattle.ds_base.specs.Memories.{memory_size}
use Rattle.ds_base.specs.declared.keys.KeyLine.{KeyLine}
use Rattle.ds_base.specs.declared.memories.Memory.{Memory}
use Rattle.ds_base.specs.declared.memories.Memory.TheVariants.{Main, Shared, Own7, Itcm, Dtcm, Palette, Oam}
use Rattle.ds_base.specs.declared.processors.Arch.{Arch}
use Rattle.ds_base.specs.declared.processors.Arch.TheVariants.{V4, V5}
use Rattle.ds_base.specs.declared.processors.Proc.TheVariants.{Nine, Seven}
use Rattle.ds_card.specs.Cards.{CardState}
use Rattle.ds_card.specs.Saved.{card_format}
use Rattle.ds_dma.specs.Saved.{dma_format, dma_format_by, late_runs_by}
use Rattle.ds_dma.specs.States.{DmaState, any_runs, awaits_geometry, dma_due}
use Rattle.ds_ipc.specs.Ipcs.{IpcState}
use Rattle.ds_ipc.specs.Saved.{ipc_format}
use Rattle.ds_math.specs.Dividers.{DividerState}
use Rattle.ds_math.specs.Roots.{RootState}
use Rattle.ds_math.specs.Saved.{divider_format, root_format}
use Rattle.ds_ports.specs.declared.units.IoParts.{IoParts as IoState}
use Rattle.ds_ports.specs.Io.{channel_comes_before}
use Rattle.ds_ports.specs.ProcessorIo.{ProcessorIoState}
use Rattle.ds_state.specs.Formats.{Format, number_code, flag_code, array, done, ◌>>=◌, one_field, its, each, any, at_most, keeps_mask, word_format, bytes_written}
use Rattle.ds_state.specs.FormatLaws.{OneSpelling}
use Rattle.ds_state.specs.Reading.{Left, read_format}
use Rattle.ds_timers.specs.Irqs.{IrqState, irq_levelled, level, shares_bit}
use Rattle.ds_timers.specs.Saved.{irq_format, irq_format_by, sleeps_by, timers_format}
use Rattle.ds_timers.specs.declared.timers.Timer.{Timer}
use Rattle.gx_fifo.specs.GxStates.{GxState, gx_level, is_stalled}
use Rattle.gx_fifo.specs.Saved.{gx_format_by, holds_by}
use Rattle.gx_fifo.specs.declared.gx.saved.Asked.{Asked}
use Rattle.video2d.specs.Saved.{video_format}
use Rattle.video2d.specs.Videos.{VideoState}
use Rattle.vram_banks.specs.Cells.{Banks}
use Rattle.vram_banks.specs.Saved.{banks_format}
use Rattle.ds_machine.specs.States.{MachineState, ProcessorState}
use Rattle.ds_machine.specs.Saved.{late_by, own_due, released_again, saved_size, script_from}

-- The parts in which the code takes the machine from bytes (our choice of form). No public call speaks of them.

-- a processor: its registers, whether it is halted, and the tick at which its next step is due
pub record SavedProcessor : Type 0 where
  pub registers : RegisterState
  pub halted : Bool
  pub due : ℕ

unfoldable pub processor_format : Arch → Format SavedProcessor SavedProcessor
processor_format arch = do
  registers ← its (registers_format arch) (λ p. p.registers)
  halted ← one_field flag_code (λ p. p.halted) any
  due ← one_field (number_code 8) (λ p. p.due) (own_due halted)
  done (record { registers = registers; halted = halted; due = due })

abbrev pub saved_processor : ProcessorState → ProcessorIoState → SavedProcessor
saved_processor p processor_io = record { registers = p.registers; halted = processor_io.halted; due = p.due }

-- whether it is late, and what ARM9 asks of the geometry FIFO, worked out before how many entries wait is read
abbrev pub is_late : ℕ → SavedProcessor → Bool
is_late at p = late_by at p.halted p.due

abbrev pub asked_of : ℕ → SavedProcessor → IrqState → DmaState → Asked
asked_of at nine irq dma = record {
  wakes = nine.halted && shares_bit irq;
  hears = nine.halted && not (bit_and irq.ie level == 0);
  late = is_late at nine && not (any_runs dma.channels);
  waits = awaits_geometry dma;
}

-- a processor, with so many steps
abbrev pub made_processor : SavedProcessor → ℕ → ProcessorState
made_processor p steps = record { registers = p.registers; due = p.due; steps = steps }

-- both of them, and CP15
pub record SavedProcessors : Type 0 where
  pub nine : SavedProcessor
  pub seven : SavedProcessor
  pub cp15 : Cp15State

abbrev pub saved_processors : MachineState → SavedProcessors
saved_processors s = record {
  nine = saved_processor s.nine.processor s.io.nine;
  seven = saved_processor s.seven.processor s.io.seven;
  cp15 = s.nine.cp15;
}

unfoldable pub processors_format : Format SavedProcessors SavedProcessors
processors_format = do
  nine ← its (processor_format V5) (λ p. p.nine)
  seven ← its (processor_format V4) (λ p. p.seven)
  cp15 ← its cp15_format (λ p. p.cp15)
  done (record { nine = nine; seven = seven; cp15 = cp15 })

-- ---- the memories

pub record SavedMemories : Type 0 where
  pub main : List ℕ
  pub shared : List ℕ
  pub wram : List ℕ
  pub itcm : List ℕ
  pub dtcm : List ℕ
  pub palette : List ℕ
  pub vram : Banks
  pub oam : List ℕ

abbrev pub saved_memories : MachineState → SavedMemories
saved_memories s = record {
  main = s.main;
  shared = s.shared;
  wram = s.seven.wram;
  itcm = s.nine.itcm;
  dtcm = s.nine.dtcm;
  palette = s.palette;
  vram = s.io.vram;
  oam = s.oam;
}

unfoldable pub memories_format : Format SavedMemories SavedMemories
memories_format = do
  main ← one_field (array (saved_size Main)) (λ m. m.main) any
  shared ← one_field (array (saved_size Shared)) (λ m. m.shared) any
  wram ← one_field (array (saved_size Own7)) (λ m. m.wram) any
  itcm ← one_field (array (saved_size Itcm)) (λ m. m.itcm) any
  dtcm ← one_field (array (saved_size Dtcm)) (λ m. m.dtcm) any
  palette ← one_field (array (saved_size Palette)) (λ m. m.palette) any
  vram ← its banks_format (λ m. m.vram)
  oam ← one_field (array (saved_size Oam)) (λ m. m.oam) any
  done (record { main = main; shared = shared; wram = wram; itcm = itcm; dtcm = dtcm; palette = palette; vram = vram; oam = oam })

-- ---- the small units: WRAMCNT, the interrupt words and the timers of both processors, the divider and the square root unit, what passes between
-- the processors, the keys that are pressed, and each KEYCNT

pub record SavedUnits : Type 0 where
  pub wramcnt : ℕ
  pub irq_of_nine : IrqState
  pub irq_of_seven : IrqState
  pub timers_of_nine : List Timer
  pub timers_of_seven : List Timer
  pub divider : DividerState
  pub root : RootState
  pub ipc : IpcState
  pub pressed : ℕ
  pub keycnt_of_nine : ℕ
  pub keycnt_of_seven : ℕ

-- the geometry FIFO's bit of ARM9's IF isn't saved: it tells that FIFO's condition, by which it is made anew
abbrev pub saved_units : IoState → SavedUnits
saved_units u = record {
  wramcnt = u.wramcnt;
  irq_of_nine = irq_levelled u.nine.irq false;
  irq_of_seven = u.seven.irq;
  timers_of_nine = u.nine.timers;
  timers_of_seven = u.seven.timers;
  divider = u.divider;
  root = u.root;
  ipc = u.ipc;
  pressed = u.pressed;
  keycnt_of_nine = u.nine.keycnt;
  keycnt_of_seven = u.seven.keycnt;
}

-- by whether ARM7 is halted: then no bit may stand in its IE and IF both
unfoldable pub units_format : Bool → Format SavedUnits SavedUnits
units_format halted = do
  wramcnt ← one_field (number_code 1) (λ u. u.wramcnt) (at_most 3)
  irq_of_nine ← its (irq_format Nine) (λ u. u.irq_of_nine)
  irq_of_seven ← its (irq_format_by Seven (sleeps_by halted)) (λ u. u.irq_of_seven)
  timers_of_nine ← its timers_format (λ u. u.timers_of_nine)
  timers_of_seven ← its timers_format (λ u. u.timers_of_seven)
  divider ← its divider_format (λ u. u.divider)
  root ← its root_format (λ u. u.root)
  ipc ← its ipc_format (λ u. u.ipc)
  pressed ← one_field (number_code 2) (λ u. u.pressed) (at_most 0xFFF)
  keycnt_of_nine ← one_field (number_code 2) (λ u. u.keycnt_of_nine) (keeps_mask 0xC3FF)
  keycnt_of_seven ← one_field (number_code 2) (λ u. u.keycnt_of_seven) (keeps_mask 0xC3FF)
  done (record {
    wramcnt = wramcnt;
    irq_of_nine = irq_of_nine;
    irq_of_seven = irq_of_seven;
    timers_of_nine = timers_of_nine;
    timers_of_seven = timers_of_seven;
    divider = divider;
    root = root;
    ipc = ipc;
    pressed = pressed;
    keycnt_of_nine = keycnt_of_nine;
    keycnt_of_seven = keycnt_of_seven;
  })

-- ---- the DMA channels of both processors, and the four words of DMA0FILL to DMA3FILL

pub record SavedChannels : Type 0 where
  pub nine : DmaState
  pub seven : DmaState
  pub fill : List ℕ

abbrev pub saved_channels : IoState → SavedChannels
saved_channels u = record { nine = u.nine.dma; seven = u.seven.dma; fill = u.fill }

-- by whether ARM7 is late: then one of its channels runs
unfoldable pub channels_format : Bool → Format SavedChannels SavedChannels
channels_format late = do
  nine ← its (dma_format Nine) (λ c. c.nine)
  seven ← its (dma_format_by Seven (late_runs_by late)) (λ c. c.seven)
  fill ← each 4 word_format (λ c. c.fill)
  done (record { nine = nine; seven = seven; fill = fill })

-- ---- the whole

-- what each processor has of its own behind the ports
abbrev pub made_nine : SavedProcessor → SavedUnits → SavedChannels → GxState → ProcessorIoState
made_nine p u c gx = record {
  irq = irq_levelled u.irq_of_nine (gx_level gx);
  timers = u.timers_of_nine;
  keycnt = u.keycnt_of_nine;
  halted = p.halted;
  dma = c.nine;
}

abbrev pub made_seven : SavedProcessor → SavedUnits → SavedChannels → ProcessorIoState
made_seven p u c = record { irq = u.irq_of_seven; timers = u.timers_of_seven; keycnt = u.keycnt_of_seven; halted = p.halted; dma = c.seven }

-- the units behind the ports
abbrev pub made_io : ℕ → SavedProcessors → Banks → SavedUnits → SavedChannels → VideoState → GxState → CardState → IoState
made_io at p vram u c video gx card = record {
  video = video;
  vram = vram;
  wramcnt = u.wramcnt;
  ipc = u.ipc;
  pressed = u.pressed;
  fill = c.fill;
  card = card;
  divider = u.divider;
  root = u.root;
  gx = gx;
  released = released_again at gx c.nine;
  nine = made_nine p.nine u c gx;
  seven = made_seven p.seven u c;
}

-- what isn't saved with the machine: the cartridge's file, the whole key script, and the counts of steps of ARM9, of ARM7 and of all others
pub record Around : Type 0 where
  pub file : List ℕ
  pub keys : List KeyLine
  pub nine : ℕ
  pub seven : ℕ
  pub events : ℕ

abbrev pub around_of : List ℕ → List KeyLine → ℕ → ℕ → ℕ → Around
around_of file keys nine seven events = record { file = file; keys = keys; nine = nine; seven = seven; events = events }

abbrev pub made_machine : Around → ℕ → SavedProcessors → SavedMemories → IoState → MachineState
made_machine around at p m io = record {
  nine = record { processor = made_processor p.nine around.nine; cp15 = p.cp15; itcm = m.itcm; dtcm = m.dtcm };
  seven = record { processor = made_processor p.seven around.seven; wram = m.wram };
  main = m.main;
  shared = m.shared;
  palette = m.palette;
  oam = m.oam;
  io = io;
  keys = script_from at around.keys;
  events = around.events;
  file = around.file;
}

unfoldable pub machine_parts : Around → ℕ → Format MachineState MachineState
machine_parts around at = do
  processors ← its processors_format saved_processors
  memories ← its memories_format saved_memories
  units ← its (units_format processors.seven.halted) (λ s. saved_units s.io)
  channels ← its (channels_format (is_late at processors.seven)) (λ s. saved_channels s.io)
  video ← its (video_format at) (λ s. s.io.video)
  gx ← its (gx_format_by (holds_by (asked_of at processors.nine units.irq_of_nine channels.nine))) (λ s. s.io.gx)
  card ← its (card_format around.file) (λ s. s.io.card)
  done (made_machine around at processors memories (made_io at processors memories.vram units channels video gx card))
