use Rattle.std.specs.Prelude.{ℕ, ◌≡◌, ◌+◌, ◌^◌, ◌==◌, ◌&&◌, ◌||◌, not, nat_le, nat_lt, if◌then◌else◌, Bool, false, bit_and, List, [], ◌∷◌, Ok}
use Rattle.arm_core.specs.Registers.{RegisterState}
use Rattle.arm_core.specs.Saved.{registers_format}
use Rattle.cp15_tcm.specs.Registers.{Cp15State}
use Rattle.cp15_tcm.specs.Saved.{cp15_format}
use Rattle.ds_base.specs.Memories.{memory_size}
use Rattle.ds_base.specs.declared.keys.KeyLine.{KeyLine}
use Rattle.ds_base.specs.declared.memories.Memory.{Memory}
use Rattle.ds_base.specs.declared.memories.Memory.TheVariants.{Main, Shared, Own7, Itcm, Dtcm, Palette, Oam}
use Rattle.ds_base.specs.declared.processors.Arch.{Arch}
use Rattle.ds_base.specs.declared.processors.Arch.TheVariants.{V4, V5}
use Rattle.ds_base.specs.declared.processors.Proc.TheVariants.{Nine, Seven}
use Rattle.ds_card.specs.Cards.{CardState}
use Rattle.ds_card.specs.Saved.{card_format}
use Rattle.ds_dma.specs.Saved.{dma_format, dma_format_by}
use Rattle.ds_dma.specs.States.{DmaState, any_runs, awaits_geometry, dma_due}
use Rattle.ds_ipc.specs.Ipcs.{IpcState}
use Rattle.ds_ipc.specs.Saved.{ipc_format}
use Rattle.ds_math.specs.Dividers.{DividerState}
use Rattle.ds_math.specs.Roots.{RootState}
use Rattle.ds_math.specs.Saved.{divider_format, root_format}
use Rattle.ds_ports.specs.declared.units.IoParts.{IoParts as IoState}
use Rattle.ds_ports.specs.Io.{channel_comes_before}
use Rattle.ds_ports.specs.ProcessorIo.{ProcessorIoState}
use Rattle.ds_state.specs.Formats.{Format, number_code, flag_code, array, done, ◌>>=◌, one_field, its, each, any, at_most, keeps_mask, word_format, bytes_written}
use Rattle.ds_state.specs.FormatLaws.{OneSpelling}
use Rattle.ds_state.specs.Reading.{Left, read_format}
use Rattle.ds_timers.specs.Irqs.{IrqState, irq_levelled, level, shares_bit}
use Rattle.ds_timers.specs.Saved.{irq_format, irq_format_by, timers_format}
use Rattle.gx_fifo.specs.GxStates.{GxState, gx_level, half_empty_by, is_stalled, level_by, stalls_by}
use Rattle.gx_fifo.specs.Saved.{gx_format_by}
use Rattle.video2d.specs.Saved.{video_format}
use Rattle.video2d.specs.Videos.{VideoState}
use Rattle.vram_banks.specs.Cells.{Banks}
use Rattle.vram_banks.specs.Saved.{banks_format}
use Rattle.ds_machine.specs.States.{MachineState, ProcessorState}

-- The machine in bytes (our choice of form): the processors; the memories; the small units; the DMA channels; the display; the geometry engine with
-- what waits for it; the card. A rule over several of them is told at the last of its fields.

-- ---- the processors

-- the tick at which its next step is due is 0 while it is halted, and else no later than 2^32 ticks after that of the state
abbrev pub own_due : Bool → ℕ → ℕ → Bool
own_due halted at due = if halted then due == 0 else nat_le due (at + 2 ^ 32)

-- where it isn't halted it is due earlier than the tick of the state, which is so only while something else holds it
abbrev pub late_by : ℕ → Bool → ℕ → Bool
late_by at halted due = not halted && nat_lt due at

-- ---- the memories

-- so many bytes; it doesn't unfold by itself, since they are many
unfoldable pub saved_size : Memory → ℕ
saved_size memory = memory_size memory

-- ---- the whole

-- What ARM9 asks of GXSTAT's selector and how many entries wait: while it is halted no bit stands in its IE and IF both, the FIFO's own among them;
-- where it is late, and no channel of it runs, a stall holds it; and no channel of it waits while the FIFO is half empty.
abbrev pub asks_by : ℕ → Bool → ℕ → IrqState → DmaState → ℕ → ℕ → Bool
asks_by at halted due irq dma selector waiting =
    not (halted && shares_bit irq) && not (halted && not (bit_and irq.ie level == 0) && level_by selector waiting)
    && (not (late_by at halted due && not (any_runs dma.channels)) || stalls_by waiting) && not (awaits_geometry dma && half_empty_by waiting)

-- What a stall's end left, which isn't saved: ARM9's channel that is due would have come before the tick of the state, had a stall not held it.
abbrev pub released_again : ℕ → GxState → DmaState → ℕ
released_again at gx dma = if is_stalled gx then 0 else (if channel_comes_before (dma_due dma) at then at else 0)

-- a key script has lines that are due before a tick; those that are due then or later
abbrev pub starts_before : ℕ → List KeyLine → Bool
starts_before at [] = false
starts_before at (line ∷ lines) = nat_lt line.tick.0 at

abbrev pub script_from : ℕ → List KeyLine → List KeyLine
script_from at [] = []
script_from at (line ∷ lines) = if nat_lt line.tick.0 at then script_from at lines else line ∷ lines

-- The whole: the processors, of each its registers, whether it is halted, and the tick at which its next step is due, and CP15; the memories;
-- WRAMCNT, the interrupt words and the timers of both processors, the divider and the square root unit, what passes between the processors, the
-- keys that are pressed, and each KEYCNT; the DMA channels, and the four words of DMA0FILL to DMA3FILL; the display; the geometry engine with
-- what waits for it; the card. What isn't saved with it is handed in: the cartridge's file, the whole key script, and the counts of steps of
-- ARM9, of ARM7 and of all others. The geometry FIFO's bit of ARM9's IF isn't saved either: it tells that FIFO's condition, by which it is made
-- anew. While ARM7 is halted no bit may stand in its IE and IF both, and where it is late one of its channels runs.
unfoldable pub machine_format : (file : List ℕ) (keys : List KeyLine) (steps_of_nine steps_of_seven events at : ℕ) → Format MachineState MachineState
machine_format file keys steps_of_nine steps_of_seven events at = do
  registers_of_nine ← its (registers_format V5) (λ s. s.nine.processor.registers)
  halted_of_nine ← one_field flag_code (λ s. s.io.nine.halted) any
  due_of_nine ← one_field (number_code 8) (λ s. s.nine.processor.due) (own_due halted_of_nine)
  registers_of_seven ← its (registers_format V4) (λ s. s.seven.processor.registers)
  halted_of_seven ← one_field flag_code (λ s. s.io.seven.halted) any
  due_of_seven ← one_field (number_code 8) (λ s. s.seven.processor.due) (own_due halted_of_seven)
  cp15 ← its cp15_format (λ s. s.nine.cp15)
  main ← one_field (array (saved_size Main)) (λ s. s.main) any
  shared ← one_field (array (saved_size Shared)) (λ s. s.shared) any
  wram ← one_field (array (saved_size Own7)) (λ s. s.seven.wram) any
  itcm ← one_field (array (saved_size Itcm)) (λ s. s.nine.itcm) any
  dtcm ← one_field (array (saved_size Dtcm)) (λ s. s.nine.dtcm) any
  palette ← one_field (array (saved_size Palette)) (λ s. s.palette) any
  vram ← its banks_format (λ s. s.io.vram)
  oam ← one_field (array (saved_size Oam)) (λ s. s.oam) any
  wramcnt ← one_field (number_code 1) (λ s. s.io.wramcnt) (at_most 3)
  irq_of_nine ← its (irq_format Nine) (λ s. irq_levelled s.io.nine.irq false)
  irq_of_seven ← its (irq_format_by Seven (λ ie flags. not (halted_of_seven && not (bit_and ie flags == 0)))) (λ s. s.io.seven.irq)
  timers_of_nine ← its timers_format (λ s. s.io.nine.timers)
  timers_of_seven ← its timers_format (λ s. s.io.seven.timers)
  divider ← its divider_format (λ s. s.io.divider)
  root ← its root_format (λ s. s.io.root)
  ipc ← its ipc_format (λ s. s.io.ipc)
  pressed ← one_field (number_code 2) (λ s. s.io.pressed) (at_most 0xFFF)
  keycnt_of_nine ← one_field (number_code 2) (λ s. s.io.nine.keycnt) (keeps_mask 0xC3FF)
  keycnt_of_seven ← one_field (number_code 2) (λ s. s.io.seven.keycnt) (keeps_mask 0xC3FF)
  dma_of_nine ← its (dma_format Nine) (λ s. s.io.nine.dma)
  dma_of_seven ← its (dma_format_by Seven (λ runs. not (late_by at halted_of_seven due_of_seven) || runs)) (λ s. s.io.seven.dma)
  fill ← each 4 word_format (λ s. s.io.fill)
  video ← its (video_format at) (λ s. s.io.video)
  gx ← its (gx_format_by (asks_by at halted_of_nine due_of_nine irq_of_nine dma_of_nine)) (λ s. s.io.gx)
  card ← its (card_format file) (λ s. s.io.card)
  done (record {
    nine = record {
      processor = record { registers = registers_of_nine; due = due_of_nine; steps = steps_of_nine };
      cp15 = cp15;
      itcm = itcm;
      dtcm = dtcm;
    };
    seven = record { processor = record { registers = registers_of_seven; due = due_of_seven; steps = steps_of_seven }; wram = wram };
    main = main;
    shared = shared;
    palette = palette;
    oam = oam;
    io = record {
      video = video;
      vram = vram;
      wramcnt = wramcnt;
      ipc = ipc;
      pressed = pressed;
      fill = fill;
      card = card;
      divider = divider;
      root = root;
      gx = gx;
      released = released_again at gx dma_of_nine;
      nine = record {
        irq = irq_levelled irq_of_nine (gx_level gx);
        timers = timers_of_nine;
        keycnt = keycnt_of_nine;
        halted = halted_of_nine;
        dma = dma_of_nine;
      };
      seven = record { irq = irq_of_seven; timers = timers_of_seven; keycnt = keycnt_of_seven; halted = halted_of_seven; dma = dma_of_seven };
    };
    keys = script_from at keys;
    events = events;
    file = file;
  })

-- ---- what the machine owes of it

-- Bytes that are read are those of what is read. They are those of the state alone, whatever isn't saved with it; and what is read has the counts of
-- steps and the file that were handed in.
pub record MachinesAreSaved : Type 0 where
  pub spelling : (file : List ℕ) (keys : List KeyLine) (nine seven events at : ℕ) → OneSpelling (machine_format file keys nine seven events at) at
  pub same : (file other_file : List ℕ) (keys other_keys : List KeyLine) (nine seven events at other_nine other_seven other_events later : ℕ)
      (before : List ℕ) (s : MachineState) → bytes_written (machine_format file keys nine seven events at) before s
      ≡ bytes_written (machine_format other_file other_keys other_nine other_seven other_events later) before s
  pub counts : (file : List ℕ) (keys : List KeyLine) (nine seven events at : ℕ) (l left : Left) (s : MachineState)
      → read_format (machine_format file keys nine seven events at) at l ≡ Ok (s, left)
      → (s.nine.processor.steps ≡ nine) × (s.seven.processor.steps ≡ seven) × (s.events ≡ events) × (s.file ≡ file)
