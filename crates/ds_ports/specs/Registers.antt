use Rattle.std.specs.Prelude.{ℕ, ◌+◌, ◌*◌, ◌/◌, ◌%◌, ◌^◌, ◌==◌, ◌||◌, if◌then◌else◌, Bool, true, false, Option, Some, None, is_some, slice_index_or, slice_set}
use Rattle.ds_base.specs.Bits.{bit, bits, flag}
use Rattle.ds_base.specs.Numbers.{value_by}
use Rattle.ds_base.specs.declared.left_out.LeftKind.TheVariants.{HaltMode}
use Rattle.ds_base.specs.declared.left_out.Stop.{Stop}
use Rattle.ds_base.specs.declared.memories.Width.{Width}
use Rattle.ds_base.specs.declared.memories.Width.TheVariants.{Half, Word}
use Rattle.ds_base.specs.declared.processors.Proc.{Proc}
use Rattle.ds_base.specs.declared.processors.Proc.TheVariants.{Nine, Seven}
use Rattle.ds_base.specs.declared.ticks.Tick.{Tick}
use Rattle.ds_card.specs.CardPorts.{data_port_at}
use Rattle.ds_card.specs.Cards.{card_after_read, card_kept, card_value, card_written, read_raised, start_refusal}
use Rattle.ds_dma.specs.Channels.{channel_refusal, channel_word}
use Rattle.ds_dma.specs.States.{channel_at}
use Rattle.ds_dma.specs.declared.controls.DmaPort.{DmaPort}
use Rattle.ds_dma.specs.declared.controls.DmaPort.TheVariants.{Source, Target, Control}
use Rattle.ds_ipc.specs.Ipcs.{ipc_control_raised, ipc_control_word, ipc_control_written, ipc_receive_raised, ipc_received, ipc_received_word, ipc_send_raised, ipc_sent, ipc_sync_raised, ipc_sync_word, ipc_sync_written, side_of}
use Rattle.ds_ipc.specs.Sides.{control_kept, sync_kept}
use Rattle.ds_math.specs.Dividers.{DividerState, division_started}
use Rattle.ds_math.specs.Roots.{RootState, root_started}
use Rattle.ds_timers.specs.Timing.{counter_of, timer_at}
use Rattle.ds_ports.specs.ProcessorIo.{ProcessorIoState, control_written, dma_written, extkeyin_word, haltcnt_written, ie_written, if_written, ime_written, keycnt_written, keyinput_word, processor_io_raised, reload_written}
use Rattle.ds_ports.specs.Io.{IoState, both_raised, io_of, raised_to, with_io_of}
use Rattle.ds_ports.specs.declared.registers.Register.{Register}
use Rattle.ds_ports.specs.declared.registers.Register.TheVariants.{DisplayHalf, DisplayWord, GxWord, GxCommand, Dmasad, Dmadad, Dmacnt, Dmafill, TmcntL, TmcntH, Keyinput, Keycnt, Extkeyin, Ipcsync, Ipcfifocnt, Ipcfifosend, Ipcfiforecv, Auxspicnt, CardWord, CardData, Ime, Ie, If, Vramcnt, Wramcnt, Vramstat, Wramstat, Divcnt, DivNumer, DivDenom, DivResult, DivremResult, Sqrtcnt, SqrtResult, SqrtParam, Postflg, Haltcnt}
use Rattle.gx_fifo.specs.GxStates.{gx_kept, gx_word, gx_written}
use Rattle.video2d.specs.Kept.{kept_byte}
use Rattle.video2d.specs.Videos.{video_byte, video_written}
use Rattle.vram_banks.specs.BankMap.{kept_bank_control}
use Rattle.vram_banks.specs.Cells.{allotted_of}

-- What each register is, a paragraph each, in the order of GBATEK's list ("DS I/O Maps").

pub record RegisterMeaning : Type 0 where
  -- it is reached by whole words alone: narrower reads give 0, and narrower writes are ignored (our choice)
  pub takes_words : Bool
  -- what it reads, for a processor at a tick
  pub value : Proc → Tick → IoState → ℕ → ℕ
  -- the bits that a write of some of its bytes leaves as they are in the others; bits that act when they are written have 0 here
  pub kept : Proc → IoState → ℕ → ℕ
  -- what a read of the whole of it leaves, for a processor at a tick
  pub after_read : Proc → Tick → IoState → IoState
  -- what a write of all its bytes leaves, for a processor at a tick, by the register's number, of those of its name, and the word that is written
  pub written : Proc → Tick → IoState → ℕ → ℕ → IoState
  -- the stop for which such a write is refused, if it is
  pub refusal : Proc → IoState → ℕ → ℕ → Option Stop

-- ---- how they are made

-- one that reads 0, keeps nothing, and ignores writes
abbrev pub idle : RegisterMeaning
idle = record {
  takes_words = false;
  value = λ proc now u n. 0;
  kept = λ proc u n. 0;
  after_read = λ proc now u. u;
  written = λ proc now u n word. u;
  refusal = λ proc u n word. None;
}

-- one that reads what it keeps
abbrev pub plain : (IoState → ℕ → ℕ) → (IoState → Tick → ℕ → ℕ → IoState) → RegisterMeaning
plain kept written =
    record idle { value = λ proc now u n. kept u n; kept = λ proc u n. kept u n; written = λ proc now u n word. written u now n word }

-- a write that changes what the processor has of its own, by the keys that are pressed
abbrev pub on_own : (Proc → Tick → ℕ → ProcessorIoState → ℕ → ℕ → ProcessorIoState) → Proc → Tick → IoState → ℕ → ℕ → IoState
on_own written proc now u n word = with_io_of proc u (written proc now u.pressed (io_of u proc) n word)

-- such a one of what each processor has of its own
abbrev pub plain_of_processor : (ProcessorIoState → ℕ → ℕ) → (Proc → Tick → ℕ → ProcessorIoState → ℕ → ℕ → ProcessorIoState) → RegisterMeaning
plain_of_processor kept written =
    record idle { value = λ proc now u n. kept (io_of u proc) n; kept = λ proc u n. kept (io_of u proc) n; written = on_own written }

-- ---- what they are made from

-- DMAxSAD, DMAxDAD or DMAxCNT (GBATEK, "DS DMA Transfers")
abbrev pub channel_register : DmaPort → RegisterMeaning
channel_register port = record
    (plain_of_processor (λ processor_io n. channel_word port (channel_at processor_io.dma.channels n))
    (λ proc now pressed processor_io n word. dma_written processor_io now port n word)) {
      refusal = λ proc u n word. channel_refusal (io_of u proc).dma.proc n port word (channel_at (io_of u proc).dma.channels n);
    }

-- the low and the high word of a number of 64 bits, by 0 and 1, and that number with another word there
abbrev pub word_of_two : ℕ → ℕ → ℕ
word_of_two which number = if which == 0 then number % 2 ^ 32 else number / 2 ^ 32

abbrev pub with_word_of_two : ℕ → ℕ → ℕ → ℕ
with_word_of_two which number word = if which == 0 then number / 2 ^ 32 * 2 ^ 32 + word else number % 2 ^ 32 + word * 2 ^ 32

-- what passes to the other processor is written, and interrupts are raised (GBATEK, "DS Inter Process Communication (IPC)")
abbrev pub sync_set : Proc → IoState → ℕ → IoState
sync_set proc u value = both_raised (record u { ipc = ipc_sync_written u.ipc proc value }) (ipc_sync_raised u.ipc proc value)

abbrev pub fifo_control_set : Proc → IoState → ℕ → IoState
fifo_control_set proc u value = both_raised (record u { ipc = ipc_control_written u.ipc proc value }) (ipc_control_raised u.ipc proc value)

abbrev pub word_sent : Proc → IoState → ℕ → IoState
word_sent proc u word = both_raised (record u { ipc = ipc_sent u.ipc proc word }) (ipc_send_raised u.ipc proc)

abbrev pub word_received : Proc → IoState → IoState
word_received proc u = both_raised (record u { ipc = ipc_received u.ipc proc }) (ipc_receive_raised u.ipc proc)

-- one of the card's, of which the number is the offset of its first byte: what it reads, what it keeps, what a write leaves and why one is refused
-- are told where the card is (GBATEK, "DS Cartridge I/O Ports")
abbrev pub card_set : Width → Proc → Tick → IoState → ℕ → ℕ → IoState
card_set width proc now u n word = record u { card = card_written u.card proc n width word now }

abbrev pub card_register : Width → RegisterMeaning
card_register width = record idle {
  value = λ proc now u n. card_value u.card proc n width;
  kept = λ proc u n. card_kept u.card proc n width;
  written = card_set width;
  refusal = λ proc u n word. start_refusal u.card n width word;
}

-- a word of the card's is taken by the processor that started its transfer, which alone hears that the transfer ends (the same chapter)
abbrev pub card_word_taken : Proc → Tick → IoState → IoState
card_word_taken proc now u =
    with_io_of proc (record u { card = card_after_read u.card proc data_port_at Word now })
    (processor_io_raised (io_of u proc) (raised_to proc (read_raised u.card proc data_port_at Word)))

-- a bank's control is written (GBATEK, "DS Memory Control - VRAM")
abbrev pub bank_set : IoState → ℕ → ℕ → IoState
bank_set u bank value = record u { vram = record u.vram { controls = slice_set u.vram.controls bank (kept_bank_control bank value) } }

-- DIVCNT: the mode, the zero flag by the whole denominator in bit 14, and busy in 15; SQRTCNT: wide in bit 0, and busy in 15 (GBATEK, "DS Maths")
abbrev pub divcnt_word : DividerState → ℕ
divcnt_word d = d.mode + flag 14 (d.denominator == 0) + flag 15 (is_some d.due)

abbrev pub sqrtcnt_word : RootState → ℕ
sqrtcnt_word r = flag 0 r.wide + flag 15 (is_some r.due)

-- a write of the divider's control or of an operand starts a division, and one of the root's a square root (the same chapter)
abbrev pub division_set : IoState → Tick → ℕ → ℕ → ℕ → IoState
division_set u now mode numerator denominator = record u { divider = division_started u.divider mode numerator denominator now }

abbrev pub root_set : IoState → Tick → Bool → ℕ → IoState
root_set u now wide value = record u { root = root_started u.root wide value now }

-- HALTCNT's modes 1 and 3 are left out, GBA mode and sleep (GBATEK, "DS Power Control")
abbrev pub halt_refusal : ℕ → Option Stop
halt_refusal value = if (bits 6 2 value == 1) || (bits 6 2 value == 3) then Some (record { kind = HaltMode; value = value }) else None

-- one of the display's, of which the number is the offset of its first byte: what it reads, what it keeps, and what a write leaves, are told
-- byte by byte where the display is
abbrev pub display_register : Width → RegisterMeaning
display_register width = record idle {
  value = λ proc now u n. value_by width (video_byte proc u.video) n;
  kept = λ proc u n. value_by width (kept_byte proc u.video) n;
  written = λ proc now u n word. record u { video = video_written proc u.video n width word };
}

-- one of geometry's, of which the number is the offset of its first byte: what it reads, what it keeps, and what a write leaves, are told where
-- geometry is. ARM9 alone has them.
abbrev pub gx_set : Proc → Tick → IoState → ℕ → ℕ → IoState
gx_set Nine now u n word = record u { gx = gx_written u.gx n word now }
gx_set Seven now u n word = u

abbrev pub gx_register : Bool → RegisterMeaning
gx_register takes_words = record idle {
  takes_words = takes_words;
  value = λ proc now u n. gx_word u.gx n;
  kept = λ proc u n. gx_kept u.gx n;
  written = gx_set;
}

-- ---- the registers

abbrev pub meaning_of : Register → RegisterMeaning
-- the display's (GBATEK, "DS Video", "LCD I/O Interrupts and Status", "DS Power Control"; what of each is kept and read stands with `EnginePort`)
meaning_of DisplayHalf = display_register Half
meaning_of DisplayWord = display_register Word
-- DMA0SAD, DMA0DAD, DMA0CNT to those of channel 3 (GBATEK, "DS DMA Transfers")
meaning_of Dmasad = channel_register Source
meaning_of Dmadad = channel_register Target
meaning_of Dmacnt = channel_register Control
-- DMA0FILL to DMA3FILL (the same chapter)
meaning_of Dmafill = plain (λ u n. slice_index_or u.fill n 0) (λ u now n word. record u { fill = slice_set u.fill n word })
-- TM0CNT_L to TM3CNT_L: a timer's counter, which is written as its reload (GBATEK, "DS Timers")
meaning_of TmcntL = record
    (plain_of_processor (λ processor_io n. (timer_at processor_io.timers n).reload)
    (λ proc now pressed processor_io n word. reload_written processor_io n (word % 2 ^ 16))) {
      value = λ proc now u n. counter_of (timer_at (io_of u proc).timers n) now;
    }
-- TM0CNT_H to TM3CNT_H: its control (the same chapter)
meaning_of TmcntH = plain_of_processor (λ processor_io n. (timer_at processor_io.timers n).control)
    (λ proc now pressed processor_io n word. control_written processor_io n (word % 2 ^ 16) now)
-- KEYINPUT, KEYCNT and EXTKEYIN (GBATEK, "DS Keypad")
meaning_of Keyinput = record idle { value = λ proc now u n. keyinput_word u.pressed }
meaning_of Keycnt = plain_of_processor (λ processor_io n. processor_io.keycnt)
    (λ proc now pressed processor_io n word. keycnt_written processor_io pressed (word % 2 ^ 16))
meaning_of Extkeyin = record idle { value = λ proc now u n. extkeyin_word u.pressed }
-- IPCSYNC (GBATEK, "DS Inter Process Communication (IPC)")
meaning_of Ipcsync = record idle {
  value = λ proc now u n. ipc_sync_word u.ipc proc;
  kept = λ proc u n. sync_kept (side_of u.ipc proc);
  written = λ proc now u n word. sync_set proc u (word % 2 ^ 16);
}
-- IPCFIFOCNT (the same chapter)
meaning_of Ipcfifocnt = record idle {
  value = λ proc now u n. ipc_control_word u.ipc proc;
  kept = λ proc u n. control_kept (side_of u.ipc proc);
  written = λ proc now u n word. fifo_control_set proc u (word % 2 ^ 16);
}
-- IPCFIFOSEND (the same chapter)
meaning_of Ipcfifosend = record idle { takes_words = true; written = λ proc now u n word. word_sent proc u word }
-- IPCFIFORECV: a read takes the word that is received (the same chapter)
meaning_of Ipcfiforecv = record idle {
  takes_words = true;
  value = λ proc now u n. ipc_received_word u.ipc proc;
  after_read = λ proc now u. word_received proc u;
}
-- AUXSPICNT; ROMCTRL and the two words of the command (GBATEK, "DS Cartridge I/O Ports")
meaning_of Auxspicnt = card_register Half
meaning_of CardWord = card_register Word
-- the port by which the card's words are taken (the same chapter)
meaning_of CardData = record idle {
  takes_words = true;
  value = λ proc now u n. card_value u.card proc data_port_at Word;
  after_read = card_word_taken;
}
-- IME, IE and IF (GBATEK, "DS Interrupts")
meaning_of Ime =
    plain_of_processor (λ processor_io n. flag 0 processor_io.irq.ime) (λ proc now pressed processor_io n word. ime_written processor_io word)
meaning_of Ie = plain_of_processor (λ processor_io n. processor_io.irq.ie) (λ proc now pressed processor_io n word. ie_written proc processor_io word)
meaning_of If = record idle {
  value = λ proc now u n. (io_of u proc).irq.if_;
  written = on_own (λ proc now pressed processor_io n word. if_written processor_io word);
}
-- VRAMCNT_A to VRAMCNT_I (GBATEK, "DS Memory Control - VRAM")
meaning_of Vramcnt = record idle { written = λ proc now u n word. bank_set u n (word % 2 ^ 8) }
-- WRAMCNT: bits 0 and 1 are kept (GBATEK, "DS Memory Control - WRAM")
meaning_of Wramcnt = plain (λ u n. u.wramcnt) (λ u now n word. record u { wramcnt = word % 2 ^ 2 })
-- VRAMSTAT: C and D as they are mapped to ARM7 (GBATEK, "DS Memory Control - VRAM")
meaning_of Vramstat = record idle { value = λ proc now u n. allotted_of u.vram.controls }
-- WRAMSTAT (GBATEK, "DS Memory Control - WRAM")
meaning_of Wramstat = record idle { value = λ proc now u n. u.wramcnt }
-- DIVCNT; DIV_NUMER, DIV_DENOM, DIV_RESULT and DIVREM_RESULT, of each its low and its high word (GBATEK, "DS Maths")
meaning_of Divcnt = record idle {
  value = λ proc now u n. divcnt_word u.divider;
  kept = λ proc u n. u.divider.mode;
  written = λ proc now u n word. division_set u now (word % 2 ^ 2) u.divider.numerator u.divider.denominator;
}
meaning_of DivNumer = plain (λ u n. word_of_two n u.divider.numerator)
    (λ u now n word. division_set u now u.divider.mode (with_word_of_two n u.divider.numerator word) u.divider.denominator)
meaning_of DivDenom = plain (λ u n. word_of_two n u.divider.denominator)
    (λ u now n word. division_set u now u.divider.mode u.divider.numerator (with_word_of_two n u.divider.denominator word))
meaning_of DivResult = record idle { value = λ proc now u n. word_of_two n u.divider.quotient }
meaning_of DivremResult = record idle { value = λ proc now u n. word_of_two n u.divider.remainder }
-- SQRTCNT, SQRT_RESULT, and SQRT_PARAM, its low and its high word (the same chapter)
meaning_of Sqrtcnt = record idle {
  value = λ proc now u n. sqrtcnt_word u.root;
  kept = λ proc u n. flag 0 u.root.wide;
  written = λ proc now u n word. root_set u now (bit 0 word) u.root.value;
}
meaning_of SqrtResult = record idle { value = λ proc now u n. u.root.root }
meaning_of SqrtParam = plain (λ u n. word_of_two n u.root.value)
    (λ u now n word. root_set u now u.root.wide (with_word_of_two n u.root.value word))
-- POSTFLG: the boot is over (GBATEK, "DS Power Control"; that nothing else is kept is our choice)
meaning_of Postflg = record idle { value = λ proc now u n. 1 }
-- HALTCNT (the same chapter)
meaning_of Haltcnt = record idle {
  written = on_own (λ proc now pressed processor_io n word. haltcnt_written processor_io (word % 2 ^ 8));
  refusal = λ proc u n word. halt_refusal (word % 2 ^ 8);
}
-- DISP3DCNT, GXSTAT, RAM_COUNT, POS_RESULT, VEC_RESULT, CLIPMTX_RESULT and VECMTX_RESULT (GBATEK, "DS 3D Display Control", "DS 3D Status")
meaning_of GxWord = gx_register false
-- GXFIFO, and the ports of commands: they read 0, and take whole words (GBATEK, "DS 3D Geometry Commands"; the words are our choice)
meaning_of GxCommand = gx_register true

-- ---- what a write leaves

abbrev pub after_write : Proc → Tick → IoState → Register → ℕ → ℕ → IoState
after_write proc now u register n word = (meaning_of register).written proc now u n word
