use Rattle.std.specs.Prelude.{ℕ, ◌≡◌, Bool, true, false, if◌then◌else◌, List, [], ◌∷◌, ◌++◌, length}
use Rattle.ds_base.specs.Deeds.{pick}
use Rattle.ds_base.specs.declared.left_out.LeftOut.{LeftOut}
use Rattle.ds_base.specs.declared.processors.Proc.TheVariants.{Nine, Seven}
use Rattle.ds_runs.specs.Runs.{MachineStep, Makes, Stops}
use Rattle.ds_runs.specs.declared.actors.Actor as actor
use Rattle.ds_runs.specs.declared.actors.Actor.TheVariants.{KeyScript, Video, Timer, Divider, SquareRoot, Geometry, Card, Dma, Processor}
use Rattle.ds_map.specs.ShareLaws.{is_beyond_seven, is_shown_to_nine}
use Rattle.ds_ports.specs.declared.units.IoParts.{IoParts as IoState}
use Rattle.ds_ports.specs.Touches as parts
use Rattle.ds_ports.specs.Touches.{UnitPart, Display, VideoMemory, BankControls, WramControl, IpcNine, IpcSeven, Pressed, Fill, Division, Released, IrqNine, IrqSeven, TimersNine, TimersSeven, KeycntNine, KeycntSeven, HaltNine, HaltSeven, DmaNine, DmaSeven, beyond, io_graft, irq_of, timers_of}
use Rattle.vram_banks.specs.MixLaws.{mixed}
use Rattle.ds_machine.specs.Reference.{Shown, past_stall, reference_step, step_by}
use Rattle.ds_machine.specs.States.{MachineState}
use Rattle.ds_machine.specs.Statuses.{left_by}

-- What each actor's step touches: a table beside the reference. It is no part of what the console does, but follows from it, and is proved of each
-- row: a step depends on no other parts of the machine than those of its rows, and changes no others than those that its row of changes says.
-- (Settling and waking, which follow a step, aren't part of it.)

-- ---- the parts of the machine past the units behind the ports, whose parts have names of their own

pub data MachinePart : Type 0 where
  -- of each processor its registers, the tick at which it is due, and the count of its steps
  RegistersNine : MachinePart
  DueNine : MachinePart
  StepsNine : MachinePart
  RegistersSeven : MachinePart
  DueSeven : MachinePart
  StepsSeven : MachinePart
  -- CP15 and the tightly coupled memories; ARM7's own work RAM; main memory; palettes and OAM
  Cp15 : MachinePart
  Itcm : MachinePart
  Dtcm : MachinePart
  OwnRam : MachinePart
  MainRam : MachinePart
  PaletteRam : MachinePart
  OamRam : MachinePart
  -- the lines of the key script that are to come; the count of events; the cartridge's file
  KeyLines : MachinePart
  Events : MachinePart
  CartFile : MachinePart

-- one part is another
abbrev pub is_machine_part : MachinePart → MachinePart → Bool
is_machine_part RegistersNine RegistersNine = true
is_machine_part DueNine DueNine = true
is_machine_part StepsNine StepsNine = true
is_machine_part RegistersSeven RegistersSeven = true
is_machine_part DueSeven DueSeven = true
is_machine_part StepsSeven StepsSeven = true
is_machine_part Cp15 Cp15 = true
is_machine_part Itcm Itcm = true
is_machine_part Dtcm Dtcm = true
is_machine_part OwnRam OwnRam = true
is_machine_part MainRam MainRam = true
is_machine_part PaletteRam PaletteRam = true
is_machine_part OamRam OamRam = true
is_machine_part KeyLines KeyLines = true
is_machine_part Events Events = true
is_machine_part CartFile CartFile = true
is_machine_part _ _ = false

-- in none of a list
abbrev pub past_parts : List MachinePart → MachinePart → Bool
past_parts [] p = true
past_parts (q ∷ qs) p = if is_machine_part q p then false else past_parts qs p

-- ---- the table

-- Shared work RAM and video memory are touched by the byte: none; all of video memory; what ARM7 reaches as they are shared out; all of both.
pub data TouchedBytes : Type 0 where
  NoBytes : TouchedBytes
  VideoBytes : TouchedBytes
  BytesOfSeven : TouchedBytes
  BytesOfBoth : TouchedBytes

-- so much of the units, of the rest of the machine, and of those bytes
pub record Reached : Type 0 where
  pub units : List UnitPart
  pub rest : List MachinePart
  pub bytes : TouchedBytes

abbrev pub reaching : List UnitPart → List MachinePart → TouchedBytes → Reached
reaching units rest bytes = record { units = units; rest = rest; bytes = bytes }

-- what ARM7's registers and memories have: all but these ARM9 has alone
abbrev pub seven_shows : List UnitPart
seven_shows = BankControls ∷ WramControl ∷ []

abbrev pub seven_changes : List UnitPart
seven_changes =
    Display ∷ VideoMemory ∷ IpcNine ∷ IpcSeven ∷ Pressed ∷ parts.Card ∷ IrqNine ∷ IrqSeven ∷ TimersSeven ∷ KeycntSeven ∷ HaltSeven ∷ DmaSeven ∷ []

-- ARM9 and its channels may reach any unit
abbrev pub all_units : List UnitPart
all_units =
    Fill ∷ Division ∷ parts.SquareRoot ∷ parts.Geometry ∷ Released ∷ TimersNine ∷ KeycntNine ∷ HaltNine ∷ DmaNine ∷ seven_shows ++ seven_changes

-- what each actor's step may change
abbrev pub changed_by : actor.Actor → Reached
changed_by KeyScript = reaching (Pressed ∷ IrqNine ∷ IrqSeven ∷ []) (KeyLines ∷ Events ∷ []) NoBytes
changed_by Video = reaching (Display ∷ parts.Geometry ∷ IrqNine ∷ IrqSeven ∷ DmaNine ∷ DmaSeven ∷ []) (Events ∷ []) NoBytes
changed_by (Timer proc number) = reaching (timers_of proc ∷ irq_of proc ∷ []) (Events ∷ []) NoBytes
changed_by Divider = reaching (Division ∷ []) (Events ∷ []) NoBytes
changed_by SquareRoot = reaching (parts.SquareRoot ∷ []) (Events ∷ []) NoBytes
changed_by Geometry = reaching (parts.Geometry ∷ Released ∷ []) (DueNine ∷ Events ∷ []) NoBytes
changed_by Card = reaching (parts.Card ∷ IrqNine ∷ IrqSeven ∷ DmaNine ∷ DmaSeven ∷ []) (Events ∷ []) NoBytes
changed_by (Dma Nine channel) = reaching all_units (DueNine ∷ MainRam ∷ PaletteRam ∷ OamRam ∷ Events ∷ []) BytesOfBoth
changed_by (Dma Seven channel) = reaching seven_changes (DueSeven ∷ OwnRam ∷ MainRam ∷ Events ∷ []) BytesOfSeven
changed_by (Processor Nine) =
    reaching all_units (RegistersNine ∷ DueNine ∷ StepsNine ∷ Cp15 ∷ Itcm ∷ Dtcm ∷ MainRam ∷ PaletteRam ∷ OamRam ∷ []) BytesOfBoth
changed_by (Processor Seven) = reaching seven_changes (RegistersSeven ∷ DueSeven ∷ StepsSeven ∷ OwnRam ∷ MainRam ∷ []) BytesOfSeven

-- and what it uses beside
abbrev pub used_by : actor.Actor → Reached
used_by KeyScript = reaching (KeycntNine ∷ KeycntSeven ∷ []) [] NoBytes
used_by Video = reaching (BankControls ∷ []) (PaletteRam ∷ OamRam ∷ []) VideoBytes
used_by Geometry = reaching (HaltNine ∷ []) [] NoBytes
used_by Card = reaching [] (CartFile ∷ []) NoBytes
used_by (Dma Seven channel) = reaching seven_shows [] NoBytes
used_by (Processor Seven) = reaching seven_shows [] NoBytes
used_by a = reaching [] [] NoBytes

-- ---- sets of parts

-- of a memory's bytes every one, none, or those at some places
pub data ByteSet : Type 0 where
  EveryByte : ByteSet
  NoByte : ByteSet
  BytesWhere : (ℕ → Bool) → ByteSet

pub record PartSet : Type 0 where
  pub units : UnitPart → Bool
  pub rest : MachinePart → Bool
  pub shared : ByteSet
  pub vram : ByteSet

-- the bytes of shared work RAM, and of video memory, past those that are touched, as a machine shares them out
abbrev pub shared_past : MachineState → TouchedBytes → ByteSet
shared_past s NoBytes = EveryByte
shared_past s VideoBytes = EveryByte
shared_past s BytesOfSeven = BytesWhere (is_shown_to_nine s.io.wramcnt)
shared_past s BytesOfBoth = NoByte

abbrev pub vram_past : MachineState → TouchedBytes → ByteSet
vram_past s NoBytes = EveryByte
vram_past s VideoBytes = NoByte
vram_past s BytesOfSeven = BytesWhere (is_beyond_seven s.io.vram.controls)
vram_past s BytesOfBoth = NoByte

abbrev pub all_past : MachineState → List UnitPart → List MachinePart → TouchedBytes → PartSet
all_past s units rest bytes = record { units = beyond units; rest = past_parts rest; shared = shared_past s bytes; vram = vram_past s bytes }

-- what an actor's step leaves, and what it doesn't touch (who uses bytes of video memory and changes none is the display)
abbrev pub unchanged_by : actor.Actor → MachineState → PartSet
unchanged_by a s = let row = changed_by a in all_past s row.units row.rest row.bytes

abbrev pub either_bytes : TouchedBytes → TouchedBytes → TouchedBytes
either_bytes NoBytes bytes = bytes
either_bytes used bytes = used

abbrev pub untouched_by : actor.Actor → MachineState → PartSet
untouched_by a s =
    let used = used_by a in
    let row = changed_by a in all_past s (used.units ++ row.units) (used.rest ++ row.rest) (either_bytes used.bytes row.bytes)

-- ---- a machine, of which some parts are another's

abbrev pub bytes_from : ByteSet → List ℕ → List ℕ → List ℕ
bytes_from EveryByte theirs own = theirs
bytes_from NoByte theirs own = own
bytes_from (BytesWhere is) theirs own = mixed is theirs own

abbrev pub with_video_bytes : List ℕ → IoState → IoState
with_video_bytes bytes u = record u { vram = record u.vram { bytes = bytes } }

abbrev pub machine_graft : PartSet → MachineState → MachineState → MachineState
machine_graft P t s = record {
  nine = record {
    processor = record {
      registers = pick (P.rest RegistersNine) t.nine.processor.registers s.nine.processor.registers;
      due = pick (P.rest DueNine) t.nine.processor.due s.nine.processor.due;
      steps = pick (P.rest StepsNine) t.nine.processor.steps s.nine.processor.steps;
    };
    cp15 = pick (P.rest Cp15) t.nine.cp15 s.nine.cp15;
    itcm = pick (P.rest Itcm) t.nine.itcm s.nine.itcm;
    dtcm = pick (P.rest Dtcm) t.nine.dtcm s.nine.dtcm;
  };
  seven = record {
    processor = record {
      registers = pick (P.rest RegistersSeven) t.seven.processor.registers s.seven.processor.registers;
      due = pick (P.rest DueSeven) t.seven.processor.due s.seven.processor.due;
      steps = pick (P.rest StepsSeven) t.seven.processor.steps s.seven.processor.steps;
    };
    wram = pick (P.rest OwnRam) t.seven.wram s.seven.wram;
  };
  main = pick (P.rest MainRam) t.main s.main;
  shared = bytes_from P.shared t.shared s.shared;
  palette = pick (P.rest PaletteRam) t.palette s.palette;
  oam = pick (P.rest OamRam) t.oam s.oam;
  io = with_video_bytes (bytes_from P.vram t.io.vram.bytes s.io.vram.bytes) (io_graft P.units t.io s.io);
  keys = pick (P.rest KeyLines) t.keys s.keys;
  events = pick (P.rest Events) t.events s.events;
  file = pick (P.rest CartFile) t.file s.file;
}

-- what a step comes to, on machines that are changed so
abbrev pub step_with : (MachineState → MachineState) → MachineStep MachineState Shown LeftOut → MachineStep MachineState Shown LeftOut
step_with put (Makes next outs) = Makes (put next) outs
step_with put (Stops stop left) = Stops stop (put left)

-- ---- the law

-- the memories that are shared out have as many bytes
pub record IsAsLong (t s : MachineState) : Type 0 where
  pub shared : length t.shared ≡ length s.shared
  pub vram : length t.io.vram.bytes ≡ length s.io.vram.bytes

-- with all that an actor's step doesn't touch from any other machine it comes to the same, and leaves what it left, with that; and it leaves all
-- that it doesn't change
pub record TouchesAsTold (rank : ℕ) (a : actor.Actor) (s : MachineState) : Type 0 where
  pub passes : (t : MachineState) → IsAsLong t s
      → step_by rank a (machine_graft (untouched_by a s) t s) ≡ step_with (machine_graft (untouched_by a s) t) (step_by rank a s)
  pub leaves : machine_graft (unchanged_by a s) s (left_by (step_by rank a s)) ≡ left_by (step_by rank a s)

abbrev pub EachTouches : Type 0
EachTouches = (rank : ℕ) (a : actor.Actor) (s : MachineState) → TouchesAsTold rank a s

-- the cartridge's file is the same after every step, settling and waking among it
abbrev pub StepsKeepFile : Type 0
StepsKeepFile = (rank : ℕ) (s : MachineState) → (left_by (reference_step rank s)).file ≡ s.file

-- geometry changes the tick at which ARM9 is due: it is past the end of a stall, whatever it was, and all else comes to the same
abbrev pub with_nine_due : ℕ → MachineState → MachineState
with_nine_due due s = record s { nine = record s.nine { processor = record s.nine.processor { due = due } } }

abbrev pub GeometryDelays : Type 0
GeometryDelays = (rank due : ℕ) (s : MachineState)
    → step_by rank Geometry (with_nine_due due s) ≡ step_with (with_nine_due (past_stall s.io due)) (step_by rank Geometry s)
