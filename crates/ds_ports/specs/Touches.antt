use Rattle.std.specs.Prelude.{not, Bool, true, false, if◌then◌else◌, List, [], ◌∷◌, ◌++◌}
use Rattle.ds_base.specs.Deeds.{pick}
use Rattle.ds_base.specs.declared.processors.Proc.{Proc}
use Rattle.ds_base.specs.declared.processors.Proc.TheVariants.{Nine, Seven}
use Rattle.ds_ports.specs.Io.{IoState}
use Rattle.ds_ports.specs.declared.registers.Register.{Register}
use Rattle.ds_ports.specs.declared.registers.Register.TheVariants.{DisplayHalf, DisplayWord, GxWord, GxCommand, Dmasad, Dmadad, Dmacnt, Dmafill, TmcntL, TmcntH, Keyinput, Keycnt, Extkeyin, Ipcsync, Ipcfifocnt, Ipcfifosend, Ipcfiforecv, Auxspicnt, CardWord, CardData, Ime, Ie, If, Vramcnt, Wramcnt, Vramstat, Wramstat, Divcnt, DivNumer, DivDenom, DivResult, DivremResult, Sqrtcnt, SqrtResult, SqrtParam, Postflg, Haltcnt}

-- What each register touches: a column beside the register map. It is no part of what the console does, but follows from it, and is proved of each
-- row: a register depends on no other parts of the units than those of its row, and an access of it changes no others than those that the row says.

-- ---- the parts of the units: each is what some register, event or due tick may use without the rest

pub data UnitPart : Type 0 where
  -- the display; the bytes of video memory, and VRAMCNT, which shares them out; WRAMCNT
  Display : UnitPart
  VideoMemory : UnitPart
  BankControls : UnitPart
  WramControl : UnitPart
  -- what each processor has sent, with its control of the FIFO
  IpcNine : UnitPart
  IpcSeven : UnitPart
  -- the keys that are pressed; the words of DMAxFILL; the card; the divider; the square root unit
  Pressed : UnitPart
  Fill : UnitPart
  Card : UnitPart
  Division : UnitPart
  SquareRoot : UnitPart
  -- the geometry engine with what waits for it; the tick before which ARM9's DMA isn't due
  Geometry : UnitPart
  Released : UnitPart
  -- of each processor its interrupt words, its timers, KEYCNT, whether it is halted, and its DMA channels
  IrqNine : UnitPart
  IrqSeven : UnitPart
  TimersNine : UnitPart
  TimersSeven : UnitPart
  KeycntNine : UnitPart
  KeycntSeven : UnitPart
  HaltNine : UnitPart
  HaltSeven : UnitPart
  DmaNine : UnitPart
  DmaSeven : UnitPart

-- units, of which some parts are another's
abbrev pub io_graft : (UnitPart → Bool) → IoState → IoState → IoState
io_graft P t s = record {
  video = pick (P Display) t.video s.video;
  vram = record { bytes = pick (P VideoMemory) t.vram.bytes s.vram.bytes; controls = pick (P BankControls) t.vram.controls s.vram.controls };
  wramcnt = pick (P WramControl) t.wramcnt s.wramcnt;
  ipc = record { nine = pick (P IpcNine) t.ipc.nine s.ipc.nine; seven = pick (P IpcSeven) t.ipc.seven s.ipc.seven };
  pressed = pick (P Pressed) t.pressed s.pressed;
  fill = pick (P Fill) t.fill s.fill;
  card = pick (P Card) t.card s.card;
  divider = pick (P Division) t.divider s.divider;
  root = pick (P SquareRoot) t.root s.root;
  gx = pick (P Geometry) t.gx s.gx;
  released = pick (P Released) t.released s.released;
  nine = record {
    irq = pick (P IrqNine) t.nine.irq s.nine.irq;
    timers = pick (P TimersNine) t.nine.timers s.nine.timers;
    keycnt = pick (P KeycntNine) t.nine.keycnt s.nine.keycnt;
    halted = pick (P HaltNine) t.nine.halted s.nine.halted;
    dma = pick (P DmaNine) t.nine.dma s.nine.dma;
  };
  seven = record {
    irq = pick (P IrqSeven) t.seven.irq s.seven.irq;
    timers = pick (P TimersSeven) t.seven.timers s.seven.timers;
    keycnt = pick (P KeycntSeven) t.seven.keycnt s.seven.keycnt;
    halted = pick (P HaltSeven) t.seven.halted s.seven.halted;
    dma = pick (P DmaSeven) t.seven.dma s.seven.dma;
  };
}

-- ---- sets of parts

-- one part is another
abbrev pub is_part : UnitPart → UnitPart → Bool
is_part Display Display = true
is_part VideoMemory VideoMemory = true
is_part BankControls BankControls = true
is_part WramControl WramControl = true
is_part IpcNine IpcNine = true
is_part IpcSeven IpcSeven = true
is_part Pressed Pressed = true
is_part Fill Fill = true
is_part Card Card = true
is_part Division Division = true
is_part SquareRoot SquareRoot = true
is_part Geometry Geometry = true
is_part Released Released = true
is_part IrqNine IrqNine = true
is_part IrqSeven IrqSeven = true
is_part TimersNine TimersNine = true
is_part TimersSeven TimersSeven = true
is_part KeycntNine KeycntNine = true
is_part KeycntSeven KeycntSeven = true
is_part HaltNine HaltNine = true
is_part HaltSeven HaltSeven = true
is_part DmaNine DmaNine = true
is_part DmaSeven DmaSeven = true
is_part _ _ = false

-- in a list; in none of it
abbrev pub among : List UnitPart → UnitPart → Bool
among [] p = false
among (q ∷ qs) p = if is_part q p then true else among qs p

abbrev pub beyond : List UnitPart → UnitPart → Bool
beyond qs p = if among qs p then false else true

-- ---- a processor's own

abbrev pub irq_of : Proc → UnitPart
irq_of Nine = IrqNine
irq_of Seven = IrqSeven

abbrev pub timers_of : Proc → UnitPart
timers_of Nine = TimersNine
timers_of Seven = TimersSeven

abbrev pub keycnt_of : Proc → UnitPart
keycnt_of Nine = KeycntNine
keycnt_of Seven = KeycntSeven

abbrev pub halt_of : Proc → UnitPart
halt_of Nine = HaltNine
halt_of Seven = HaltSeven

abbrev pub dma_of : Proc → UnitPart
dma_of Nine = DmaNine
dma_of Seven = DmaSeven

-- ---- the table

-- what a register shows of the units, or needs for what a write leaves; and what an access of it may change
pub record TouchRow : Type 0 where
  pub shows : List UnitPart
  pub changes : List UnitPart

abbrev pub touch_row : List UnitPart → List UnitPart → TouchRow
touch_row shows changes = record { shows = shows; changes = changes }

-- one that is read alone, one that shows the part that it changes, and one that touches nothing
abbrev pub shows_alone : UnitPart → TouchRow
shows_alone p = touch_row (p ∷ []) []

abbrev pub kept_in : UnitPart → TouchRow
kept_in p = touch_row (p ∷ []) (p ∷ [])

abbrev pub untouching : TouchRow
untouching = touch_row [] []

-- what passes between the processors may interrupt both
abbrev pub both_sides : List UnitPart
both_sides = IpcNine ∷ IpcSeven ∷ IrqNine ∷ IrqSeven ∷ []

-- for a processor, by register, in the order of GBATEK's list ("DS I/O Maps")
abbrev pub touch_of : Proc → Register → TouchRow
touch_of proc DisplayHalf = kept_in Display
touch_of proc DisplayWord = kept_in Display
touch_of proc Dmasad = kept_in (dma_of proc)
touch_of proc Dmadad = kept_in (dma_of proc)
touch_of proc Dmacnt = kept_in (dma_of proc)
touch_of proc Dmafill = kept_in Fill
touch_of proc TmcntL = kept_in (timers_of proc)
touch_of proc TmcntH = kept_in (timers_of proc)
touch_of proc Keyinput = shows_alone Pressed
touch_of proc Keycnt = touch_row (Pressed ∷ keycnt_of proc ∷ irq_of proc ∷ []) (keycnt_of proc ∷ irq_of proc ∷ [])
touch_of proc Extkeyin = shows_alone Pressed
touch_of proc Ipcsync = touch_row both_sides both_sides
touch_of proc Ipcfifocnt = touch_row both_sides both_sides
touch_of proc Ipcfifosend = touch_row both_sides both_sides
touch_of proc Ipcfiforecv = touch_row both_sides both_sides
touch_of proc Auxspicnt = kept_in Card
touch_of proc CardWord = kept_in Card
touch_of proc CardData = touch_row (irq_of proc ∷ []) (Card ∷ irq_of proc ∷ [])
touch_of proc Ime = kept_in (irq_of proc)
touch_of proc Ie = kept_in (irq_of proc)
touch_of proc If = kept_in (irq_of proc)
touch_of proc Vramcnt = kept_in BankControls
touch_of proc Wramcnt = kept_in WramControl
touch_of proc Vramstat = shows_alone BankControls
touch_of proc Wramstat = shows_alone WramControl
touch_of proc Divcnt = kept_in Division
touch_of proc DivNumer = kept_in Division
touch_of proc DivDenom = kept_in Division
touch_of proc DivResult = shows_alone Division
touch_of proc DivremResult = shows_alone Division
touch_of proc Sqrtcnt = kept_in SquareRoot
touch_of proc SqrtResult = shows_alone SquareRoot
touch_of proc SqrtParam = kept_in SquareRoot
touch_of proc Postflg = untouching
touch_of proc Haltcnt = kept_in (halt_of proc)
touch_of proc GxWord = kept_in Geometry
touch_of proc GxCommand = kept_in Geometry

-- ---- questions to the table

-- no part of a list is in a set
abbrev pub none_of : (UnitPart → Bool) → List UnitPart → Bool
none_of P [] = true
none_of P (p ∷ ps) = if P p then false else none_of P ps

-- a register touches no part of a set
abbrev pub touches_none : (UnitPart → Bool) → Proc → Register → Bool
touches_none P proc r = none_of P ((touch_of proc r).shows ++ (touch_of proc r).changes)

-- a register may change some part of a set
abbrev pub changes_some : (UnitPart → Bool) → Proc → Register → Bool
changes_some P proc r = not (none_of P (touch_of proc r).changes)
