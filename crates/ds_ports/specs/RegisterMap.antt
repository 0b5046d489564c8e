use Rattle.std.specs.Prelude.{ℕ, ◌≡◌, ◌<◌, ◌≤◌, ◌⊎◌, ◌+◌, ◌-◌, ◌*◌, ◌/◌, ◌%◌, ◌==◌, nat_le, nat_lt, ◌&&◌, if◌then◌else◌, List, map, [], ◌∷◌, ◌++◌, Option, Some, None}
use Rattle.ds_base.specs.declared.processors.Proc.{Proc}
use Rattle.ds_base.specs.declared.processors.Proc.TheVariants.{Nine, Seven}
use Rattle.ds_ports.specs.declared.registers.Register.{Register}
use Rattle.ds_ports.specs.declared.registers.Register.TheVariants.{DisplayHalf, DisplayWord, GxWord, GxCommand, Dmasad, Dmadad, Dmacnt, Dmafill, TmcntL, TmcntH, Keyinput, Keycnt, Extkeyin, Ipcsync, Ipcfifocnt, Ipcfifosend, Ipcfiforecv, Auxspicnt, CardWord, CardData, Ime, Ie, If, Vramcnt, Wramcnt, Vramstat, Wramstat, Divcnt, DivNumer, DivDenom, DivResult, DivremResult, Sqrtcnt, SqrtResult, SqrtParam, Postflg, Haltcnt}
use Rattle.ds_ports.specs.declared.registers.Slot.{Slot}
use Rattle.gx_fifo.specs.GxPorts.{GxPortRow, display_control_row, engine_rows, vector_matrix_row}
use Rattle.video2d.specs.DisplayRegisters.{control_registers, display_row, drawing_registers, engine_base, engine_bytes, engine_registers, output_registers}
use Rattle.video2d.specs.declared.display_registers.DisplayRegister.{DisplayRegister}
use Rattle.video2d.specs.declared.display_registers.DisplayRegister.TheVariants.{Dispstat, Vcount, Powcnt1}
use Rattle.video2d.specs.declared.display_registers.DisplayRow.{DisplayRow}
use Rattle.video2d.specs.declared.engines.Engine.TheVariants.{A, B}

-- The register map (GBATEK, "DS I/O Maps"): the offset from 4000000h, how many bytes each register of the row has, and what they are; GBATEK's names
-- stand beside. A row that both processors have stands once. Offsets that no row has aren't ports of this console.

-- how many registers stand there one after another, and by their place among them, counted from 0, which register each is, and which of its name
pub record PortRow : Type 0 where
  pub offset : ℕ
  pub bytes : ℕ
  pub count : ℕ
  pub register : ℕ → Register
  pub number : ℕ → ℕ

-- registers of one name
abbrev pub port_row : ℕ → ℕ → ℕ → Register → PortRow
port_row offset bytes count register = record { offset = offset; bytes = bytes; count = count; register = λ place. register; number = λ place. place }

-- those whose numbers are their offsets, by which the unit knows them
abbrev pub by_offset : ℕ → ℕ → ℕ → Register → PortRow
by_offset offset bytes count register = record (port_row offset bytes count register) { number = λ place. offset + bytes * place }

-- the display's, by the rows of its own table and the base from which their offsets count
abbrev pub display_port : ℕ → DisplayRow → PortRow
display_port base row = by_offset (base + row.first) row.bytes row.count (if row.bytes == 4 then DisplayWord else DisplayHalf)

abbrev pub display_ports : ℕ → List DisplayRegister → List PortRow
display_ports base [] = []
display_ports base (register ∷ registers) = display_port base (display_row register) ∷ display_ports base registers

-- geometry's, by the rows of its own table
abbrev pub gx_row : GxPortRow → PortRow
gx_row row = by_offset row.first 4 row.words (if row.takes_commands then GxCommand else GxWord)

-- so many times two registers, or three, in turn
abbrev pub two_in_turn : ℕ → ℕ → ℕ → Register → Register → PortRow
two_in_turn offset bytes times first second = record (port_row offset bytes (2 * times) first) {
  register = λ place. if place % 2 == 0 then first else second;
  number = λ place. place / 2;
}

abbrev pub three_in_turn : ℕ → ℕ → ℕ → Register → Register → Register → PortRow
three_in_turn offset bytes times first second third = record (port_row offset bytes (3 * times) first) {
  register = λ place. if place % 3 == 0 then first else (if place % 3 == 1 then second else third);
  number = λ place. place / 3;
}

-- ---- the rows, in the order of their offsets; those that both processors have stand once

-- rows that ARM9 alone has
abbrev pub of_nine : Proc → List PortRow → List PortRow
of_nine Nine rows = rows
of_nine Seven rows = []

-- engine A's, between which each processor's status and the 3D engine's control stand
abbrev pub display_control_rows : List PortRow
display_control_rows = display_ports (engine_base A) control_registers

abbrev pub status_rows : List PortRow
status_rows = display_ports 0 (Dispstat ∷ Vcount ∷ [])

abbrev pub drawing_rows : List PortRow
drawing_rows = display_ports (engine_base A) drawing_registers

abbrev pub output_rows : List PortRow
output_rows = display_ports (engine_base A) (output_registers A)

abbrev pub dma_rows : List PortRow
dma_rows = three_in_turn 0x0B0 4 4 Dmasad Dmadad Dmacnt ∷ []  -- DMA0SAD, DMA0DAD, DMA0CNT to DMA3SAD, DMA3DAD, DMA3CNT

abbrev pub fill_row : PortRow
fill_row = port_row 0x0E0 4 4 Dmafill  -- DMA0FILL to DMA3FILL

abbrev pub timer_and_key_rows : List PortRow
timer_and_key_rows =
    two_in_turn 0x100 2 4 TmcntL TmcntH  -- TM0CNT_L, TM0CNT_H to TM3CNT_L, TM3CNT_H
    ∷ port_row 0x130 2 1 Keyinput  -- KEYINPUT
    ∷ port_row 0x132 2 1 Keycnt  -- KEYCNT
    ∷ []

abbrev pub more_key_rows : Proc → List PortRow
more_key_rows Nine = []
more_key_rows Seven = port_row 0x136 2 1 Extkeyin ∷ []  -- EXTKEYIN

abbrev pub ipc_rows : List PortRow
ipc_rows =
    port_row 0x180 2 1 Ipcsync  -- IPCSYNC
    ∷ port_row 0x184 2 1 Ipcfifocnt  -- IPCFIFOCNT
    ∷ port_row 0x188 4 1 Ipcfifosend  -- IPCFIFOSEND
    ∷ by_offset 0x1A0 2 1 Auxspicnt  -- AUXSPICNT
    ∷ by_offset 0x1A4 4 3 CardWord  -- ROMCTRL, and the card's command, its first and its second word
    ∷ []

abbrev pub interrupt_rows : List PortRow
interrupt_rows =
    port_row 0x208 4 1 Ime  -- IME
    ∷ port_row 0x210 4 1 Ie  -- IE
    ∷ port_row 0x214 4 1 If  -- IF
    ∷ []

abbrev pub memory_rows : Proc → List PortRow
memory_rows Nine =
    port_row 0x240 1 7 Vramcnt  -- VRAMCNT_A to VRAMCNT_G
    ∷ port_row 0x247 1 1 Wramcnt  -- WRAMCNT
    ∷ record (port_row 0x248 1 2 Vramcnt) { number = λ place. 7 + place }  -- VRAMCNT_H, VRAMCNT_I
    ∷ []
memory_rows Seven =
    port_row 0x240 1 1 Vramstat  -- VRAMSTAT
    ∷ port_row 0x241 1 1 Wramstat  -- WRAMSTAT
    ∷ []

abbrev pub maths_rows : List PortRow
maths_rows =
    port_row 0x280 4 1 Divcnt  -- DIVCNT
    ∷ port_row 0x290 4 2 DivNumer  -- DIV_NUMER, its low and its high word
    ∷ port_row 0x298 4 2 DivDenom  -- DIV_DENOM, the same
    ∷ port_row 0x2A0 4 2 DivResult  -- DIV_RESULT, the same
    ∷ port_row 0x2A8 4 2 DivremResult  -- DIVREM_RESULT, the same
    ∷ port_row 0x2B0 4 1 Sqrtcnt  -- SQRTCNT
    ∷ port_row 0x2B4 4 1 SqrtResult  -- SQRT_RESULT
    ∷ port_row 0x2B8 4 2 SqrtParam  -- SQRT_PARAM, its low and its high word
    ∷ []

abbrev pub boot_rows : List PortRow
boot_rows = port_row 0x300 1 1 Postflg ∷ []  -- POSTFLG

abbrev pub power_rows : Proc → List PortRow
power_rows Nine = display_ports 0 (Powcnt1 ∷ [])
power_rows Seven = port_row 0x301 1 1 Haltcnt ∷ []  -- HALTCNT

abbrev pub geometry_rows : List PortRow
geometry_rows = map gx_row engine_rows  -- GXFIFO to VECMTX_RESULT

abbrev pub second_engine_rows : List PortRow
second_engine_rows = display_ports (engine_base B) (engine_registers B)

abbrev pub receive_rows : List PortRow
receive_rows =
    port_row 0x100000 4 1 Ipcfiforecv  -- IPCFIFORECV
    ∷ port_row 0x100010 4 1 CardData  -- the card's data
    ∷ []

-- ---- the map of each

abbrev pub register_map : Proc → List PortRow
register_map proc =
    of_nine proc display_control_rows ++ status_rows ++ of_nine proc drawing_rows ++ of_nine proc (gx_row display_control_row ∷ [])
    ++ of_nine proc output_rows ++ dma_rows ++ of_nine proc (fill_row ∷ [])
    ++ timer_and_key_rows ++ more_key_rows proc ++ ipc_rows
    ++ interrupt_rows ++ memory_rows proc
    ++ of_nine proc maths_rows
    ++ boot_rows ++ power_rows proc
    ++ of_nine proc geometry_rows
    ++ of_nine proc second_engine_rows
    ++ receive_rows

-- ---- what stands at an offset

-- how many bytes a row has
abbrev pub row_bytes : PortRow → ℕ
row_bytes r = r.count * r.bytes

-- a register of a row, and which of its bytes stands so many bytes into the row
abbrev pub slot_in : PortRow → ℕ → Slot
slot_in r offset = record { register = r.register (offset / r.bytes); number = r.number (offset / r.bytes); byte = offset % r.bytes; bytes = r.bytes }

-- the register whose byte stands at an offset, by the row that has it
abbrev pub slot_by : List PortRow → ℕ → Option Slot
slot_by [] at = None
slot_by (r ∷ rows) at = if nat_le r.offset at && nat_lt at (r.offset + row_bytes r) then Some (slot_in r (at - r.offset)) else slot_by rows at

unfoldable pub slot_of : Proc → ℕ → Option Slot
slot_of proc at = slot_by (register_map proc) at

-- registers of one name are told apart by a number below this: from 0 on, or by the offset of the first byte of the display's, geometry's and the
-- card's
abbrev pub numbers_of : Register → ℕ
numbers_of DisplayHalf = engine_base B + engine_bytes
numbers_of DisplayWord = engine_base B + engine_bytes
numbers_of GxWord = vector_matrix_row.first + 4 * vector_matrix_row.words
numbers_of GxCommand = vector_matrix_row.first + 4 * vector_matrix_row.words
numbers_of Dmasad = 4
numbers_of Dmadad = 4
numbers_of Dmacnt = 4
numbers_of Dmafill = 4
numbers_of TmcntL = 4
numbers_of TmcntH = 4
numbers_of Auxspicnt = 0x1B0
numbers_of CardWord = 0x1B0
numbers_of Vramcnt = 9
numbers_of DivNumer = 2
numbers_of DivDenom = 2
numbers_of DivResult = 2
numbers_of DivremResult = 2
numbers_of SqrtParam = 2
numbers_of _ = 1

-- what holds of each byte of a register
pub record IsSlot (s : Slot) : Type 0 where
  pub number : s.number < numbers_of s.register
  pub byte : s.byte < s.bytes
  pub bytes : s.bytes ≤ 4

-- ---- a law of the maps: each register stands at a multiple of its width, and its bytes follow one another from there on

abbrev pub IsWidth : ℕ → Type 0
IsWidth n = (n ≡ 1) ⊎ ((n ≡ 2) ⊎ (n ≡ 4))

pub record StandsWhole (proc : Proc) (at : ℕ) (s : Slot) : Type 0 where
  pub bytes : IsWidth s.bytes
  pub first : s.byte ≤ at
  pub byte : s.byte < s.bytes
  pub multiple : (at - s.byte) % s.bytes ≡ 0
  pub together : (i : ℕ) → i < s.bytes → slot_of proc (at - s.byte + i) ≡ Some (record s { byte = i })
