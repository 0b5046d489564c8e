use Rattle.std.specs.Prelude.{ℕ, ◌+◌, ◌-◌, ◌*◌, ◌/◌, ◌%◌, nat_lt, if◌then◌else◌, List, [], ◌∷◌, ◌++◌, Option, Some, None}
use Rattle.ds_base.specs.declared.processors.Proc.{Proc}
use Rattle.ds_ports.specs.declared.registers.Register.{Register}
use Rattle.ds_ports.specs.declared.registers.Register.TheVariants.{GxCommand, GxWord}
use Rattle.ds_ports.specs.declared.registers.Slot.{Slot}
use Rattle.ds_ports.specs.RegisterMap.{PortRow, of_nine, display_port, slot_by, slot_in, display_control_rows, status_rows, drawing_rows, gx_row, output_rows, dma_rows, fill_row, timer_and_key_rows, more_key_rows, ipc_rows, interrupt_rows, memory_rows, maths_rows, boot_rows, power_rows, geometry_rows, second_engine_rows, receive_rows}
use Rattle.gx_fifo.specs.GxPorts.{display_control_row}
use Rattle.gx_fifo.specs.declared.ports.GxPort.{GxPort}
use Rattle.gx_fifo.specs.declared.ports.GxPort.TheVariants.{Display, Fifo, Direct, Unlisted}
use Rattle.video2d.specs.declared.display_registers.DisplayRow.{DisplayRow}

-- A map is cut into parts, each with the offset at which it ends, so that an offset is looked up in its part alone. No public clause speaks
-- of them.

-- what some rows have at an offset; it doesn't unfold by itself, since the rows are many
unfoldable pub slot_among : List PortRow → ℕ → Option Slot
slot_among rows at = slot_by rows at

-- the byte at an offset of a row of the display's registers, if there is one, whose offset counts from a base
abbrev pub slot_from : ℕ → ℕ → Option DisplayRow → Option Slot
slot_from base at None = None
slot_from base at (Some row) = Some (slot_in (display_port base row) (at - (base + row.first)))

-- the byte at an offset, of the word that it stands in
abbrev pub word_slot : Register → ℕ → Slot
word_slot register at = record { register = register; number = at / 4 * 4; byte = at % 4; bytes = 4 }

-- and by the port of geometry's that it is, past DISP3DCNT
abbrev pub port_slot : GxPort → ℕ → Option Slot
port_slot Display at = None
port_slot Unlisted at = None
port_slot Fifo at = Some (word_slot GxCommand at)
port_slot (Direct code) at = Some (word_slot GxCommand at)
port_slot _ at = Some (word_slot GxWord at)

pub record Part : Type 0 where
  pub limit : ℕ
  pub rows : List PortRow

abbrev pub map_part : ℕ → List PortRow → Part
map_part limit rows = record { limit = limit; rows = rows }

abbrev pub whole : List Part → List PortRow
whole [] = []
whole (p ∷ parts) = p.rows ++ whole parts

abbrev pub looked_up : List Part → ℕ → Option Slot
looked_up [] at = None
looked_up (p ∷ parts) at = if nat_lt at p.limit then slot_among p.rows at else looked_up parts at

abbrev pub low_parts : Proc → List Part
low_parts proc =
    map_part 0x004 (of_nine proc display_control_rows) ∷ map_part 0x008 status_rows ∷ map_part 0x060 (of_nine proc drawing_rows)
    ∷ map_part 0x064 (of_nine proc (gx_row display_control_row ∷ []))
    ∷ map_part 0x0B0 (of_nine proc output_rows) ∷ map_part 0x0E0 dma_rows ∷ map_part 0x100 (of_nine proc (fill_row ∷ []))
    ∷ map_part 0x136 timer_and_key_rows ∷ map_part 0x180 (more_key_rows proc) ∷ map_part 0x200 ipc_rows ∷ []

abbrev pub high_parts : Proc → List Part
high_parts proc =
    map_part 0x240 interrupt_rows ∷ map_part 0x280 (memory_rows proc) ∷ map_part 0x300 (of_nine proc maths_rows) ∷ map_part 0x301 boot_rows
    ∷ map_part 0x400 (power_rows proc) ∷ map_part 0x1000 (of_nine proc geometry_rows) ∷ map_part 0x100000 (of_nine proc second_engine_rows)
    ∷ map_part 0x100014 receive_rows ∷ []

abbrev pub parts_of : Proc → List Part
parts_of proc = low_parts proc ++ high_parts proc
