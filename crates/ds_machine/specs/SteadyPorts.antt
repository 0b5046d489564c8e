use Rattle.std.specs.Prelude.{ℕ, ◌+◌, ◌-◌, ◌&&◌, ◌||◌, nat_le, nat_lt, not, Bool}
use Rattle.ds_places.specs.AddressTables.{ports_region}
use Rattle.ds_ports.specs.RegisterMap.{fill_row}
use Rattle.gx_fifo.specs.GxPorts.{display_control_row, is_engine_port}

-- What the code says of ports of which a read changes nothing. No public clause speaks of it.

-- an offset from 4000000h where no port is observed: below DISP3DCNT, or past DMA's controls and not among geometry's ports
abbrev pub is_apart : ℕ → Bool
is_apart at = nat_lt at display_control_row.first || (nat_le fill_row.offset at && not (is_engine_port at))

-- an address of such a port from 4000000h to 40FFFFFh, where each read of a port that isn't observed leaves all units as they are
-- (IPCFIFORECV, of which a read takes a word, stands at 4100000h)
abbrev pub is_steady_port : ℕ → Bool
is_steady_port at = (nat_le ports_region.first at && nat_lt at (ports_region.first + 0x100000)) && is_apart (at - ports_region.first)
