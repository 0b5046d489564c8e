use Rattle.std.specs.Prelude.{ℕ, ◌||◌, Bool, true, false, Option, None, Some}
use Rattle.ds_base.specs.declared.processors.Proc.TheVariants.{Nine}
use Rattle.ds_ports.specs.RegisterMap.{slot_of}
use Rattle.ds_ports.specs.declared.registers.Register.{Register}
use Rattle.ds_ports.specs.declared.registers.Register.TheVariants.{Dmacnt, GxCommand, GxWord}
use Rattle.ds_ports.specs.declared.registers.Slot.{Slot}
use Rattle.gx_fifo.specs.GxPorts.{is_engine_port}

-- The observed ports of ARM9: of geometry's registers, of which DISP3DCNT is one, and of a DMA channel's control. They show how far geometry is,
-- give it something to do, or make it heard (GBATEK, "DS 3D I/O Map" and "DS DMA Transfers"; our choice of which).
abbrev pub is_observed_register : Register → Bool
is_observed_register GxWord = true
is_observed_register GxCommand = true
is_observed_register Dmacnt = true
is_observed_register _ = false

abbrev pub is_observed_slot : Option Slot → Bool
is_observed_slot None = false
is_observed_slot (Some slot) = is_observed_register slot.register

-- by the offset of a byte from 4000000h; what is no register's among geometry's ports is observed too
abbrev pub is_observed_port : ℕ → Bool
is_observed_port at = is_engine_port at || is_observed_slot (slot_of Nine at)
