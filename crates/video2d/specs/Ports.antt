use Rattle.std.specs.Prelude.{ℕ, ◌<◌, ◌-◌, if◌then◌else◌}
use Rattle.ds_base.specs.Numbers.{is_within}
use Rattle.ds_base.specs.declared.processors.Proc.{Proc}
use Rattle.ds_base.specs.declared.processors.Proc.TheVariants.{Nine, Seven}
use Rattle.video2d.specs.DisplayRegisters.{engine_base, engine_bytes, display_offset, has_byte, display_row}
use Rattle.video2d.specs.declared.display_registers.DisplayRegister.TheVariants.{Dispstat, Powcnt1, Vcount}
use Rattle.video2d.specs.declared.engines.Engine.TheVariants.{A, B}
use Rattle.video2d.specs.declared.ports.VideoPort.{VideoPort}
use Rattle.video2d.specs.declared.ports.VideoPort.TheVariants.{Status, Count, OfEngine, Power, Nothing}

-- What stands at an offset from 4000000h (GBATEK, "DS I/O Maps"): engine A's registers and engine B's, by the same list, both ARM9's alone, as is
-- POWCNT1; each processor's DISPSTAT; VCOUNT.

abbrev pub port_of_one : Proc → ℕ → VideoPort
port_of_one Nine at =
    if is_within (engine_base A) engine_bytes at then OfEngine A (at - engine_base A)
    else (if has_byte (display_row Powcnt1) at then Power (at - display_offset Powcnt1)
    else (if is_within (engine_base B) engine_bytes at then OfEngine B (at - engine_base B) else Nothing))
port_of_one Seven at = Nothing

abbrev pub video_port : Proc → ℕ → VideoPort
video_port proc at =
    if has_byte (display_row Dispstat) at then Status (at - display_offset Dispstat)
    else (if has_byte (display_row Vcount) at then Count (at - display_offset Vcount) else port_of_one proc at)

-- no public clause speaks of it
abbrev pub IsInPorts : VideoPort → Type 0
IsInPorts (OfEngine which at) = at < engine_bytes
IsInPorts (Status byte) = Unit {0}
IsInPorts (Count byte) = Unit {0}
IsInPorts (Power byte) = Unit {0}
IsInPorts Nothing = Unit {0}
