use Rattle.std.specs.Prelude.{ℕ, ◌-◌, nat_lt, if◌then◌else◌, Bool, false, Option, None}
use Rattle.ds_base.specs.declared.left_out.Stop.{Stop}
use Rattle.ds_base.specs.declared.memories.Width.{Width}
use Rattle.ds_base.specs.declared.processors.Proc.{Proc}
use Rattle.ds_base.specs.declared.processors.Proc.TheVariants.{Nine, Seven}
use Rattle.ds_base.specs.declared.ticks.Tick.{Tick}
use Rattle.gx_fifo.specs.Entries.{most_entries}
use Rattle.gx_fifo.specs.GxStates.{waiting_entries}
use Rattle.ds_ports.specs.Io.{IoState}
use Rattle.ds_ports.specs.Ports.{port_refusal, port_written, unless_stopped}

-- The code's form of a write of a port (our choice of form): what waits for geometry has a fixed size, `most_entries`, and a write of ARM9's adds
-- four entries at most, so one is ignored that comes while there may be no room for them. The machine makes none then: no public clause of it
-- speaks of this.

abbrev pub is_overfull : Proc → IoState → Bool
is_overfull Nine u = nat_lt (most_entries - 4) (waiting_entries u.gx)
is_overfull Seven u = false

abbrev pub guarded_refusal : Proc → IoState → ℕ → Width → ℕ → Option Stop
guarded_refusal proc u at width value = if is_overfull proc u then None else port_refusal proc u at width value

abbrev pub guarded_written : Proc → Tick → IoState → ℕ → Width → ℕ → IoState
guarded_written proc now u at width value =
    if is_overfull proc u then u else unless_stopped (port_refusal proc u at width value) u (port_written proc now u at width value)
