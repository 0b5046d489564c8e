use Rattle.std.specs.Prelude.{ℕ, ◌+◌, max, Bool, if◌then◌else◌, [], Option, Some, None}
use Rattle.ds_base.specs.declared.left_out.LeftOut.{LeftOut}
use Rattle.ds_base.specs.declared.left_out.Stop.{Stop}
use Rattle.ds_base.specs.declared.processors.Proc.{Proc}
use Rattle.ds_base.specs.declared.ticks.Tick.{Tick}
use Rattle.ds_map.specs.Moves.{next_unit, unit_moved, unit_refusal}
use Rattle.ds_runs.specs.Runs.{MachineStep, Makes, Stops}
use Rattle.ds_machine.specs.States.{MachineState, ProcessorState}
use Rattle.ds_machine.specs.Steps.{is_halted, map_of, due_past_unit, processor_of, stopped_at, with_map, with_processor}

-- The event of a DMA channel.

-- another event was taken
abbrev pub one_event : MachineState → MachineState
one_event s = record s { events = s.events + 1 }

-- a processor is due at a tick at the earliest: so it is after each unit that a channel of it moves and the unit's waits (our choice); one that is
-- halted isn't due, and has 0 there
abbrev pub past_tick : Bool → ℕ → ProcessorState → ProcessorState
past_tick halted least p = record p { due = if halted then 0 else max p.due least }

abbrev pub delayed_past : Proc → Tick → MachineState → MachineState
delayed_past proc now s = with_processor proc s (past_tick (is_halted s proc) (due_past_unit s proc now) (processor_of s proc))

-- by why the write of its unit is refused, on the machine that this left
abbrev pub moved_by : {O : Type 0} → ℕ → Proc → Tick → Option Stop → MachineState → MachineStep MachineState O LeftOut
moved_by rank proc now None s = Makes (one_event (delayed_past proc now s)) []
moved_by rank proc now (Some stop) s = Stops (stopped_at rank now stop) s

-- the event of the channel of a processor that is due, at its tick; a channel that isn't due has none
abbrev pub channel_step : {O : Type 0} → ℕ → Proc → Option Tick → MachineState → MachineStep MachineState O LeftOut
channel_step rank proc None s = Makes s []
channel_step rank proc (Some now) s =
    let unit = next_unit s.io proc in moved_by rank proc now (unit_refusal proc now unit (map_of proc s))
    (with_map proc s (unit_moved proc now unit (map_of proc s)))
