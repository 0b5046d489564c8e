use Rattle.std.specs.Prelude.{ℕ, ◌+◌, Option, Some, None}
use Rattle.ds_base.specs.declared.left_out.Stop.{Stop}
use Rattle.ds_base.specs.declared.processors.Proc.{Proc}
use Rattle.ds_base.specs.declared.ticks.Tick.{Tick}
use Rattle.ds_dma.specs.Channels.{unit_of}
use Rattle.ds_dma.specs.States.{due_channel}
use Rattle.ds_dma.specs.declared.channels.Unit.{Unit as DmaUnit}
use Rattle.ds_map.specs.Accesses.{map_read, map_refusal, map_value, map_written}
use Rattle.ds_map.specs.Maps.{MapState}
use Rattle.ds_map.specs.Waits.{wait_at}
use Rattle.ds_ports.specs.declared.units.IoParts.{IoParts as IoState}
use Rattle.ds_ports.specs.Io.{channel_moved, io_of}

-- How a DMA channel moves a unit (GBATEK, "DS DMA Transfers"; the order is our choice): it reads it, takes it from its plan with all that taking the
-- last one brings, and then writes it. Where the write is refused all is as it was after the read: the unit is still in the plan. Both accesses wait
-- (our choice), and the processor's next unit comes so much later.

-- the unit that the channel of a processor that is due moves
abbrev pub next_unit : IoState → Proc → DmaUnit
next_unit u proc = unit_of (due_channel (io_of u proc).dma) 0

-- the map after it was read
abbrev pub unit_read : Proc → Tick → DmaUnit → MapState → MapState
unit_read proc now unit m = map_read proc now m unit.from unit.width

-- how long its two accesses wait together, each by the state before it; taking it leaves what WRAMCNT shows
abbrev pub unit_waits : Proc → Tick → DmaUnit → MapState → ℕ
unit_waits proc now unit m =
    wait_at proc m.io.wramcnt unit.from unit.width + wait_at proc (unit_read proc now unit m).io.wramcnt unit.to unit.width

-- the map after it was taken too
abbrev pub unit_taken : Proc → Tick → DmaUnit → MapState → MapState
unit_taken proc now unit m = let read = unit_read proc now unit m in record read { io = channel_moved proc now (unit_waits proc now unit m) read.io }

-- why its write is refused, and the map after all
abbrev pub unit_refusal : Proc → Tick → DmaUnit → MapState → Option Stop
unit_refusal proc now unit m = map_refusal proc (unit_taken proc now unit m) unit.to unit.width (map_value proc now m unit.from unit.width)

abbrev pub map_after_unit : Option Stop → Proc → Tick → DmaUnit → MapState → MapState
map_after_unit None proc now unit m = map_written proc now (unit_taken proc now unit m) unit.to unit.width (map_value proc now m unit.from unit.width)
map_after_unit (Some stop) proc now unit m = unit_read proc now unit m

abbrev pub unit_moved : Proc → Tick → DmaUnit → MapState → MapState
unit_moved proc now unit m = map_after_unit (unit_refusal proc now unit m) proc now unit m
