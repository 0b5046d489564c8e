use Rattle.std.specs.Prelude.{ℕ, ◌+◌, ◌*◌, ◌&&◌, max, Bool, true, false, if◌then◌else◌, [], Option, Some, None}
use Rattle.ds_base.specs.Processors.{ticks_per_clock}
use Rattle.ds_base.specs.declared.left_out.LeftOut.{LeftOut}
use Rattle.ds_base.specs.declared.left_out.Stop.{Stop}
use Rattle.ds_base.specs.declared.processors.Proc.{Proc}
use Rattle.ds_base.specs.declared.processors.Proc.TheVariants.{Nine, Seven}
use Rattle.arm_core.specs.Effects.{Outcome}
use Rattle.arm_core.specs.declared.outcomes.Stepped as arm
use Rattle.arm_core.specs.declared.outcomes.Stepped.TheVariants.{Cost, Halted, Left}
use Rattle.ds_base.specs.declared.ticks.Tick.{Tick}
use Rattle.ds_dma.specs.declared.channels.LastUnit.{LastUnit}
use Rattle.ds_map.specs.Maps.{MapState, bytes_by}
use Rattle.ds_map.specs.Views.{NineReach, SevenReach, nine_memory, seven_memory}
use Rattle.ds_ports.specs.declared.units.IoParts.{IoParts as IoState}
use Rattle.ds_ports.specs.Io.{io_of, is_held, settled, with_halted}
use Rattle.ds_timers.specs.Irqs.{line_is_up, shares_bit}
use Rattle.ds_runs.specs.Runs.{MachineStep, Makes, Stops}
use Rattle.ds_machine.specs.Sides.{nine_step, seven_step, waits_of_step, taken}
use Rattle.ds_machine.specs.States.{MachineState, ProcessorState}

-- A processor's step in the machine.

abbrev pub processor_of : MachineState → Proc → ProcessorState
processor_of s Nine = s.nine.processor
processor_of s Seven = s.seven.processor

abbrev pub with_processor : Proc → MachineState → ProcessorState → MachineState
with_processor Nine s p = record s { nine = record s.nine { processor = p } }
with_processor Seven s p = record s { seven = record s.seven { processor = p } }

-- the tick at which a processor is due
abbrev pub tick_of : ProcessorState → Tick
tick_of p = record { 0 = p.due }

-- what a processor reaches of the machine past the tightly coupled memories: what the other alone reaches has no bytes there
abbrev pub map_of : Proc → MachineState → MapState
map_of proc s = record {
  memories = record {
    main = s.main;
    shared = s.shared;
    wram = bytes_by proc [] s.seven.wram;
    palette = bytes_by proc s.palette [];
    oam = bytes_by proc s.oam [];
  };
  io = s.io;
}

-- the machine with what a processor, or a DMA channel of it, left of that; what the other alone reaches is as it was
abbrev pub with_map : Proc → MachineState → MapState → MachineState
with_map proc s m = record s {
  seven = record s.seven { wram = bytes_by proc s.seven.wram m.memories.wram };
  main = m.memories.main;
  shared = m.memories.shared;
  palette = bytes_by proc m.memories.palette s.palette;
  oam = bytes_by proc m.memories.oam s.oam;
  io = m.io;
}

-- whether a processor is halted; whether it is blocked, so that it isn't due: it is halted, a channel of it runs, or a stall of geometry holds it;
-- and whether its interrupt line is up
abbrev pub is_halted : MachineState → Proc → Bool
is_halted s proc = (io_of s.io proc).halted

abbrev pub is_blocked : MachineState → Proc → Bool
is_blocked s proc = is_held s.io proc

abbrev pub line_of : MachineState → Proc → Bool
line_of s proc = line_is_up (io_of s.io proc).irq

-- what each processor reaches of the machine at a tick
abbrev pub nine_reach : Tick → MachineState → NineReach
nine_reach now s = record { map = map_of Nine s; cp15 = s.nine.cp15; itcm = s.nine.itcm; dtcm = s.nine.dtcm; now = now }

abbrev pub seven_reach : Tick → MachineState → SevenReach
seven_reach now s = record { map = map_of Seven s; now = now }

-- the machine with what a step of ARM9's, or of ARM7's, left of registers and of what it reaches
abbrev pub with_nine : MachineState → Outcome NineReach → MachineState
with_nine s o = record (with_map Nine s o.state.map) {
  nine = record {
    processor = record s.nine.processor { registers = o.registers };
    cp15 = o.state.cp15;
    itcm = o.state.itcm;
    dtcm = o.state.dtcm;
  };
}

abbrev pub with_seven : MachineState → Outcome SevenReach → MachineState
with_seven s o = record (with_map Seven s o.state.map) {
  seven = record { processor = record s.seven.processor { registers = o.registers }; wram = o.state.map.memories.wram };
}

-- what a step comes to, its cost in ticks: that of its class, in the processor's clocks, and its waits
abbrev pub in_ticks : Proc → ℕ → arm.Stepped → arm.Stepped
in_ticks proc waits (Cost clocks) = Cost (ticks_per_clock proc * clocks + waits)
in_ticks proc waits (Halted clocks) = Halted (ticks_per_clock proc * clocks + waits)
in_ticks proc waits (Left stop) = Left stop

-- what a processor's step at a tick comes to, by ticks, and the machine with what it left
pub record StepOutcome : Type 0 where
  pub machine : MachineState
  pub stepped : arm.Stepped

abbrev pub outcome_of : Proc → Tick → MachineState → StepOutcome
outcome_of Nine now s =
    let line = line_of s Nine in let old = s.nine.processor.registers in let r = nine_reach now s in
    let o = taken nine_memory nine_step line old r in
    record { machine = with_nine s o; stepped = in_ticks Nine (waits_of_step nine_memory nine_step line old r) o.stepped }
outcome_of Seven now s =
    let line = line_of s Seven in let old = s.seven.processor.registers in let r = seven_reach now s in
    let o = taken seven_memory seven_step line old r in
    record { machine = with_seven s o; stepped = in_ticks Seven (waits_of_step seven_memory seven_step line old r) o.stepped }

-- the machine with other units behind the ports
abbrev pub with_io : MachineState → IoState → MachineState
with_io s io = record s { io = io }

-- a processor is halted, or isn't
abbrev pub with_halt : Proc → MachineState → Bool → MachineState
with_halt proc s halted = with_io s (with_halted proc s.io halted)

-- A processor after a step that costs so many ticks. While it is halted the tick at which its next step is due is 0: it goes on after the
-- tick at which it wakes, whatever it had before.
abbrev pub went_on : ℕ → Bool → ProcessorState → ProcessorState
went_on ticks halted p = record p { due = if halted then 0 else p.due + ticks; steps = p.steps + 1 }

-- the machine by what a processor's step came to
abbrev pub gone_by : Proc → arm.Stepped → MachineState → MachineState
gone_by proc (Cost ticks) s = with_processor proc s (went_on ticks (is_halted s proc) (processor_of s proc))
gone_by proc (Halted ticks) s = with_processor proc (with_halt proc s true) (went_on ticks true (processor_of s proc))
gone_by proc (Left stop) s = s

-- the stop of the actor of a rank at a tick, for what it needs that is left out
abbrev pub stopped_at : ℕ → Tick → Stop → LeftOut
stopped_at rank now stop = record { kind = stop.kind; tick = now; rank = rank; value = stop.value }

-- the machine's step, by what the processor came to, on the machine that it left
abbrev pub machine_concluded : {O : Type 0} → ℕ → Proc → MachineState → arm.Stepped → MachineStep MachineState O LeftOut
machine_concluded rank proc s (Left stop) = Stops (stopped_at rank (tick_of (processor_of s proc)) stop) s
machine_concluded rank proc s stepped = Makes (gone_by proc stepped s) []

-- its step, at the tick at which it is due
abbrev pub processor_step : {O : Type 0} → ℕ → Proc → MachineState → MachineStep MachineState O LeftOut
processor_step rank proc s = let o = outcome_of proc (tick_of (processor_of s proc)) s in machine_concluded rank proc o.machine o.stepped

-- ---- after a tick, and after a processor's last unit of DMA

-- a processor goes on after a tick at the earliest, and once the waits of its last unit are over (our choice)
abbrev pub past_unit : Option LastUnit → Tick → ℕ
past_unit None now = now.0 + 1
past_unit (Some last) now = max (now.0 + 1) (last.tick.0 + last.waits + 1)

abbrev pub due_past_unit : MachineState → Proc → Tick → ℕ
due_past_unit s proc now = past_unit (io_of s.io proc).dma.last now

-- ---- waking: where a halted processor's IE and IF share a bit after a step at a tick, it goes on after it, whatever IME is (our choice)

abbrev pub wakes : MachineState → Proc → Bool
wakes s proc = is_halted s proc && shares_bit (io_of s.io proc).irq

abbrev pub goes_on : Proc → Tick → MachineState → MachineState
goes_on proc tick s = with_processor proc (with_halt proc s false) (record (processor_of s proc) { due = due_past_unit s proc tick })

abbrev pub woken_one : Proc → Tick → MachineState → MachineState
woken_one proc tick s = if wakes s proc then goes_on proc tick s else s

abbrev pub woken : Tick → MachineState → MachineState
woken tick s = woken_one Seven tick (woken_one Nine tick s)

-- What follows each step that is taken at a tick: the units behind the ports settle, and then halted processors wake that are to (our choice of
-- order: a level that rises at a step wakes at it).

abbrev pub machine_settled : Tick → MachineState → MachineState
machine_settled tick s = with_io s (settled tick s.io)

unfoldable pub ended : Tick → MachineState → MachineState
ended tick s = woken tick (machine_settled tick s)
