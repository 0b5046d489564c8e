use Rattle.std.specs.Prelude.{List, [], ◌∷◌, map, Option, None}
use Rattle.ds_base.specs.declared.processors.Proc.{Proc}
use Rattle.ds_base.specs.declared.processors.Proc.TheVariants.{Nine, Seven}
use Rattle.ds_base.specs.declared.ticks.Tick.{Tick}
use Rattle.ds_card.specs.Cards.{card_due_for}
use Rattle.ds_ports.specs.Acting.{acting_io_due}
use Rattle.ds_ports.specs.Dues.{io_due}
use Rattle.ds_ports.specs.declared.units.IoParts.{IoParts as IoState}
use Rattle.ds_runs.specs.Actors.{actors}
use Rattle.ds_runs.specs.declared.actors.Actor as actor
use Rattle.ds_runs.specs.declared.actors.Actor.TheVariants.{KeyScript, Video, Timer, Geometry, Card, Dma}
use Rattle.ds_machine.specs.Reference.{keys_due}
use Rattle.ds_machine.specs.States.{MachineState}

-- When those act that may halt a processor, wake it or make it wait. No public clause speaks of it.

-- what is a processor's, for that processor
abbrev pub of_proc : Proc → Proc → Option Tick → Option Tick
of_proc Nine Nine due = due
of_proc Nine Seven due = None
of_proc Seven Nine due = None
of_proc Seven Seven due = due

abbrev pub fence_due : MachineState → Proc → actor.Actor → Option Tick
fence_due s proc KeyScript = keys_due s.keys
fence_due s proc Video = io_due Video s.io
fence_due s proc (Timer each number) = of_proc each proc (io_due (Timer each number) s.io)
fence_due s proc Geometry = of_proc Nine proc (acting_io_due Geometry s.io)
fence_due s proc Card = card_due_for proc s.io.card
fence_due s proc (Dma each channel) = of_proc each proc (io_due (Dma each channel) s.io)
fence_due s proc a = None

-- by rank
unfoldable pub fence_dues : MachineState → Proc → List (Option Tick)
fence_dues s proc = map (fence_due s proc) actors

-- a processor's timers and channels
abbrev pub timer_dues : IoState → Proc → List (Option Tick)
timer_dues u proc = io_due (Timer proc 0) u ∷ io_due (Timer proc 1) u ∷ io_due (Timer proc 2) u ∷ io_due (Timer proc 3) u ∷ []

abbrev pub channel_dues : IoState → Proc → List (Option Tick)
channel_dues u proc = io_due (Dma proc 0) u ∷ io_due (Dma proc 1) u ∷ io_due (Dma proc 2) u ∷ io_due (Dma proc 3) u ∷ []
