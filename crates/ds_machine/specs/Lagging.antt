use Rattle.std.specs.Prelude.{ℕ, ◌+◌, ◌*◌, ◌≡◌, ◌≢◌, ◌<◌, ◌≤◌, ◌⊎◌, ◌↔◌, ◌&&◌, ◌||◌, not, Bool, true, false, List, [], ◌∷◌, ◌++◌, Some}
use Rattle.std.specs.List.{list_any}
use Rattle.ds_base.specs.Accesses.{Access, Fetch, Read, Write}
use Rattle.ds_base.specs.declared.left_out.LeftOut.{LeftOut}
use Rattle.ds_base.specs.declared.processors.Proc.TheVariants.{Nine}
use Rattle.ds_base.specs.declared.ticks.Tick.{Tick}
use Rattle.arm_core.specs.Steps.{enters, fetched}
use Rattle.cp15_tcm.specs.TightlyCoupled.{tcm_of}
use Rattle.cp15_tcm.specs.declared.answers.Tcm.{Tcm}
use Rattle.cp15_tcm.specs.declared.answers.Tcm.TheVariants.{Past}
use Rattle.ds_map.specs.Moves.{next_unit}
use Rattle.ds_map.specs.ObservedPorts.{is_observed_port}
use Rattle.ds_map.specs.Views.{NineReach, nine_memory}
use Rattle.ds_places.specs.AddressTables.{place_of}
use Rattle.ds_places.specs.declared.kinds.Place.{Place}
use Rattle.ds_places.specs.declared.kinds.Place.TheVariants.{Port}
use Rattle.ds_ports.specs.declared.units.IoParts.{IoParts as IoState}
use Rattle.ds_runs.specs.Actors.{actor_of}
use Rattle.ds_runs.specs.Runs.{Ending, IsLeast, Makes, Runs, Stopped, Stops, due_at}
use Rattle.ds_runs.specs.declared.actors.Actor as actor
use Rattle.ds_runs.specs.declared.actors.Actor.TheVariants.{Dma, Geometry, Processor, Video}
use Rattle.video2d.specs.Scans.{starts_vblank}
use Rattle.ds_machine.specs.Acting.{acting_dues, is_behind}
use Rattle.ds_machine.specs.Sides.{data_accesses, nine_step}
use Rattle.ds_machine.specs.Hearing.{geometry_rank}
use Rattle.ds_machine.specs.Reference.{Shown, reference, reference_step}
use Rattle.ds_machine.specs.Sound.{IsSound}
use Rattle.ds_machine.specs.States.{MachineState}
use Rattle.ds_machine.specs.Steps.{line_of, nine_reach, tick_of}

-- Geometry may lag: while nobody sees how far it is, others step though its steps are due before theirs; it catches up before a step that observes
-- it. Our choice.

-- ---- steps that observe geometry

-- a place is an observed port
abbrev pub is_observed_place : Place → Bool
is_observed_place (Port at) = is_observed_port at
is_observed_place place = false

-- ARM9 reads or writes such a port past its tightly coupled memories; a fetch is neither
abbrev pub is_observed_past : Tcm → ℕ → ℕ → Bool
is_observed_past Past wramcnt at = is_observed_place (place_of Nine wramcnt at)
is_observed_past tcm wramcnt at = false

abbrev pub access_observes : NineReach → Access → Bool
access_observes r (Fetch at width) = false
access_observes r (Read at width) = is_observed_past (tcm_of r.cp15 at false false) r.map.io.wramcnt at
access_observes r (Write at width value) = is_observed_past (tcm_of r.cp15 at true false) r.map.io.wramcnt at

abbrev pub any_observes : NineReach → List Access → Bool
any_observes r accesses = list_any (access_observes r) accesses

-- ARM9's next step does, by the accesses that its instruction makes: none where its condition fails, and none where an interrupt is entered
abbrev pub nine_observes : MachineState → Bool
nine_observes s =
    let r = nine_reach (tick_of s.nine.processor) s in
    let registers = s.nine.processor.registers in
    not (enters (line_of s Nine) registers)
    && any_observes r (data_accesses nine_step.arch (nine_step.base r) registers (fetched nine_memory nine_step.arch registers r).instr)

-- the next unit of ARM9's channels does
abbrev pub channel_observes : IoState → Bool
channel_observes u =
    let unit = next_unit u Nine in is_observed_place (place_of Nine u.wramcnt unit.from) || is_observed_place (place_of Nine u.wramcnt unit.to)

-- an actor's next step observes geometry; the display's at the start of line 192, where lists are swapped
abbrev pub observes_by : actor.Actor → MachineState → Bool
observes_by Video s = starts_vblank s.io.video.scan
observes_by (Dma Nine channel) s = channel_observes s.io
observes_by (Processor Nine) s = nine_observes s
observes_by a s = false

-- ---- catching up

-- some steps of quiet geometry, one after another, each due before the place of a rank at a tick
pub data TakesGeometry (tick rank : ℕ) : MachineState → MachineState → Type 0 where
  no_geometry : (start : MachineState) → TakesGeometry tick rank start start
  more_geometry : (start before next : MachineState) → TakesGeometry tick rank start before → is_behind tick rank before ≡ true
      → reference_step geometry_rank before ≡ Makes next []
      → TakesGeometry tick rank start next

-- all of them: geometry caught up with that place
pub record CatchesUp (tick rank : ℕ) (s caught : MachineState) : Type 0 where
  pub steps : TakesGeometry tick rank s caught
  pub level : is_behind tick rank caught ≡ false

-- it does where a step observes it
abbrev pub CatchesUpIf : Bool → ℕ → ℕ → MachineState → MachineState → Type 0
CatchesUpIf true tick rank s caught = CatchesUp tick rank s caught
CatchesUpIf false tick rank s caught = caught ≡ s

-- what comes before the step that the actor of a rank takes at a tick
abbrev pub CatchesUpFor : ℕ → ℕ → MachineState → MachineState → Type 0
CatchesUpFor tick rank s caught = CatchesUpIf (observes_by (actor_of rank) s) tick rank s caught

-- no actor acts before a place
abbrev pub ComesBeforeAll : ℕ → ℕ → MachineState → Type 0
ComesBeforeAll tick rank s = (other : ℕ) (at : Tick) → due_at (acting_dues s) other ≡ Some at → (tick < at.0) ⊎ ((tick ≡ at.0) × (rank ≤ other))

-- then catching up with it changes neither where a run past it ends nor what that run puts out
abbrev pub CatchingUpRuns : Type 0
CatchingUpRuns = (s caught : MachineState) (tick rank limit : ℕ) → IsSound s → ComesBeforeAll tick rank s → CatchesUp tick rank s caught
    → 24 * tick + rank ≤ 24 * limit
    → (end : Ending MachineState LeftOut) (outs : List Shown) → Runs reference limit end s outs ↔ Runs reference limit end caught outs

-- ---- what lagging comes to

-- the least acting actor, whose step doesn't observe geometry
pub record ActsUnobserving (s : MachineState) (rank : ℕ) (tick : Tick) : Type 0 where
  pub least : IsLeast (acting_dues s) tick rank
  pub unobserving : observes_by (actor_of rank) s ≡ false

-- on a sound machine, and it isn't geometry itself
pub record StepsBeforeGeometry (s : MachineState) (rank : ℕ) (tick : Tick) : Type 0 where
  pub sound : IsSound s
  pub acts : ActsUnobserving s rank tick
  pub other : actor_of rank ≢ Geometry

-- taken before quiet geometry's steps that are due before it, it changes neither where a run to a later tick ends nor what that run puts out
abbrev pub LagRuns : Type 0
LagRuns = (s next : MachineState) (rank : ℕ) (tick : Tick) (limit : ℕ) (outs : List Shown) → StepsBeforeGeometry s rank tick → tick.0 < limit
    → reference_step rank s ≡ Makes next outs
    → (end : Ending MachineState LeftOut) (rest : List Shown) → Runs reference limit end s (outs ++ rest) ↔ Runs reference limit end next rest

-- and where it stops the machine, the run stops so
abbrev pub LagStops : Type 0
LagStops = (s after : MachineState) (rank : ℕ) (tick : Tick) (limit : ℕ) (stop : LeftOut) → StepsBeforeGeometry s rank tick → tick.0 < limit
    → reference_step rank s ≡ Stops stop after
    → Runs reference limit (Stopped stop) s []
