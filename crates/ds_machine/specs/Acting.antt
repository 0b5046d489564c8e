use Rattle.std.specs.Prelude.{ℕ, ◌==◌, ◌&&◌, ◌||◌, nat_lt, Bool, false, if◌then◌else◌, List, map, Option, Some, None}
use Rattle.ds_base.specs.declared.ticks.Due.{Due}
use Rattle.ds_base.specs.declared.ticks.Tick.{Tick}
use Rattle.ds_ports.specs.Acting.{is_quiet}
use Rattle.ds_runs.specs.Actors.{actors}
use Rattle.ds_runs.specs.Runs.{IsLeast}
use Rattle.ds_runs.specs.declared.actors.Actor as actor
use Rattle.ds_runs.specs.declared.actors.Actor.TheVariants.{Geometry}
use Rattle.ds_machine.specs.Hearing.{geometry_rank}
use Rattle.ds_machine.specs.Reference.{due_by}
use Rattle.ds_machine.specs.States.{MachineState}

-- Who acts: all actors that are due, but quiet geometry. Our choice.

-- when an acting actor is due
abbrev pub acting_due : actor.Actor → MachineState → Option Tick
acting_due Geometry s = if is_quiet s.io then None else due_by Geometry s
acting_due a s = due_by a s

-- by rank
unfoldable pub acting_dues : MachineState → List (Option Tick)
acting_dues s = map (λ (a : actor.Actor). acting_due a s) actors

-- this is the least acting actor, and it is due then
abbrev pub IsActing : MachineState → Due → Type 0
IsActing s due = IsLeast (acting_dues s) due.tick due.rank

-- quiet geometry is due before the place of a rank at a tick: its next step is earlier
abbrev pub is_due_before : Option Tick → ℕ → ℕ → Bool
is_due_before None tick rank = false
is_due_before (Some due) tick rank = nat_lt due.0 tick || ((due.0 == tick) && nat_lt geometry_rank rank)

abbrev pub is_behind : ℕ → ℕ → MachineState → Bool
is_behind tick rank s = is_quiet s.io && is_due_before s.io.gx.due tick rank
