use Rattle.std.specs.Prelude.{ℕ, ◌+◌, ◌-◌, ◌^◌, ◌≡◌, ◌<◌, Bool, true, false, if◌then◌else◌, List, ◌∷◌, Option, Some, max, min, []}
use Rattle.ds_base.specs.declared.processors.Proc.{Proc}
use Rattle.ds_base.specs.declared.processors.Proc.TheVariants.{Nine, Seven}
use Rattle.ds_base.specs.declared.ticks.Tick.{Tick}
use Rattle.ds_ports.specs.Acting.{acting_io_dues}
use Rattle.ds_ports.specs.Dues.{io_dues}
use Rattle.ds_ports.specs.Io.{is_settled}
use Rattle.ds_ipc.specs.Ipcs.{other_proc}
use Rattle.ds_runs.specs.Runs.{IsOver, Makes, due_at}
use Rattle.ds_runs.specs.declared.actors.Actor.TheVariants.{Processor}
use Rattle.ds_machine.specs.CountingLaws.{IsRunning, last_limit}
use Rattle.ds_machine.specs.Lagging.{observes_by}
use Rattle.ds_machine.specs.Private.{rank_of}
use Rattle.ds_machine.specs.Reference.{keys_due, reference_step}
use Rattle.ds_machine.specs.Sound.{AreAsleep}
use Rattle.ds_machine.specs.States.{MachineState}
use Rattle.ds_machine.specs.Steps.{is_blocked, line_of, processor_of}
use Rattle.ds_machine.specs.TurnSteps.{BelongsToTurn, TakesSteps}
use Rattle.ds_machine.specs.TurnLaws.{HasLimit, IsTurnEnd, own_remaining}
use Rattle.ds_machine.specs.declared.going.Gone.{Gone}
use Rattle.ds_machine.specs.declared.going.Gone.TheVariants as gone
use Rattle.ds_machine.specs.declared.next_events.Ends.{Ends}
use Rattle.ds_machine.specs.declared.next_events.NextEvent.{NextEvent}

-- What is kept between steps of the fast path. No public clause speaks of it.

-- when each actor but the processors is due, by rank; and when each of them acts
abbrev pub events_of : MachineState → List (Option Tick)
events_of s = keys_due s.keys ∷ io_dues s.io

abbrev pub acting_events_of : MachineState → List (Option Tick)
acting_events_of s = keys_due s.keys ∷ acting_io_dues s.io

-- the earliest tick at which a processor may be due: past all ticks of a run while it is blocked
abbrev pub least_of : Bool → ℕ
least_of blocked = if blocked then 2 ^ 64 - 1 else 0

-- when a processor is due; past all ticks of a run while it is blocked
abbrev pub due_at_least : ℕ → ℕ → ℕ
due_at_least least due = max due least

-- what is kept of one processor
abbrev pub least_kept : NextEvent → Proc → ℕ
least_kept next_event Nine = next_event.nine_least
least_kept next_event Seven = next_event.seven_least

abbrev pub line_kept : NextEvent → Proc → Bool
line_kept next_event Nine = next_event.nine_line
line_kept next_event Seven = next_event.seven_line

-- when a processor is due by it
abbrev pub waits_until : NextEvent → MachineState → Proc → ℕ
waits_until next_event s proc = due_at_least (least_kept next_event proc) (processor_of s proc).due

-- the first tick at which a processor doesn't come before the other any more: ARM9 does at equal ticks too
abbrev pub past_other : Proc → ℕ → ℕ
past_other Nine other = min (other + 1) (2 ^ 64 - 1)
past_other Seven other = other

-- and at which it isn't the least acting actor by what is kept, or isn't due below a limit
abbrev pub limit_by : NextEvent → MachineState → Proc → ℕ → ℕ
limit_by next_event s proc until = min (min next_event.events_until.0 until) (past_other proc (waits_until next_event s (other_proc proc)))

-- the same by when both are due
abbrev pub wait_in : Ends → Proc → ℕ
wait_in ends Nine = ends.nine
wait_in ends Seven = ends.seven

abbrev pub limit_in : Ends → Proc → ℕ
limit_in ends proc = min ends.end (past_other proc (wait_in ends (other_proc proc)))

-- and when one of both is due at another tick
abbrev pub due_put : Ends → Proc → ℕ → Ends
due_put ends Nine tick = record ends { nine = tick }
due_put ends Seven tick = record ends { seven = tick }

-- what is kept is so of a machine: no actor but the processors acts before a tick; unless that is 0 one acts at it, no halted processor is to wake,
-- and the units behind the ports are settled; each processor's least tick says whether it is blocked; and its interrupt line is up or isn't
pub record IsNextEvent (next_event : NextEvent) (s : MachineState) : Type 0 where
  pub events : IsOver (acting_events_of s) next_event.events_until.0
  pub first : 0 < next_event.events_until.0 → (rank : ℕ) × (due_at (acting_events_of s) rank ≡ Some next_event.events_until)
  pub asleep : 0 < next_event.events_until.0 → AreAsleep s
  pub settled : 0 < next_event.events_until.0 → is_settled s.io ≡ true
  pub nine_least : next_event.nine_least ≡ least_of (is_blocked s Nine)
  pub seven_least : next_event.seven_least ≡ least_of (is_blocked s Seven)
  pub nine_line : next_event.nine_line ≡ line_of s Nine
  pub seven_line : next_event.seven_line ≡ line_of s Seven

-- a processor took a step of its turn that doesn't observe geometry, and what is needed of machines stayed so
pub record TookStep (until : ℕ) (proc : Proc) (s next : MachineState) : Type 0 where
  pub belongs : BelongsToTurn until s proc
  pub unobserving : observes_by (Processor proc) s ≡ false
  pub made : reference_step (rank_of proc) s ≡ Makes next []
  pub running : IsRunning last_limit next
  pub fewer : own_remaining until next proc < own_remaining until s proc
  pub io : next.io ≡ s.io
  pub keys : next.keys ≡ s.keys
  pub other : (processor_of next (other_proc proc)).due ≡ (processor_of s (other_proc proc)).due

-- what the fast steps of a processor go by: the machine goes on; the processor's line is up or isn't; where it is known, this is the first tick at
-- which an event acts; and the first at which the processor isn't the least acting actor, or isn't due below a limit, any more
pub record GoesFast (until : ℕ) (proc : Proc) (end limit : ℕ) (up : Bool) (s : MachineState) : Type 0 where
  pub line : line_of s proc ≡ up
  pub events : 0 < end → IsTurnEnd until s end
  pub least : HasLimit until s proc limit
  pub running : IsRunning last_limit s

-- what trying one gives: it was taken, and the next goes by the same; or no step belongs to the turn any more; or it isn't a fast one. Where it
-- wasn't taken the machine is as it was
abbrev pub WentFast : ℕ → Proc → ℕ → ℕ → Bool → MachineState → Gone → MachineState → Type 0
WentFast until proc end limit up old gone.Took new = TookStep until proc old new × GoesFast until proc end limit up new
WentFast until proc end limit up old gone.Over new = (¬ BelongsToTurn until old proc) × (new ≡ old)
WentFast until proc end limit up old gone.Unknown new = new ≡ old
WentFast until proc end limit up old gone.List new = new ≡ old

-- what many of them give: they were of the turn, the next goes by the same, and no unit changed
pub record WentOn (until : ℕ) (proc : Proc) (end limit : ℕ) (up : Bool) (s next : MachineState) : Type 0 where
  pub steps : TakesSteps until proc s next
  pub goes : GoesFast until proc end limit up next
  pub io : next.io ≡ s.io
  pub keys : next.keys ≡ s.keys
  pub other : (processor_of next (other_proc proc)).due ≡ (processor_of s (other_proc proc)).due
