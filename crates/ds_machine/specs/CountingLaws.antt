use Rattle.std.specs.Prelude.{ℕ, ◌+◌, ◌*◌, ◌^◌, ◌≡◌, ◌<◌, ◌≤◌, List, Some}
use Rattle.ds_base.specs.declared.left_out.LeftOut.{LeftOut}
use Rattle.ds_base.specs.declared.processors.Proc.TheVariants.{Nine, Seven}
use Rattle.ds_base.specs.declared.ticks.Tick.{Tick}
use Rattle.ds_runs.specs.LastLaws.{LeadsTo}
use Rattle.ds_runs.specs.Runs.{IsOver, Makes, Stops, due_at}
use Rattle.ds_machine.specs.Reference.{Shown, dues_of, reference, reference_step}
use Rattle.ds_machine.specs.Sound.{IsSound}
use Rattle.ds_machine.specs.States.{MachineState, counts_of}
use Rattle.ds_machine.specs.TurnLaws.{MayStep, own_remaining}
use Rattle.ds_machine.specs.declared.answers.Done.{Done}
use Rattle.ds_machine.specs.declared.answers.Done.TheVariants.{Made, Frame, Stopped}

-- How many steps there were: at most 24 for each tick, one of each actor's. Steps are taken in another order than the reference run's, so it is said
-- of that run: it takes the steps that are to come, wherever it takes them.

-- in the last state of the reference run to a limit there were at most 24 steps for each tick below it. Where the run stops there, processors that
-- are ahead of it may still have ticks left below the limit, and a step at each: these count too
pub record EndsWithin (limit : ℕ) (s : MachineState) : Type 0 where
  pub last : MachineState
  pub run : LeadsTo reference limit s last
  pub few : counts_of last + own_remaining limit last Nine + own_remaining limit last Seven ≤ 24 * limit

-- the vertices of geometry's current run
abbrev pub run_of : MachineState → ℕ
run_of s = s.io.gx.geometry.numbers.run

-- geometry adds one at most in a step, and takes each of its steps at a tick of its own: so there are no more of them than ticks before its next one,
-- or up to any actor's
pub record HasShortRun (s : MachineState) : Type 0 where
  pub own : (tick : Tick) → s.io.gx.due ≡ Some tick → run_of s ≤ tick.0
  pub others : (rank : ℕ) (tick : Tick) → due_at (dues_of s) rank ≡ Some tick → run_of s ≤ tick.0 + 1

-- A machine that goes on: its last step, if there was one, didn't stop it, and all its steps so far were due below a limit. Then its units are
-- settled and nobody is to wake, and there is room for the steps that are to come.
pub record IsRunning (limit : ℕ) (s : MachineState) : Type 0 where
  pub sound : IsSound s
  pub ends : (later : ℕ) → limit ≤ later → EndsWithin later s
  pub run : HasShortRun s

-- past all ticks at which a step may be taken
abbrev pub last_limit : ℕ
last_limit = 2 ^ 56 + 1

-- unless a step stopped, the machine goes on after it
abbrev pub RunsAfter : Done → MachineState → Type 0
RunsAfter Made s = IsRunning last_limit s
RunsAfter (Frame swapped) s = IsRunning last_limit s
RunsAfter (Stopped left) s = Unit {0}

-- ---- its laws

-- so runs one on which nobody is due below a limit, and that took at most 24 steps for each tick below it: at boot none, with the limit 0
abbrev pub StartsRunning : Type 0
StartsRunning =
    (limit : ℕ) (s : MachineState) → IsSound s → IsOver (dues_of s) limit → counts_of s ≤ 24 * limit → run_of s ≤ limit → IsRunning limit s

-- a step that may be taken, is due below a limit, and is taken leaves such a machine
abbrev pub StepsKeepRunning : Type 0
StepsKeepRunning = (limit rank : ℕ) (s next : MachineState) (outs : List Shown) → IsRunning limit s → (may : MayStep s rank) → may.tick.0 < limit
    → reference_step rank s ≡ Makes next outs → IsRunning limit next

-- with each later limit it is one too
abbrev pub LimitsRise : Type 0
LimitsRise = (limit later : ℕ) (s : MachineState) → limit ≤ later → IsRunning limit s → IsRunning later s

-- its steps add up to at most 24 times its limit
abbrev pub CountsAddUp : Type 0
CountsAddUp = (limit : ℕ) (s : MachineState) → IsRunning limit s → counts_of s ≤ 24 * limit

-- each step that is taken is one more, and a step that stops counts none
abbrev pub StepsCount : Type 0
StepsCount = (rank : ℕ) (s next : MachineState) (outs : List Shown) → MayStep s rank → reference_step rank s ≡ Makes next outs → counts_of next
    ≡ counts_of s + 1

abbrev pub StopsCountNone : Type 0
StopsCountNone = (rank : ℕ) (s left : MachineState) (stop : LeftOut) → reference_step rank s ≡ Stops stop left → counts_of left ≡ counts_of s
