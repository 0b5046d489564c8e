use Rattle.std.specs.Prelude.{ℕ, ◌≡◌, ◌<◌, ◌≤◌, ◌+◌, ◌⊎◌, List, [], ◌++◌, Option, Some, None, slice_index_or}
use Rattle.ds_base.specs.declared.ticks.Tick.{Tick}

-- The reference run, of any machine of actors. Our choice, and what 'the console's behaviour' means everywhere here.

-- when the actor of a rank is due, by the list of all due ticks; past its end there is no actor
abbrev pub due_at : List (Option Tick) → ℕ → Option Tick
due_at dues rank = slice_index_or dues rank None

-- of the actors that are due, the actor `rank` is the least by due tick and then by rank, and it is due at `tick`
pub record IsLeast (dues : List (Option Tick)) (tick : Tick) (rank : ℕ) : Type 0 where
  pub there : due_at dues rank ≡ Some tick
  pub least : (other : ℕ) (at : Tick) → due_at dues other ≡ Some at → (tick.0 < at.0) ⊎ ((tick.0 ≡ at.0) × (rank ≤ other))

-- no actor is due below a limit
abbrev pub IsOver : List (Option Tick) → ℕ → Type 0
IsOver dues limit = (rank : ℕ) (tick : Tick) → due_at dues rank ≡ Some tick → limit ≤ tick.0

-- what a step comes to: it makes the next state and puts out a list; or it stops the machine, and leaves a state behind
pub data MachineStep (S O L : Type 0) : Type 0 where
  Makes : (next : S) → (outs : List O) → MachineStep S O L
  Stops : (stop : L) → (after : S) → MachineStep S O L

-- a machine over states S, which puts out O and stops with L: when each actor is due, by rank, and what its step comes to
pub record TickMachine (S O L : Type 0) : Type 0 where
  pub dues : S → List (Option Tick)
  pub step : ℕ → S → MachineStep S O L

-- how a run ends: in a state, or at a stop
pub data Ending (S L : Type 0) : Type 0 where
  At : (state : S) → Ending S L
  Stopped : (stop : L) → Ending S L

-- the reference run to a limit from a state ends so, and puts out this list
pub data Runs {S O L : Type 0} (m : TickMachine S O L) (limit : ℕ) : Ending S L → S → List O → Type 0 where
  -- no actor is due below the limit
  over : (s : S) → IsOver (m.dues s) limit → Runs m limit (At s) s []
  -- the least actor's step stops the machine
  stops : (s after : S) (tick : Tick) (rank : ℕ) (stop : L) → IsLeast (m.dues s) tick rank → tick.0 < limit
      → m.step rank s ≡ Stops stop after → Runs m limit (Stopped stop) s []
  -- the least actor takes its step, and the run goes on from there
  more : (end : Ending S L) (s next : S) (tick : Tick) (rank : ℕ) (outs rest : List O) → IsLeast (m.dues s) tick rank → tick.0 < limit
      → m.step rank s ≡ Makes next outs → Runs m limit end next rest → Runs m limit end s (outs ++ rest)

-- how many steps a run takes
abbrev pub steps_of : {S O L : Type 0} {m : TickMachine S O L} {limit : ℕ} {end : Ending S L} {s : S} {outs : List O} → Runs m limit end s outs → ℕ
steps_of (over s none) = 0
steps_of (stops s after tick rank stop least below halts) = 0
steps_of (more end s next tick rank outs rest least below goes run) = steps_of run + 1
