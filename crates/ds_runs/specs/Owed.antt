use Rattle.std.specs.Prelude.{ℕ, ◌≡◌, List, length, Option, Some}
use Rattle.std.specs.List.{AllZip}
use Rattle.ds_base.specs.declared.ticks.Tick.{Tick}
use Rattle.ds_base.specs.Schedules.{Reschedules, IsLater}
use Rattle.ds_runs.specs.Runs.{TickMachine, Makes, IsLeast, due_at}

-- What a machine owes, so that the laws of runs hold of it. No public clause speaks of it; a machine's proofs give it.

-- what happens at a tick leaves each due tick of a list as it was, or later
abbrev pub AllReschedule : Tick → List (Option Tick) → List (Option Tick) → Type 0
AllReschedule now olds news = AllZip (Reschedules now) olds news

-- what a machine of `ranks` actors owes, in the states that come up (the sound ones)
pub record Schedules {S O L : Type 0} (m : TickMachine S O L) (ranks : ℕ) (Sound : S → Type 0) : Type 0 where
  -- each actor has its place in the list
  pub entries : (s : S) → Sound s → length (m.dues s) ≡ ranks
  -- somebody is due
  pub somebody : (s : S) → Sound s → (rank : ℕ) × (tick : Tick) × (due_at (m.dues s) rank ≡ Some tick)
  -- a step leaves each due tick as it was, or later than its own
  pub reschedules : (s next : S) (tick : Tick) (rank : ℕ) (outs : List O) → Sound s → IsLeast (m.dues s) tick rank
      → m.step rank s ≡ Makes next outs → AllReschedule tick (m.dues s) (m.dues next)
  -- the actor that stepped is due later, or not at all
  pub later : (s next : S) (tick : Tick) (rank : ℕ) (outs : List O) → Sound s → IsLeast (m.dues s) tick rank
      → m.step rank s ≡ Makes next outs → IsLater tick (due_at (m.dues next) rank)
  -- what a step leaves is sound again
  pub stays : (s next : S) (tick : Tick) (rank : ℕ) (outs : List O) → Sound s → IsLeast (m.dues s) tick rank
      → m.step rank s ≡ Makes next outs → Sound next
