use Rattle.std.specs.Prelude.{ℕ, ◌≡◌, ◌<◌, ◌⊎◌, List}
use Rattle.ds_base.specs.declared.ticks.Tick.{Tick}
use Rattle.ds_runs.specs.Runs.{TickMachine, Makes, Stops, IsLeast, IsOver}

-- The reference run by the state in which it ends, or stops.

-- the least actor is due below a limit, and its step stops the machine
pub record StopsNext {S O L : Type 0} (m : TickMachine S O L) (limit : ℕ) (s : S) : Type 0 where
  pub tick : Tick
  pub rank : ℕ
  pub stop : L
  pub after : S
  pub least : IsLeast (m.dues s) tick rank
  pub below : tick.0 < limit
  pub halts : m.step rank s ≡ Stops stop after

-- the reference run to a limit takes no step any more: no actor is due below the limit, or the next step stops
abbrev pub IsLast : {S O L : Type 0} → TickMachine S O L → ℕ → S → Type 0
IsLast m limit s = IsOver (m.dues s) limit ⊎ StopsNext m limit s

-- the reference run to a limit from one state has this last state
pub data LeadsTo {S O L : Type 0} (m : TickMachine S O L) (limit : ℕ) : S → S → Type 0 where
  here : (s : S) → IsLast m limit s → LeadsTo m limit s s
  step : (s next last : S) (tick : Tick) (rank : ℕ) (outs : List O) → IsLeast (m.dues s) tick rank → tick.0 < limit
      → m.step rank s ≡ Makes next outs → LeadsTo m limit next last → LeadsTo m limit s last
