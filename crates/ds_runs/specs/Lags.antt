use Rattle.std.specs.Prelude.{ℕ, ◌≡◌, ◌≢◌, ◌<◌, ◌≤◌, ◌⊎◌, ◌↔◌, List, [], ◌++◌, Some}
use Rattle.ds_base.specs.Schedules.{IsLater}
use Rattle.ds_base.specs.declared.ticks.Tick.{Tick}
use Rattle.ds_runs.specs.Runs.{TickMachine, Makes, Stops, Ending, Stopped, Runs, IsLeast, due_at}

-- An actor that lags: others step though its steps are due before theirs, and it takes them later. Our choice. `Before s r t` says that in the state
-- s the actor r is due at the tick t, and that no actor is due before it but the one that may lag, p; and that r's step neither depends on p's steps
-- nor changes what they do. Which steps are so is the machine's choice.

-- the actor r is the least; or the one that may lag is, at its tick or earlier
pub record MayStepFirst {S O L : Type 0} (m : TickMachine S O L) (p r : ℕ) (s : S) (t : Tick) : Type 0 where
  pub other : r ≢ p
  pub there : due_at (m.dues s) r ≡ Some t
  pub least : IsLeast (m.dues s) t r ⊎ ((u : Tick) × IsLeast (m.dues s) u p × (u.0 ≤ t.0))

-- p's step where it is due before r: it is taken, puts out nothing, and leaves p due later, and r as it was
pub record StepsBefore {S O L : Type 0} (m : TickMachine S O L) (p r : ℕ) (Before : S → ℕ → Tick → Type 0) (s : S) (t u : Tick) : Type 0 where
  pub next : S
  pub makes : m.step p s ≡ Makes next []
  pub later : IsLater u (due_at (m.dues next) p)
  pub still : Before next r t

-- what taking an actor's steps later than they are due rests on
pub record MayLag {S O L : Type 0} (m : TickMachine S O L) (p : ℕ) (Before : S → ℕ → Tick → Type 0) : Type 0 where
  pub first : (s : S) (r : ℕ) (t : Tick) → Before s r t → MayStepFirst m p r s t
  pub steps : (s : S) (r : ℕ) (t u : Tick) → Before s r t → IsLeast (m.dues s) u p → StepsBefore m p r Before s t u
  -- both steps come to the same in either order, and after r's step p's is still the least
  pub commutes : (s late next : S) (r : ℕ) (t u : Tick) (outs : List O) → Before s r t → IsLeast (m.dues s) u p → m.step p s ≡ Makes late []
      → m.step r s ≡ Makes next outs
      → IsLeast (m.dues next) u p × ((both : S) × (m.step r late ≡ Makes both outs) × (m.step p next ≡ Makes both []))
  -- where r's step stops the machine, it does so with the same stop after p's
  pub halts : (s late left : S) (r : ℕ) (t u : Tick) (stop : L) → Before s r t → IsLeast (m.dues s) u p → m.step p s ≡ Makes late [] → m.step r s
      ≡ Stops stop left
      → (after : S) × (m.step r late ≡ Stops stop after)

-- such a step of r below the limit may be taken first: what ends a run from the state before it, and what that run puts out, is what ends a run from
-- the state after it, and what the step and then that run put out
abbrev pub LagAgrees : {S O L : Type 0} → TickMachine S O L → (S → ℕ → Tick → Type 0) → Type 0
LagAgrees {S} {O} {L} m Before = (limit : ℕ) (end : Ending S L) (outs rest : List O) (s next : S) (r : ℕ) (t : Tick) → Before s r t → t.0 < limit
    → m.step r s ≡ Makes next outs → (Runs m limit end s (outs ++ rest) ↔ Runs m limit end next rest)

-- and where it stops the machine, the run stops so
abbrev pub LagKeepsStops : {S O L : Type 0} → TickMachine S O L → (S → ℕ → Tick → Type 0) → Type 0
LagKeepsStops {S} {O} {L} m Before = (limit : ℕ) (s left : S) (r : ℕ) (t : Tick) (stop : L) → Before s r t → t.0 < limit
    → m.step r s ≡ Stops stop left → Runs m limit (Stopped stop) s []
