use Rattle.std.specs.Prelude.{ℕ, ◌≡◌, ◌≢◌, ◌<◌, ◌↔◌, List, [], Option, Some}
use Rattle.ds_base.specs.declared.ticks.Tick.{Tick}
use Rattle.ds_base.specs.Schedules.{IsLater}
use Rattle.ds_runs.specs.Runs.{TickMachine, Makes, Stops, Ending, Runs, IsLeast, due_at}

-- Taking an actor's step before its turn. Our choice. A step is private where it may be taken ahead of those of all other actors:
-- nothing that they do depends on it, and nothing that they do changes it. `Private s t` says that in the state s the actor is due at
-- the tick t and that its step is private; which steps are is the machine's choice.

-- of the due ticks of all actors, one actor's was this tick and becomes later, or is taken away, and the others' stay
pub record MovesOn (rank : ℕ) (tick : Tick) (olds news : List (Option Tick)) : Type 0 where
  pub there : due_at olds rank ≡ Some tick
  pub later : IsLater tick (due_at news rank)
  pub others : (other : ℕ) → other ≢ rank → due_at news other ≡ due_at olds other

-- what taking private steps of the actor p before their turn rests on
pub record MayRunAhead {S O L : Type 0} (m : TickMachine S O L) (p : ℕ) (Private : S → Tick → Type 0) : Type 0 where
  -- a private step moves the actor's own due tick on, and no other's
  pub moves : (s ahead : S) (t : Tick) → Private s t → m.step p s ≡ Makes ahead [] → MovesOn p t (m.dues s) (m.dues ahead)
  -- a step of another actor whose turn comes before it leaves it private; both steps come to the same in either order, and put out the same
  pub commutes : (s ahead next : S) (t u : Tick) (r : ℕ) (outs : List O) → Private s t → m.step p s ≡ Makes ahead []
      → IsLeast (m.dues s) u r → r ≢ p → m.step r s ≡ Makes next outs
      → Private next t × ((both : S) × (m.step p next ≡ Makes both []) × (m.step r ahead ≡ Makes both outs))
  -- where another actor whose turn comes before it stops the machine, it does so with the same stop after it
  pub halts : (s ahead left : S) (t u : Tick) (r : ℕ) (stop : L) → Private s t → m.step p s ≡ Makes ahead []
      → IsLeast (m.dues s) u r → r ≢ p → m.step r s ≡ Stops stop left → (after : S) × (m.step r ahead ≡ Stops stop after)

-- the same in two laws, where a private step changes nothing but the actor's own part of a state: `after s` is what it makes of that
-- part, and `put` puts an own part into a state
pub record HasOwnPart {S O L Own : Type 0} (m : TickMachine S O L) (p : ℕ) (put : Own → S → S) (after : S → Own) (Private : S → Tick
    → Type 0) : Type 0 where
  -- a private step moves the actor's own due tick on, and no other's
  pub moves : (s : S) (t : Tick) → Private s t → MovesOn p t (m.dues s) (m.dues (put (after s) s))
  -- the inner law: a private step changes the own part, and puts out nothing
  pub inner : (s : S) (t : Tick) → Private s t → m.step p s ≡ Makes (put (after s) s) []
  -- the outer law: a step of another actor whose turn comes before it comes to the same with the own part that it makes, and puts out the
  -- same; it leaves it private, and leaves what it makes of the own part
  pub outer : (s next : S) (t u : Tick) (r : ℕ) (outs : List O) → Private s t → IsLeast (m.dues s) u r → r ≢ p → m.step r s ≡ Makes next outs
      → (m.step r (put (after s) s) ≡ Makes (put (after s) next) outs) × (after next ≡ after s) × Private next t
  -- where another actor whose turn comes before it stops the machine, it does so with the same stop with the own part that it makes
  pub halts : (s left : S) (t u : Tick) (r : ℕ) (stop : L) → Private s t → IsLeast (m.dues s) u r → r ≢ p → m.step r s ≡ Stops stop left
      → (then : S) × (m.step r (put (after s) s) ≡ Stops stop then)

-- a private step below the limit may be taken before its turn: what ends a run from the state before it, and what that run puts out, is
-- what ends and what is put out by a run from the state after it
abbrev pub AheadAgrees : {S O L : Type 0} → TickMachine S O L → ℕ → (S → Tick → Type 0) → Type 0
AheadAgrees {S} {O} {L} m p Private = (limit : ℕ) (end : Ending S L) (outs : List O) (s ahead : S) (t : Tick) → Private s t → t.0 < limit
    → m.step p s ≡ Makes ahead [] → (Runs m limit end s outs ↔ Runs m limit end ahead outs)
