use Rattle.std.proofs.Common.{ℕ, zero, suc, ◌≡◌, ◌<◌, List, [], ◌∷◌, map, length, get_or, Option, None, refl, arith}
use Rattle.ds_base.specs.declared.ticks.Tick.{Tick}
use Rattle.ds_runs.specs.declared.actors.Actor as actor
use Rattle.ds_runs.specs.declared.actors.Actor.TheVariants.{KeyScript}
use Rattle.ds_runs.specs.Runs.{due_at}
use Rattle.ds_runs.specs.Actors.{actors, actor_of}

-- The table of actors.

mapped : {A B : Type 0} (f : A → B) (xs : List A) (i : ℕ) (d : B) (e : A) → i < length xs → get_or (map f xs) i d ≡ f (get_or xs i e)
mapped f [] i d e lt = absurd (omega (arith, lt))
mapped f (x ∷ xs) zero d e lt = refl
mapped f (x ∷ xs) (suc i) d e lt = mapped f xs i d e (omega (arith, lt))

-- a list of due ticks by actors has the actor's at its rank
pub due_of_actor : (f : actor.Actor → Option Tick) (rank : ℕ) → rank < 24 → due_at (map f actors) rank ≡ f (actor_of rank)
due_of_actor f rank lt = mapped f actors rank None KeyScript (omega (arith, lt))
