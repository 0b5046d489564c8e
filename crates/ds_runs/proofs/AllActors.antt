use Rattle.std.proofs.Common.{ℕ, zero, suc, ◌≡◌, ◌≢◌, ◌<◌, ◌≤◌, ◌+◌, ◌⊎◌, inl, inr, List, [], ◌∷◌, map, get_or, length, Option, Some, None, refl, sym, ◌∙◌, ap, subst, arith}
use Rattle.ds_base.specs.Schedules.{Reschedules, IsLater}
use Rattle.ds_base.specs.declared.processors.Proc.TheVariants.{Nine, Seven}
use Rattle.ds_base.specs.declared.ticks.Tick.{Tick}
use Rattle.ds_runs.specs.Actors.{actors, actor_of, IsNumbered}
use Rattle.ds_runs.specs.Ahead.{MovesOn}
use Rattle.ds_runs.specs.Owed.{AllReschedule}
use Rattle.ds_runs.specs.Runs.{due_at}
use Rattle.ds_runs.specs.declared.actors.Actor as actor
use Rattle.ds_runs.specs.declared.actors.Actor.TheVariants.{KeyScript, Video, Timer, Divider, SquareRoot, Geometry, Card, Dma, Processor}
use Rattle.ds_runs.proofs.ActorTable.{due_of_actor}

-- What holds of each actor holds of the whole table.

abbrev AreNumbered : List actor.Actor → Type 0
AreNumbered [] = Unit {0}
AreNumbered (a ∷ rest) = IsNumbered a × AreNumbered rest

four : (0 < 4) × ((1 < 4) × ((2 < 4) × (3 < 4)))
four = (omega arith, (omega arith, (omega arith, omega arith)))

are_numbered : AreNumbered actors
are_numbered =
    let a = four.0 in
    let b = four.1.0 in
    let c = four.1.1.0 in
    let d = four.1.1.1 in
    (tt, (tt, (a, (b, (c, (d, (a, (b, (c, (d, (tt, (tt, (tt, (tt, (a, (b, (c, (d, (a, (b, (c, (d, (tt, (tt, tt))))))))))))))))))))))))

numbered_at : (all : List actor.Actor) (rank : ℕ) → AreNumbered all → rank < length all → IsNumbered (get_or all rank KeyScript)
numbered_at [] rank each lt = absurd (omega (arith, lt))
numbered_at (a ∷ rest) zero each lt = each.0
numbered_at (a ∷ rest) (suc rank) each lt = numbered_at rest rank each.1 (omega (arith, lt))

-- the actor of a rank is one of the four of its kind, where there are four
pub is_numbered : (rank : ℕ) → rank < 24 → IsNumbered (actor_of rank)
is_numbered rank lt = numbered_at actors rank are_numbered (omega (arith, lt))

each_of : (tick : Tick) (f g : actor.Actor → Option Tick) (all : List actor.Actor) → AreNumbered all
    → ((a : actor.Actor) → IsNumbered a → Reschedules tick (f a) (g a)) → AllReschedule tick (map f all) (map g all)
each_of tick f g [] each h = tt
each_of tick f g (a ∷ rest) each h = (h a each.0, each_of tick f g rest each.1 h)

-- due ticks by actors, where each stays or becomes later
pub all_of_actors : (tick : Tick) (f g : actor.Actor → Option Tick) → ((a : actor.Actor) → IsNumbered a → Reschedules tick (f a) (g a))
    → AllReschedule tick (map f actors) (map g actors)
all_of_actors tick f g h = each_of tick f g actors are_numbered h

-- the table backwards
abbrev pub actor_rank : actor.Actor → ℕ
actor_rank KeyScript = 0
actor_rank Video = 1
actor_rank (Timer Nine number) = 2 + number
actor_rank (Timer Seven number) = 6 + number
actor_rank Divider = 10
actor_rank SquareRoot = 11
actor_rank Geometry = 12
actor_rank Card = 13
actor_rank (Dma Nine channel) = 14 + channel
actor_rank (Dma Seven channel) = 18 + channel
actor_rank (Processor Nine) = 22
actor_rank (Processor Seven) = 23

abbrev HaveRanks : ℕ → List actor.Actor → Type 0
HaveRanks from [] = Unit {0}
HaveRanks from (a ∷ rest) = (actor_rank a ≡ from) × HaveRanks (suc from) rest

have_ranks : HaveRanks 0 actors
have_ranks = (refl, (refl, (refl, (refl, (refl, (refl, (refl, (refl, (refl, (refl, (refl, (refl, (refl, (refl, (refl, (refl, (refl, (refl, (refl, (refl, (refl, (refl, (refl, (refl, tt))))))))))))))))))))))))

rank_at : (from : ℕ) (all : List actor.Actor) (rank : ℕ) → HaveRanks from all → rank < length all → actor_rank (get_or all rank KeyScript) ≡ from + rank
rank_at from [] rank each lt = absurd (omega (arith, lt))
rank_at from (a ∷ rest) zero each lt = (let e = each.0 in omega (arith, e))
rank_at from (a ∷ rest) (suc rank) each lt = (let e = rank_at (suc from) rest rank each.1 (omega (arith, lt)) in omega (arith, e))

-- two ranks aren't those of one actor
pub actors_differ : (rank other : ℕ) → rank < 24 → other < 24 → other ≢ rank → actor_of other ≢ actor_of rank
actors_differ rank other lt lt₂ ne = λ same.
    (let a = rank_at 0 actors rank have_ranks lt in
    let b = rank_at 0 actors other have_ranks lt₂ in
    let c : actor_rank (actor_of other) ≡ actor_rank (actor_of rank) = ap actor_rank same in
    ne (omega (arith, a, b, c)))

-- past the table nobody is due
beyond : (f : actor.Actor → Option Tick) (all : List actor.Actor) (rank : ℕ) → length all ≤ rank → due_at (map f all) rank ≡ None
beyond f [] rank le = refl
beyond f (a ∷ rest) zero le = absurd (omega (arith, le))
beyond f (a ∷ rest) (suc rank) le = beyond f rest rank (omega (arith, le))

within_or_not : (rank : ℕ) → (rank < 24) ⊎ (24 ≤ rank)
within_or_not rank = grind arith

-- due ticks by actors, where one actor's becomes later, and those of the others stay
pub moves_of_actors : (f g : actor.Actor → Option Tick) (rank : ℕ) (tick : Tick) → rank < 24 → f (actor_of rank) ≡ Some tick → IsLater tick (g (actor_of rank))
    → ((a : actor.Actor) → IsNumbered a → a ≢ actor_of rank → g a ≡ f a) → MovesOn rank tick (map f actors) (map g actors)
moves_of_actors f g rank tick lt there later others = record {
  there = due_of_actor f rank lt ∙ there;
  later = (let P : Option Tick → Type 0 = λ x. IsLater tick x in subst P (sym (due_of_actor g rank lt)) later);
  others = each;
} where
  each : (other : ℕ) → other ≢ rank → due_at (map g actors) other ≡ due_at (map f actors) other
  each other ne = elim (within_or_not other) [
    | inl small ↦ due_of_actor g other small ∙ others (actor_of other) (is_numbered other small) (actors_differ rank other lt small ne) ∙ sym (due_of_actor f other small)
    | inr large ↦ beyond g actors other large ∙ sym (beyond f actors other large)
  ]
