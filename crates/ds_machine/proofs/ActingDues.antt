use Rattle.ds_machine.proofs.Words.{Bool, Due, Geometry, IsLeast, List, MachineState, Nine, None, Option, Proc, Seven, Some, Tick, [], acting_due}
use Rattle.ds_machine.proofs.Words.{acting_dues, acting_events_of, actor_of, actors, actors_differ, ap, arith, due_at, due_by, due_of_actor}
use Rattle.ds_machine.proofs.Words.{due_of_rank, due_with_rank, dues_of, earlier, false, first_from, geometry_rank, if◌then◌else◌, inl, inr, is_quiet}
use Rattle.ds_machine.proofs.Words.{least_by_parts, length, low_rank, map, none-some, processor_due, rank_of, refl, same_or_not, scan_due_tick, sym}
use Rattle.ds_machine.proofs.Words.{true, within, ℕ, ◌++◌, ◌<◌, ◌∙◌, ◌∷◌, ◌≡◌, ◌≢◌, ◌⊎◌}
use Rattle.ds_runs.specs.declared.actors.Actor as actor

-- When the actors act: as a list and by actors, and beside when all are due.

-- ---- the list has an entry for each actor, and an actor's is at its rank

pub acting_entries : (s : MachineState) → length (acting_dues s) ≡ 24
unfolding acting_dues
acting_entries s = refl

pub acting_of_rank : (s : MachineState) (rank : ℕ) → rank < 24 → due_at (acting_dues s) rank ≡ acting_due (actor_of rank) s
unfolding acting_dues
acting_of_rank s rank lt = due_of_actor (λ (a : actor.Actor). acting_due a s) rank lt

pub acting_low : (s : MachineState) (rank : ℕ) (tick : Tick) → due_at (acting_dues s) rank ≡ Some tick → rank < 24
acting_low s rank tick h = let k = within (acting_dues s) rank tick h in let e = acting_entries s in omega (arith, k, e)

-- a processor's
pub acting_processor : (s : MachineState) (proc : Proc) → due_at (acting_dues s) (rank_of proc) ≡ processor_due s proc
acting_processor s Nine = acting_of_rank s (rank_of Nine) (omega arith)
acting_processor s Seven = acting_of_rank s (rank_of Seven) (omega arith)

-- the list by its parts: all actors but the processors, and the processors
pub acting_split : (s : MachineState) → acting_dues s ≡ acting_events_of s ++ processor_due s Nine ∷ processor_due s Seven ∷ []
unfolding acting_dues
acting_split s = refl

-- the first of its parts is the least
pub first_acting_found : (s : MachineState) (first : Due)
    → Some first ≡ earlier (first_from 0 (acting_events_of s)) (earlier (due_with_rank (rank_of Nine) (processor_due s Nine)) (due_with_rank (rank_of Seven) (processor_due s Seven)))
    → IsLeast (acting_dues s) first.tick first.rank
first_acting_found s first h = least_by_parts (acting_dues s) (acting_events_of s) (processor_due s Nine) (processor_due s Seven) first (acting_split s) h refl

-- the display always acts
pub somebody_acts : (s : MachineState) → due_at (acting_dues s) 1 ≡ Some (scan_due_tick s.io.video.scan)
unfolding acting_dues
somebody_acts s = refl

-- ---- all act that are due, but quiet geometry

pub maps_same : (f g : actor.Actor → Option Tick) → ((a : actor.Actor) → f a ≡ g a) → (all : List actor.Actor) → map f all ≡ map g all
maps_same f g same [] = refl
maps_same f g same (a ∷ rest) = ap (λ (o : Option Tick). o ∷ map f rest) (same a) ∙ ap (λ (l : List (Option Tick)). g a ∷ l) (maps_same f g same rest)

pub acts_where_due : (a : actor.Actor) (s : MachineState) → a ≢ Geometry → acting_due a s ≡ due_by a s
acts_where_due Geometry s other = absurd (other refl)
acts_where_due _ s other = refl

-- where geometry isn't quiet, all do
pub loud_by : (s : MachineState) → is_quiet s.io ≡ false → (a : actor.Actor) → acting_due a s ≡ due_by a s
loud_by s loud Geometry = ap (λ (b : Bool). if b then None else due_by Geometry s) loud
loud_by s loud _ = refl

pub loud_same : (s : MachineState) → is_quiet s.io ≡ false → acting_dues s ≡ dues_of s
unfolding acting_dues dues_of
loud_same s loud = maps_same (λ (a : actor.Actor). acting_due a s) (λ (a : actor.Actor). due_by a s) (loud_by s loud) actors

-- an actor of another rank than geometry's acts where it is due
pub other_acts : (s : MachineState) (other : ℕ) → other < 24 → other ≢ geometry_rank → due_at (acting_dues s) other ≡ due_at (dues_of s) other
other_acts s other lt ne = acting_of_rank s other lt ∙ acts_where_due (actor_of other) s (actors_differ geometry_rank other (omega arith) lt ne) ∙ sym (due_of_rank s other lt)

-- an actor that is due is geometry, or it acts then
pub acts_then : (s : MachineState) (other : ℕ) (at : Tick) → due_at (dues_of s) other ≡ Some at → (other ≡ geometry_rank) ⊎ (due_at (acting_dues s) other ≡ Some at)
acts_then s other at h = elim (same_or_not other geometry_rank) [
  | inl same ↦ inl same
  | inr ne ↦ inr (other_acts s other (low_rank s other at h) ne ∙ h)
]

-- and what acts is due then
acting_is_due : (a : actor.Actor) (s : MachineState) (at : Tick) → acting_due a s ≡ Some at → due_by a s ≡ Some at
acting_is_due Geometry s at h = by_quiet (is_quiet s.io) h where
  by_quiet : (quiet : Bool) → (if quiet then None else s.io.gx.due) ≡ Some at → s.io.gx.due ≡ Some at
  by_quiet true h = absurd (none-some at h)
  by_quiet false h = h
acting_is_due _ s at h = h

pub due_where_acts : (s : MachineState) (other : ℕ) (at : Tick) → due_at (acting_dues s) other ≡ Some at → due_at (dues_of s) other ≡ Some at
due_where_acts s other at h =
    let lt = acting_low s other at h in due_of_rank s other lt ∙ acting_is_due (actor_of other) s at (sym (acting_of_rank s other lt) ∙ h)
