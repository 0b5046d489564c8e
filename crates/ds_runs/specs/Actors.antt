use Rattle.std.specs.Prelude.{ℕ, ◌<◌, List, [], ◌∷◌, slice_index_or}
use Rattle.ds_base.specs.declared.processors.Proc.TheVariants.{Nine, Seven}
use Rattle.ds_runs.specs.declared.actors.Actor as actor
use Rattle.ds_runs.specs.declared.actors.Actor.TheVariants.{KeyScript, Video, Timer, Divider, SquareRoot, Geometry, Card, Dma, Processor}

-- The console's actors, by rank from 0 to 23: at equal ticks the one before another steps first. Our choice of ranks.
abbrev pub actors : List actor.Actor
actors =
    KeyScript
    ∷ Video
    ∷ Timer Nine 0 ∷ Timer Nine 1 ∷ Timer Nine 2 ∷ Timer Nine 3
    ∷ Timer Seven 0 ∷ Timer Seven 1 ∷ Timer Seven 2 ∷ Timer Seven 3
    ∷ Divider
    ∷ SquareRoot
    ∷ Geometry
    ∷ Card
    ∷ Dma Nine 0 ∷ Dma Nine 1 ∷ Dma Nine 2 ∷ Dma Nine 3
    ∷ Dma Seven 0 ∷ Dma Seven 1 ∷ Dma Seven 2 ∷ Dma Seven 3
    ∷ Processor Nine
    ∷ Processor Seven
    ∷ []

-- the actor of a rank
abbrev pub actor_of : ℕ → actor.Actor
actor_of rank = slice_index_or actors rank KeyScript

-- which of its kind an actor is: a processor has four timers and four DMA channels
abbrev pub IsNumbered : actor.Actor → Type 0
IsNumbered (Timer proc number) = number < 4
IsNumbered (Dma proc channel) = channel < 4
IsNumbered other = Unit {0}
