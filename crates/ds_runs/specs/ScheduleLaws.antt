use Rattle.std.specs.Prelude.{ℕ, suc, ◌+◌, ◌-◌, ◌*◌, max, List, [], ◌∷◌, Option, Some, None}
use Rattle.ds_base.specs.declared.ticks.Tick.{Tick}

-- What a machine owes of its due ticks, and the order of steps. Our choice of time.

-- The order of steps has a place for each tick and rank: the places of a tick are as many as the ranks, and those of the next tick
-- follow. This is how many places are left below a limit from the first at which somebody is due: a loop over steps counts it down.
abbrev pub places_remaining : (ranks limit rank : ℕ) → List (Option Tick) → ℕ
places_remaining ranks limit rank [] = 0
places_remaining ranks limit rank (None ∷ rest) = places_remaining ranks limit (suc rank) rest
places_remaining ranks limit rank (Some tick ∷ rest) =
    max (ranks * limit - (ranks * tick.0 + rank)) (places_remaining ranks limit (suc rank) rest)
