use Rattle.std.specs.Prelude.{ℕ, suc, nat_le, if◌then◌else◌, List, [], ◌∷◌, Option, Some, None}
use Rattle.ds_base.specs.declared.ticks.Due.{Due}
use Rattle.ds_base.specs.declared.ticks.Tick.{Tick}

-- a due tick, if there is one, with its rank
abbrev pub due_with_rank : ℕ → Option Tick → Option Due
due_with_rank rank None = None
due_with_rank rank (Some tick) = Some (record { tick = tick; rank = rank })

-- the first of two that may be due: by tick, and the former at equal ticks
abbrev pub earlier : Option Due → Option Due → Option Due
earlier None other = other
earlier (Some one) None = Some one
earlier (Some one) (Some other) = if nat_le one.tick.0 other.tick.0 then Some one else Some other

-- the first of some due ticks, whose ranks begin at one and go up
abbrev pub first_from : ℕ → List (Option Tick) → Option Due
first_from rank [] = None
first_from rank (due ∷ rest) = earlier (due_with_rank rank due) (first_from (suc rank) rest)
