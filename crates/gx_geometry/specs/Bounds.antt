use Rattle.std.specs.Prelude.{ℕ, ◌||◌, nat_le, nat_lt, Bool, true, Option, is_none}
use Rattle.std.specs.Option.{option_map_or}

-- Where the last vertices of a run may stand in the open list.

-- a run's vertices stand in the open list or nowhere
abbrev pub is_place : ℕ → Option ℕ → Bool
is_place long place = option_map_or (λ n. nat_lt n long) place true

-- and those that the run doesn't have nowhere: the last but so many is there where it has as many
abbrev pub is_told : ℕ → ℕ → Option ℕ → Bool
is_told run back place = is_none place || nat_le back run
