-- Calls that are numbered from 1, some of which are to fail (our choice).
use Rattle.std.specs.Prelude.{ℕ, ◌<◌, ◌+◌, ◌-◌, ◌^◌, ◌==◌, Bool, List, All, filter, length, min, nat_le, slice_index}
use Rattle.std.specs.List.Sorted.{IsStrictlyIncreasing}
use Rattle.std.specs.List.{list_any}

-- the numbers of the calls that are to fail: they rise, and the last number that a call can have, at which the numbering
-- stays, isn't among them
pub record AreCalls (calls : List ℕ) : Type 0 where
  pub rising : IsStrictlyIncreasing calls
  pub numbers : All (λ call. (0 < call) × (call < 2 ^ 64 - 1)) calls

-- a number after those of a list, and one at least
abbrev pub IsNextCall : List ℕ → ℕ → Type 0
IsNextCall calls call = slice_index calls (length calls - 1) < call

-- which calls of an object are to fail, and the number of the call made last: 0 before the first
pub record Numbered : Type 0 where
  pub fails : List ℕ
  pub made : ℕ

-- one call more
abbrev pub called : Numbered → Numbered
called n = record n { made = min (n.made + 1) (2 ^ 64 - 1) }

-- whether the call made last is to fail
abbrev pub fails_now : Numbered → Bool
fails_now n = list_any (λ call. call == n.made) n.fails

-- how many calls failed: the numbers up to the last call
abbrev pub fault_count : Numbered → ℕ
fault_count n = length (filter (λ call. nat_le call n.made) n.fails)
