-- Reading a line's tick.
use Rattle.std.specs.Prelude.{ℕ, ◌≡◌, ◌<◌, ◌≤◌, ◌^◌, List, length, take, slice_index, ◌⊎◌}
use Rattle.std.specs.Fmt.{decimal}

-- the first digits of a line are those of a tick, and no digit could follow them there
pub record IsTick (line : List ℕ) (tick count : ℕ) : Type 0 where
  pub within : count ≤ length line
  pub few : count ≤ 11
  pub in_range : tick < 10 ^ count
  pub text : 0 < count → take count line ≡ decimal tick
  pub end : count < length line → 48 ≤ slice_index line count → slice_index line count ≤ 57 → (count ≡ 11) ⊎ ((count ≡ 1) × (tick ≡ 0))
