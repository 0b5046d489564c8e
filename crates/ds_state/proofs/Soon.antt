use Rattle.std.proofs.Common.{ℕ, ◌≡◌, ◌≤◌, ◌^◌, true, Option, Some, None, arith}
use Rattle.ds_state.specs.Formats.{Fits, soon, tick}

-- A due tick that is soon has a spelling.
pub soon_fits : (at : ℕ) (due : Option ℕ) → at ≤ 2 ^ 56 → soon at due ≡ true → Fits tick due
soon_fits at None early h = tt
soon_fits at (Some due) early h = grind (arith, early, h)
