use Rattle.std.proofs.Common.{ℕ, ◌<◌, ◌+◌, ◌*◌, arith}
use Rattle.std.proofs.lemmas.Int.{to_z-of_z}

-- a number that goes through its bits is itself
pub ruleset casts = (arith, to_z-of_z)

-- a given cell has its parameter
pub given_place : (rows columns r c : ℕ) → r < rows → c < columns → columns * r + c < columns * rows
given_place rows columns r c h k = grind arith
