use Rattle.std.proofs.Common.{ℕ, ◌≡◌, ◌<◌, ◌*◌, ◌^◌, ◌%◌, arith}
use Rattle.std.proofs.Math.Pow.{pow-lt}

-- a register's power of two is a word
pub small_power : (r : ℕ) → r < 16 → 1 * 2 ^ r % 2 ^ 32 ≡ 2 ^ r
small_power r h = let low : 2 ^ r < 2 ^ 16 = pow-lt h in omega (arith, low)
