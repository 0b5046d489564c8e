use Rattle.std.proofs.Common.{ℕ, ◌≡◌, ◌<◌, ◌*◌, ◌^◌, ◌%◌, arith}
use Rattle.std.proofs.Math.Pow.{pow-lt}

-- what a region register covers is below 2^64
pub no_wrap : (n : ℕ) → n < 32 → 512 * 2 ^ n % 2 ^ 64 ≡ 512 * 2 ^ n
no_wrap n h = let low : 2 ^ n < 2 ^ 32 = pow-lt h in omega (arith, low)
