use Rattle.nds_top.proofs.Words.{arith, max, ℕ, ◌<◌, ◌≡◌}

-- What is said of the console that ran.

-- it is run to a later tick than its own
pub later_limit : (before limit ticks : ℕ) → before < ticks → limit ≡ max before ticks → limit ≡ ticks
later_limit before limit ticks lt e = omega (arith, lt, e)

pub at_ticks : (limit ticks : ℕ) → limit ≡ max 0 ticks → limit ≡ ticks
at_ticks limit ticks e = omega (arith, e)
