use Rattle.std.specs.Prelude.{ℕ, ◌≡◌, ◌<◌, ◌⊎◌, ◌-◌, ◌%◌, ◌^◌, ℤ, pos, negsuc, ◌+ℤ◌, ◌*ℤ◌, ◌<ℤ◌, unsigned_abs}

-- q and r are the quotient and the remainder of n by d, rounding towards zero (GBATEK, "DS Maths": signed division)
pub record IsDivision (n d q r : ℤ) : Type 0 where
  pub equation : n ≡ (q *ℤ d) +ℤ r
  pub smaller : unsigned_abs r < unsigned_abs d
  pub sign : (r ≡ pos 0) ⊎ ((n <ℤ pos 0) × (r <ℤ pos 0)) ⊎ ((pos 0 <ℤ n) × (pos 0 <ℤ r))

-- a whole number modulo 2 ^ 64, as a register of 64 bits shows it in two's complement
abbrev pub modulo : ℤ → ℕ
modulo (pos n) = n % 2 ^ 64
modulo (negsuc n) = 2 ^ 64 - 1 - n % 2 ^ 64

-- what the two result registers show of n by d, where d isn't 0
pub record Divides (n d : ℤ) (quotient remainder : ℕ) : Type 0 where
  pub q : ℤ
  pub r : ℤ
  pub exact : IsDivision n d q r
  pub quotient_word : quotient ≡ modulo q
  pub remainder_word : remainder ≡ modulo r
