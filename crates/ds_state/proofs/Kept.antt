use Rattle.std.proofs.Common.{ℕ, ◌≡◌, bit_and, arith}
use Rattle.std.proofs.lemmas.Nat.Bits.{bit_at_and, same_from_bits}

-- Bits that were kept are kept.
pub kept_twice : (v mask : ℕ) → bit_and (bit_and v mask) mask ≡ bit_and v mask
kept_twice v mask = same_from_bits (bit_and (bit_and v mask) mask) (bit_and v mask) (λ i.
    let a = bit_at_and (bit_and v mask) mask i in let b = bit_at_and v mask i in omega (arith, a, b))
