use Rattle.std.proofs.Common.{ℕ, ◌≡◌, ◌<◌, ◌≤◌, ◌+◌, ◌-◌, ◌*◌, ◌/◌, ◌%◌, ◌^◌, bit_and, sym, ◌∙◌, ap, arith}
use Rattle.std.specs.Int.Bits.{and_block, and_mask, and_mod, and_le_r}
use Rattle.std.proofs.Math.Pow.{pow_pos}

-- What a mask leaves of a number, field by field from the highest on.

below_mod : (x p : ℕ) → x < p → x % p ≡ x
below_mod x p h = grind arith

split_at : (w p : ℕ) → 0 < p → w ≡ w / p * p + w % p
split_at w p h = grind arith

mod_below : (w p : ℕ) → 0 < p → w % p < p
mod_below w p h = grind arith

-- n bits from bit k on, above the rest of the mask
pub kept_top : (w k n rest : ℕ) → rest < 2 ^ k → bit_and w ((2 ^ n - 1) * 2 ^ k + rest) ≡ w / 2 ^ k % 2 ^ n * 2 ^ k + bit_and w rest
kept_top w k n rest h =
    let pos : 0 < 2 ^ k = pow_pos k in
    let low : bit_and (w % 2 ^ k) rest ≡ bit_and w rest =
    ap (λ (x : ℕ). bit_and (w % 2 ^ k) x) (sym (below_mod rest (2 ^ k) h)) ∙ sym (and_mod w rest k)
    ∙ below_mod (bit_and w rest) (2 ^ k) (let le : bit_and w rest ≤ rest = and_le_r w rest in omega arith) in
    ap (λ (x : ℕ). bit_and x ((2 ^ n - 1) * 2 ^ k + rest)) (split_at w (2 ^ k) pos)
    ∙ and_block k (w / 2 ^ k) (2 ^ n - 1) (w % 2 ^ k) rest (mod_below w (2 ^ k) pos) h
    ∙ ap (λ (x : ℕ). x * 2 ^ k + bit_and (w % 2 ^ k) rest) (and_mask (w / 2 ^ k) n)
    ∙ ap (λ (x : ℕ). w / 2 ^ k % 2 ^ n * 2 ^ k + x) low
