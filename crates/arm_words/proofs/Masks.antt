use Rattle.std.proofs.Common.{ℕ, Bool, true, ◌&&◌, ◌≡◌, ◌<◌, ◌≤◌, ◌+◌, ◌-◌, ◌*◌, ◌/◌, ◌%◌, ◌^◌, nat_lt, bit_and, sym, ◌∙◌, ap, arith, List, [], ◌∷◌}
use Rattle.std.specs.Int.Bits.{and_block, and_mask, and_mod, and_le_r, and_zero_r}
use Rattle.std.proofs.Math.Pow.{pow_pos}
use Rattle.ds_base.proofs.Choices.{both, lt_of}

-- a field of a mask: its lowest bit and its size
pub record Part : Type 0 where
  pub at : ℕ
  pub size : ℕ

abbrev pub part : ℕ → ℕ → Part
part k n = record { at = k; size = n }

-- the mask of some fields, the highest first
abbrev pub mask : List Part → ℕ
mask [] = 0
mask (f ∷ fs) = (2 ^ f.size - 1) * 2 ^ f.at + mask fs

-- what a word has under the mask
abbrev pub under : ℕ → List Part → ℕ
under w [] = 0
under w (f ∷ fs) = w / 2 ^ f.at % 2 ^ f.size * 2 ^ f.at + under w fs

-- each field stands above the rest
abbrev pub descend : List Part → Bool
descend [] = true
descend (f ∷ fs) = nat_lt (mask fs) (2 ^ f.at) && descend fs

below_mod : (x p : ℕ) → x < p → x % p ≡ x
below_mod x p h = grind arith

split_at : (w p : ℕ) → 0 < p → w ≡ w / p * p + w % p
split_at w p h = grind arith

mod_below : (w p : ℕ) → 0 < p → w % p < p
mod_below w p h = grind arith

and_top : (w k n rest : ℕ) → rest < 2 ^ k → bit_and w ((2 ^ n - 1) * 2 ^ k + rest) ≡ w / 2 ^ k % 2 ^ n * 2 ^ k + bit_and w rest
and_top w k n rest h =
    let pos : 0 < 2 ^ k = pow_pos k in
    let low : bit_and (w % 2 ^ k) rest ≡ bit_and w rest =
    ap (λ (x : ℕ). bit_and (w % 2 ^ k) x) (sym (below_mod rest (2 ^ k) h)) ∙ sym (and_mod w rest k)
    ∙ below_mod (bit_and w rest) (2 ^ k) (let le : bit_and w rest ≤ rest = and_le_r w rest in omega arith) in
    ap (λ (x : ℕ). bit_and x ((2 ^ n - 1) * 2 ^ k + rest)) (split_at w (2 ^ k) pos)
    ∙ and_block k (w / 2 ^ k) (2 ^ n - 1) (w % 2 ^ k) rest (mod_below w (2 ^ k) pos) h
    ∙ ap (λ (x : ℕ). x * 2 ^ k + bit_and (w % 2 ^ k) rest) (and_mask (w / 2 ^ k) n)
    ∙ ap (λ (x : ℕ). w / 2 ^ k % 2 ^ n * 2 ^ k + x) low

-- the fields of a word under a mask
pub masked : (w : ℕ) (fs : List Part) → descend fs ≡ true → bit_and w (mask fs) ≡ under w fs
masked w [] h = and_zero_r w
masked w (f ∷ fs) h =
    and_top w f.at f.size (mask fs) (lt_of (mask fs) (2 ^ f.at) (both (nat_lt (mask fs) (2 ^ f.at)) (descend fs) h).0)
    ∙ ap (λ (x : ℕ). w / 2 ^ f.at % 2 ^ f.size * 2 ^ f.at + x) (masked w fs (both (nat_lt (mask fs) (2 ^ f.at)) (descend fs) h).1)
