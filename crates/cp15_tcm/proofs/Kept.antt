use Rattle.std.proofs.Common.{ℕ, ◌≡◌, bit_and, bit_or, refl, ◌∙◌, ap}
use Rattle.std.proofs.lemmas.Nat.{and_or_apart}
use Rattle.cp15_tcm.specs.Registers.{control_mask, control_ones, dtcm_mask, itcm_mask}
use Rattle.ds_state.proofs.Kept.{kept_twice}

-- Registers have the bits that they keep.

-- the ones that the control register always has aren't among those that it keeps
pub control_again : (v : ℕ) → bit_and v control_mask ≡ v → bit_and (bit_or v control_ones) control_mask ≡ v
control_again v kept = and_or_apart control_mask v control_ones refl ∙ kept

pub control_kept : (v : ℕ) → bit_or (bit_and (bit_or (bit_and v control_mask) control_ones) control_mask) control_ones ≡ bit_or (bit_and v control_mask) control_ones
control_kept v = ap (λ (x : ℕ). bit_or x control_ones) (control_again (bit_and v control_mask) (kept_twice v control_mask))

pub dtcm_kept : (v : ℕ) → bit_and (bit_and v dtcm_mask) dtcm_mask ≡ bit_and v dtcm_mask
dtcm_kept v = kept_twice v dtcm_mask

pub itcm_kept : (v : ℕ) → bit_and (bit_and v itcm_mask) itcm_mask ≡ bit_and v itcm_mask
itcm_kept v = kept_twice v itcm_mask
