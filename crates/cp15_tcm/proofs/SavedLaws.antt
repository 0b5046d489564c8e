use Rattle.std.proofs.Common.{rules, ℕ, ◌≡◌, ◌<◌, ◌≤◌, ◌^◌, ◌==◌, true, bit_and, refl, subst, arith}
use Rattle.std.specs.Int.Bits.{and_le_r}
use Rattle.cp15_tcm.specs.Registers.{Cp15State, IsCp15, control_mask, dtcm_mask, itcm_mask}
use Rattle.cp15_tcm.specs.Saved.{Cp15sAreSaved, cp15_format}
use Rattle.cp15_tcm.proofs.Kept.{control_again}
use Rattle.ds_base.proofs.Choices.{equal, is_equal}
use Rattle.ds_state.proofs.Exact.{one_spelling, round_trips}
use Rattle.ds_state.proofs.Kept.{kept_twice}
use Rattle.ds_state.proofs.Standing.{IsExact, StandsFor}

-- What CP15 owes of its format.

cp15_exact : (at : ℕ) → IsExact cp15_format at
unfolding cp15_format
cp15_exact at = λ control _ rule dtcm _ _ itcm _ _. (refl, (refl, (control_again control (equal _ _ rule), tt)))

-- a number that has only the bits of a mask is no greater
within : (v mask : ℕ) → bit_and v mask ≡ v → v ≤ mask
within v mask kept = subst (λ (x : ℕ). x ≤ mask) kept (and_le_r v mask)

pub cp15_stands : (at : ℕ) (s : Cp15State) → IsCp15 s → StandsFor cp15_format at s
unfolding cp15_format
cp15_stands at s is =
    let dtcm = is_equal _ _ is.dtcm in let itcm = is_equal _ _ is.itcm in
    let control : (bit_and (bit_and s.control control_mask) control_mask == bit_and s.control control_mask) ≡ true = is_equal _ _ (kept_twice s.control control_mask) in
    let low = and_le_r s.control control_mask in
    let small : bit_and s.control control_mask < 2 ^ 32 = omega (arith, low) in
    let dtcm_le = within s.dtcm dtcm_mask is.dtcm in
    let itcm_le = within s.itcm itcm_mask is.itcm in
    let dtcm_small : s.dtcm < 2 ^ 32 = omega (arith, dtcm_le) in
    let itcm_small : s.itcm < 2 ^ 32 = omega (arith, itcm_le) in
    (search rules, rw is.control refl)

pub cp15s_saved : Cp15sAreSaved
cp15s_saved = record {
  back = λ at s is. round_trips cp15_format at s (cp15_stands at s is);
  spelling = λ at. one_spelling cp15_format at (cp15_exact at);
}
