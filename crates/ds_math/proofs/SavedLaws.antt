use Rattle.std.proofs.Common.{rules, ℕ, ◌≡◌, ◌≤◌, ◌^◌, true, refl}
use Rattle.ds_base.proofs.DueNumbers.{due_again, number_again}
use Rattle.ds_math.specs.Dividers.{DividerState, IsDivider}
use Rattle.ds_math.specs.Roots.{RootState, IsRootUnit}
use Rattle.ds_math.specs.Saved.{DividersAreSaved, RootsAreSaved, divider_format, root_format}
use Rattle.ds_base.specs.Schedules.{due_number}
use Rattle.ds_state.specs.Formats.{soon}
use Rattle.ds_state.proofs.Standing.{IsExact, StandsFor}
use Rattle.ds_state.proofs.Exact.{one_spelling, round_trips}
use Rattle.ds_state.proofs.Soon.{soon_fits}

-- What the units owe of their formats.

pub divider_exact : (at : ℕ) → IsExact divider_format at
unfolding divider_format
divider_exact at = λ mode _ _ numerator _ _ denominator _ _ quotient _ _ remainder _ _ due _ _. (number_again due, search rules)

pub root_exact : (at : ℕ) → IsExact root_format at
unfolding root_format
root_exact at = λ wide _ _ value _ _ root _ _ due _ _. (number_again due, search rules)

pub divider_stands : (at : ℕ) (d : DividerState) → at ≤ 2 ^ 56 → IsDivider d → soon at (due_number d.due) ≡ true → StandsFor divider_format at d
unfolding divider_format
divider_stands at d early is due =
    let fits = soon_fits at _ early due in
    let again = due_again d.due in
    let mode = is.mode in let numerator = is.numerator in let denominator = is.denominator in let quotient = is.quotient in let remainder = is.remainder in
    (search rules, rw again refl)

pub root_stands : (at : ℕ) (r : RootState) → at ≤ 2 ^ 56 → IsRootUnit r → soon at (due_number r.due) ≡ true → StandsFor root_format at r
unfolding root_format
root_stands at r early is due =
    let fits = soon_fits at _ early due in
    let again = due_again r.due in
    let value = is.value in let root = is.root in
    (search rules, rw again refl)

pub dividers_saved : DividersAreSaved
dividers_saved = record {
  back = λ at d early is due. round_trips divider_format at d (divider_stands at d early is due);
  spelling = λ at. one_spelling divider_format at (divider_exact at);
}

pub roots_saved : RootsAreSaved
roots_saved = record {
  back = λ at r early is due. round_trips root_format at r (root_stands at r early is due);
  spelling = λ at. one_spelling root_format at (root_exact at);
}
