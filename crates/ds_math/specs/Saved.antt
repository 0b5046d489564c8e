use Rattle.std.specs.Prelude.{ℕ, ◌≡◌, ◌≤◌, ◌^◌, true}
use Rattle.ds_base.specs.Schedules.{due_number, numbered_due}
use Rattle.ds_math.specs.Dividers.{DividerState, IsDivider}
use Rattle.ds_math.specs.Roots.{RootState, IsRootUnit}
use Rattle.ds_state.specs.Formats.{Format, number_code, flag_code, tick, done, ◌>>=◌, one_field, any, at_most, soon}
use Rattle.ds_state.specs.FormatLaws.{OneSpelling, RoundTrips}

-- The units' states in bytes: each register as it stands, and the due tick of what runs.

unfoldable pub divider_format : Format DividerState DividerState
divider_format = do
  mode ← one_field (number_code 1) (λ d. d.mode) (at_most 3)
  numerator ← one_field (number_code 8) (λ d. d.numerator) any
  denominator ← one_field (number_code 8) (λ d. d.denominator) any
  quotient ← one_field (number_code 8) (λ d. d.quotient) any
  remainder ← one_field (number_code 8) (λ d. d.remainder) any
  due ← one_field tick (λ d. due_number d.due) soon
  done (record { mode = mode; numerator = numerator; denominator = denominator; quotient = quotient; remainder = remainder; due = numbered_due due })

unfoldable pub root_format : Format RootState RootState
root_format = do
  wide ← one_field flag_code (λ r. r.wide) any
  value ← one_field (number_code 8) (λ r. r.value) any
  root ← one_field (number_code 4) (λ r. r.root) any
  due ← one_field tick (λ r. due_number r.due) soon
  done (record { wide = wide; value = value; root = root; due = numbered_due due })

-- their bytes are read as they were, and bytes that are read are theirs
pub record DividersAreSaved : Type 0 where
  pub back : (at : ℕ) (d : DividerState) → at ≤ 2 ^ 56 → IsDivider d → soon at (due_number d.due) ≡ true → RoundTrips divider_format at d
  pub spelling : (at : ℕ) → OneSpelling divider_format at

pub record RootsAreSaved : Type 0 where
  pub back : (at : ℕ) (r : RootState) → at ≤ 2 ^ 56 → IsRootUnit r → soon at (due_number r.due) ≡ true → RoundTrips root_format at r
  pub spelling : (at : ℕ) → OneSpelling root_format at
