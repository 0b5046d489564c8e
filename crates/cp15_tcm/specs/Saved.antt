use Rattle.std.specs.Prelude.{ℕ, bit_and, bit_or}
use Rattle.cp15_tcm.specs.Registers.{Cp15State, IsCp15, control_mask, control_ones, dtcm_mask, itcm_mask}
use Rattle.ds_state.specs.Formats.{Format, number_code, done, ◌>>=◌, one_field, keeps_mask}
use Rattle.ds_state.specs.FormatLaws.{OneSpelling, RoundTrips}

-- CP15 in bytes (our choice of form): the kept bits of its three registers.
unfoldable pub cp15_format : Format Cp15State Cp15State
cp15_format = do
  control ← one_field (number_code 4) (λ s. bit_and s.control control_mask) (keeps_mask control_mask)
  dtcm ← one_field (number_code 4) (λ s. s.dtcm) (keeps_mask dtcm_mask)
  itcm ← one_field (number_code 4) (λ s. s.itcm) (keeps_mask itcm_mask)
  done (record { control = bit_or control control_ones; dtcm = dtcm; itcm = itcm })

-- its bytes are read as it was, and bytes that are read are its own
pub record Cp15sAreSaved : Type 0 where
  pub back : (at : ℕ) (s : Cp15State) → IsCp15 s → RoundTrips cp15_format at s
  pub spelling : (at : ℕ) → OneSpelling cp15_format at
