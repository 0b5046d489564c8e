use Rattle.std.specs.Prelude.{ℕ, ◌==◌, Bool, [], ◌∷◌, slice_index}
use Rattle.ds_state.specs.Formats.{Format, number_code, array, done, ◌>>=◌, one_field, any}
use Rattle.ds_state.specs.FormatLaws.{OneSpelling, RoundTrips}
use Rattle.vram_banks.specs.BankMap.{kept_bank_control}
use Rattle.vram_banks.specs.Cells.{Banks, AreBanks}

-- Video memory in bytes: the 656K of all banks as they lie, and the nine controls, from A's on.

unfoldable pub banks_size : ℕ
banks_size = 0xA4000

-- a control has only the bits that its bank keeps
abbrev pub keeps_control : ℕ → ℕ → ℕ → Bool
keeps_control bank at control = kept_bank_control bank control == control

abbrev pub control_field : ℕ → Format Banks ℕ
control_field bank = one_field (number_code 1) (λ v. slice_index v.controls bank) (keeps_control bank)

unfoldable pub banks_format : Format Banks Banks
banks_format = do
  bytes ← one_field (array banks_size) (λ v. v.bytes) any
  a ← control_field 0
  b ← control_field 1
  c ← control_field 2
  d ← control_field 3
  e ← control_field 4
  f ← control_field 5
  g ← control_field 6
  h ← control_field 7
  i ← control_field 8
  done (record { bytes = bytes; controls = a ∷ b ∷ c ∷ d ∷ e ∷ f ∷ g ∷ h ∷ i ∷ [] })

-- its bytes are read as it was, and bytes that are read are its bytes
pub record BanksAreSaved : Type 0 where
  pub back : (at : ℕ) (v : Banks) → AreBanks v → RoundTrips banks_format at v
  pub spelling : (at : ℕ) → OneSpelling banks_format at
