-- What a unit owes for its format.
use Rattle.std.specs.Prelude.{ℕ, ◌≡◌, ◌+◌, ◌<◌, List, [], ◌++◌, length, slice_index, Ok}
use Rattle.ds_state.specs.Formats.{Format, bytes_written}
use Rattle.ds_state.specs.Reading.{Left, read_format}

-- the bytes of a state, whatever stands behind them, are read as that state, and what is left is what stands behind
abbrev pub RoundTrips : {S : Type 0} → Format S S → ℕ → S → Type 0
RoundTrips f at s =
    (place : ℕ) (rest : List ℕ) → read_format f at (record { place = place; bytes = bytes_written f [] s ++ rest })
    ≡ Ok (s, record { place = place + length (bytes_written f [] s); bytes = rest })

-- bytes that are read as a state are its bytes, and then what is left
abbrev pub OneSpelling : {S : Type 0} → Format S S → ℕ → Type 0
OneSpelling {S = S} f at =
    (place : ℕ) (bytes : List ℕ) (s : S) (left : Left) → ((i : ℕ) → slice_index bytes i < 256)
    → read_format f at (record { place = place; bytes = bytes }) ≡ Ok (s, left)
    → bytes ≡ bytes_written f [] s ++ left.bytes
