-- The bytes of a state field after field, as one list; what is written is that list behind what was there.
use Rattle.std.specs.Prelude.{List, ℕ, [], ◌∷◌, ◌++◌}
use Rattle.ds_state.specs.Formats.{Format, done, then_field, then_part, list, code_bytes}

-- the bytes of a state
abbrev pub bytes_each : {T : Type 0} → (T → List ℕ) → List T → List ℕ
bytes_each bytes [] = []
bytes_each bytes (t ∷ ts) = bytes t ++ bytes_each bytes ts

abbrev pub bytes_of : {S A : Type 0} → Format S A → S → List ℕ
bytes_of (done a) s = []
bytes_of (then_field c get rule next) s = code_bytes c (get s) ++ bytes_of (next (get s)) s
bytes_of (then_part f get next) s = bytes_of f (get s) ++ bytes_of (next (get s)) s
bytes_of (list n f get next) s = bytes_each (bytes_of f) (get s) ++ bytes_of (next (get s)) s
