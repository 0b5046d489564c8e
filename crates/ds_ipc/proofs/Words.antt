use Rattle.std.proofs.Common.{◌≡◌, ℕ, List, [], ◌∷◌, ◌++◌, refl}
use Rattle.ds_state.specs.Formats.{written_each}

-- A list that is put in two pieces is put.
pub in_pieces : (write : List ℕ → ℕ → List ℕ) (before front back : List ℕ) → written_each write (written_each write before front) back ≡ written_each write before (front ++ back)
in_pieces write before [] back = refl
in_pieces write before (word ∷ front) back = in_pieces write (write before word) front back
