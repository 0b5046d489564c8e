-- Reading the names of keys.
use Rattle.std.specs.Prelude.{ℕ, suc, ◌+◌, ◌*◌, ◌==◌, ◌&&◌, Bool, true, List, [], ◌∷◌, length, drop, Result, Ok, Err, if◌then◌else◌}
use Prim.Native.Nat.{max}

-- how many bytes a text has in common with the front of a piece
abbrev pub common : List ℕ → List ℕ → ℕ
common [] text = 0
common (p ∷ piece) [] = 0
common (p ∷ piece) (b ∷ text) = if p == b then suc (common piece text) else 0

-- a name may end before this: nothing, or a plus sign
abbrev pub may_end : List ℕ → Bool
may_end [] = true
may_end (b ∷ bs) = b == 43

-- a piece stands whole at the front of a text
unfoldable pub stands : List ℕ → List ℕ → Bool
stands piece text = (common piece text == length piece) && may_end (drop (length piece) text)

-- what the names after one tell, with that name, which has so many bytes with its mark
abbrev pub after_name : ℕ → Result ℕ ℕ → Result ℕ ℕ
after_name count (Ok bits) = Ok (1 + 2 * bits)
after_name count (Err most) = Err (count + most)

-- the same without it, where so many bytes of it stand there
abbrev pub passed : ℕ → Result ℕ ℕ → Result ℕ ℕ
passed count (Ok bits) = Ok (2 * bits)
passed count (Err most) = Err (max count most)

-- the bits of names that are the whole text, the next one after a mark; or how many bytes of the text can be the front of such names
abbrev pub names_from : ℕ → List (List ℕ) → List ℕ → Result ℕ ℕ
names_from mark [] [] = Ok 0
names_from mark [] (b ∷ bs) = Err 0
names_from mark (name ∷ names) text =
    if stands (mark ∷ name) text then after_name (length (mark ∷ name)) (names_from 43 names (drop (length (mark ∷ name)) text))
    else passed (common (mark ∷ name) text) (names_from mark names text)

-- what a loop over the names has at its end: the bits so far, the weight of the next name's bit, where the next mark would stand, and how
-- many bytes can be the front of a line so far
abbrev pub outcome : ℕ → ℕ → ℕ → ℕ → Result ℕ ℕ → Result ℕ ℕ
outcome bits weight at reached (Ok more) = Ok (bits + weight * more)
outcome bits weight at reached (Err most) = Err (max reached (at + most))
