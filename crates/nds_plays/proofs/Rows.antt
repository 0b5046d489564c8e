use Rattle.nds_plays.proofs.Words.{List, [], ap, arith, drop, flat_map-append, halves, little_bytes, refl, sym, take, take-append-drop, ℕ, ◌*◌, ◌++◌}
use Rattle.nds_plays.proofs.Words.{◌+◌, ◌-◌, ◌∙◌, ◌≡◌}
use Rattle.std.proofs.Math.Seq.{take-add}

-- Pixels as bytes, row by row.

pub halves_join : (xs ys : List ℕ) → halves (xs ++ ys) ≡ halves xs ++ halves ys
unfolding halves
halves_join xs ys = flat_map-append (little_bytes 2) xs ys

pub halves_none : halves [] ≡ []
unfolding halves
halves_none = refl

-- the rows so far, and the next
pub rows_more : (xs : List ℕ) (row : ℕ) → halves (take (256 * row) xs) ++ halves (take 256 (drop (256 * row) xs)) ≡ halves (take (256 * (row + 1)) xs)
rows_more xs row =
    let e : 256 * row + 256 ≡ 256 * (row + 1) = omega arith in
    sym (halves_join (take (256 * row) xs) (take 256 (drop (256 * row) xs))) ∙ ap halves (sym (take-add (256 * row) 256 xs)) ∙ ap (λ (n : ℕ). halves (take n xs)) e

-- a row's bytes, as it is lent
pub row_lent : (xs : List ℕ) (row : ℕ) (bytes : List ℕ) → bytes ≡ halves (take (256 * row + 256 - 256 * row) (drop (256 * row) xs)) → bytes ≡ halves (take 256 (drop (256 * row) xs))
row_lent xs row bytes e = let n : 256 * row + 256 - 256 * row ≡ 256 = omega arith in e ∙ ap (λ (k : ℕ). halves (take k (drop (256 * row) xs))) n

-- the rows so far, and what is left
pub rows_rest : (xs : List ℕ) (row : ℕ) → halves (take (256 * row) xs) ++ halves (drop (256 * row) xs) ≡ halves xs
rows_rest xs row = sym (halves_join (take (256 * row) xs) (drop (256 * row) xs)) ∙ ap halves (take-append-drop (256 * row) xs)

-- the rows so far with the next, and what is left after them
pub rows_whole : (xs : List ℕ) (row : ℕ) → (halves (take (256 * row) xs) ++ halves (take 256 (drop (256 * row) xs))) ++ halves (drop (256 * (row + 1)) xs) ≡ halves xs
rows_whole xs row = ap (λ (x : List ℕ). x ++ halves (drop (256 * (row + 1)) xs)) (rows_more xs row) ∙ rows_rest xs (row + 1)
