use Rattle.std.proofs.Common.{ℕ, ◌≡◌, ◌*◌, ◌%◌, ◌^◌, ◌∙◌, ℤ, pos, List, [], ◌∷◌, map, rules, get_or, subst}
use Rattle.std.specs.Int.{cast_unsigned, w32, w64}
use Rattle.std.specs.Int.RustNames.{FitsSigned}
use Rattle.std.proofs.lemmas.Int.{to_z-of_z}
use Rattle.line_lanes.specs.declared.matrices.Matrix.{Matrix}
use Rattle.line_lanes.specs.Lanes.{AreSignedWords, wide}
use Rattle.line_lanes.specs.Matrices.{at, cell, row_of, column_of}
use Rattle.line_lanes.proofs.ProductLemmas.{cell_of_lanes}
use Rattle.line_lanes.proofs.products.transform4.Goals as goal

-- a number of the vector times a row of the matrix
abbrev scaled : ℤ → List ℤ → List ℕ
scaled by row = map (λ x. cast_unsigned w64 by * x % 2 ^ 64) (wide row)

pub returns : goal.returns
unfolding Rattle.line_lanes.specs.Matrices.transform4
returns c =
    let v : List ℤ = c.args.vector in
    let m : Matrix = c.args.matrix.now in
    let v0 : FitsSigned w32 (get_or v 0 (pos 0)) = search rules in
    let v1 : FitsSigned w32 (get_or v 1 (pos 0)) = search rules in
    let v2 : FitsSigned w32 (get_or v 2 (pos 0)) = search rules in
    let v3 : FitsSigned w32 (get_or v 3 (pos 0)) = search rules in
    let words : AreSignedWords v = (v0, v1, v2, v3) in
    let a : AreSignedWords (row_of m 0) = subst AreSignedWords c.row.ensures c.scaled-first.ensures.words in
    let b : AreSignedWords (row_of m 1) = subst AreSignedWords c.row-2.ensures c.scaled-second.ensures.words in
    let d : AreSignedWords (row_of m 2) = subst AreSignedWords c.row-3.ensures c.scaled-third.ensures.words in
    let e : AreSignedWords (row_of m 3) = subst AreSignedWords c.row-4.ensures c.scaled-fourth.ensures.words in
    let first : c.scaled-first.result ≡ scaled (at v 0) (row_of m 0) = rw (to_z-of_z w32 (at v 0) v0, c.row.ensures) at c.scaled-first.ensures.value in
    let second : c.scaled-second.result ≡ scaled (at v 1) (row_of m 1) = rw (to_z-of_z w32 (at v 1) v1, c.row-2.ensures) at c.scaled-second.ensures.value in
    let third : c.scaled-third.result ≡ scaled (at v 2) (row_of m 2) = rw (to_z-of_z w32 (at v 2) v2, c.row-3.ensures) at c.scaled-third.ensures.value in
    let fourth : c.scaled-fourth.result ≡ scaled (at v 3) (row_of m 3) = rw (to_z-of_z w32 (at v 3) v3, c.row-4.ensures) at c.scaled-fourth.ensures.value in
    let c0 = cell_of_lanes v (column_of m 0) words (a.0, b.0, d.0, e.0) in
    let c1 = cell_of_lanes v (column_of m 1) words (a.1, b.1, d.1, e.1) in
    let c2 = cell_of_lanes v (column_of m 2) words (a.2, b.2, d.2, e.2) in
    let c3 = cell_of_lanes v (column_of m 3) words (a.3, b.3, d.3, e.3) in
    c.cells_of.ensures ∙ rw (first, second, third, fourth) (λ i. c0 i ∷ c1 i ∷ c2 i ∷ c3 i ∷ [])
