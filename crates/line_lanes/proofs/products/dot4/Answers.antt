use Rattle.std.proofs.Common.{◌*◌, ◌∙◌, ℤ, List, rules}
use Rattle.std.specs.Int.{cast_unsigned, w32, w64}
use Rattle.std.specs.Int.RustNames.{FitsSigned}
use Rattle.std.proofs.lemmas.Int.{to_z-of_z}
use Rattle.line_lanes.specs.Matrices.{at}
use Rattle.line_lanes.proofs.ProductLemmas.{cell_of_lanes, from_zero}
use Rattle.line_lanes.proofs.products.dot4.Goals as goal

pub returns : goal.returns
returns c =
    let row : List ℤ = c.args.row in
    let column : List ℤ = c.args.column in
    let fits : FitsSigned w32 c.cell_of.result = search rules in
    to_z-of_z w32 c.cell_of.result fits
    ∙ c.cell_of.ensures
    ∙ rw (c.widened.ensures.value, c.widened-2.ensures.value, from_zero (cast_unsigned w64 (at row 0) * cast_unsigned w64 (at column 0)))
    (cell_of_lanes row column c.widened.ensures.words c.widened-2.ensures.words)
