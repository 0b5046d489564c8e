use Rattle.std.proofs.Common.{[], ◌∷◌, ◌∙◌}
use Rattle.nds_records.specs.Numbers.{halves}
use Rattle.nds_records.specs.Lists.{half_of, word_of}
use Rattle.nds_records.proofs.Joined.{vertex_laid}
use Rattle.nds_records.proofs.lists.vertex_bytes.Goals as goal

pub returns : goal.returns
returns c =
    let v = c.args.vertex.now in
    vertex_laid c.copy_from_slice.new.self c.copy_from_slice-2.new.self (halves (v.colour ∷ half_of v.s ∷ half_of v.t ∷ [])) (word_of v.x) (word_of v.y) (word_of v.z) (word_of v.w)
    (c.copy_from_slice.ensures.after ∙ c.coordinate_bytes.ensures) (c.copy_from_slice-2.ensures.after ∙ c.colour_bytes.ensures)
