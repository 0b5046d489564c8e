use Rattle.std.proofs.Common.{◌∙◌}
use Rattle.nds_records.specs.Numbers.{halves}
use Rattle.nds_records.proofs.Joined.{polygon_laid}
use Rattle.nds_records.proofs.lists.polygon_bytes.Goals as goal

pub returns : goal.returns
returns c =
    let p = c.args.polygon.now in
    polygon_laid c.copy_from_slice.new.self c.copy_from_slice-2.new.self (halves p.indices) p.corners p.attributes p.texture p.palette p.viewport
    (c.copy_from_slice.ensures.after ∙ c.attribute_bytes.ensures) (c.copy_from_slice-2.ensures.after ∙ c.index_bytes.ensures)
