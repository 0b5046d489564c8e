use Rattle.obj2d.proofs.Words.{sym, ◌∙◌}
use Rattle.obj2d.proofs.StripLemmas.{box_affine, box_flat}
use Rattle.obj2d.proofs.strips.tabled_strip.Goals as goal

pub returns-then-is_affine : goal.returns-then-is_affine
returns-then-is_affine c =
    box_affine c.args.vram.now c.args.palette.now c.args.oam.now c.args.display.now c.args.object.now c.args.y c.affine_strip.new.into
    (sym c.is_affine.ensures ∙ c.if-is_affine.true) c.affine_strip.ensures

pub returns-else-is_affine : goal.returns-else-is_affine
returns-else-is_affine c =
    box_flat c.args.vram.now c.args.palette.now c.args.oam.now c.args.display.now c.args.object.now c.args.y c.flat_strip.new.into
    (sym c.is_affine.ensures ∙ c.if-is_affine.false) c.flat_strip.ensures
