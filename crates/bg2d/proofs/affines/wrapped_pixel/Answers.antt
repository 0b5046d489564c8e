use Rattle.bg2d.proofs.Words.{◌∙◌}
use Rattle.bg2d.proofs.AffineLemmas.{wrapped_is_pixel}
use Rattle.bg2d.proofs.affines.wrapped_pixel.Goals as goal

pub returns : goal.returns
returns c =
    let a = c.args in
    c.affine_point_pixel.ensures
    ∙ wrapped_is_pixel a.vram.now a.palette.now a.layer.now a.x c.wrapped_across-across.result c.wrapped_down-down.result c.requires.wraps
    c.wrapped_across-across.ensures.value c.wrapped_down-down.ensures.value
