use Rattle.bg_ext.proofs.Words.{None, Some, ext_across, ◌∙◌}
use Rattle.bg_ext.proofs.LevelLemmas.{level_pixel, level_clear}
use Rattle.bg_ext.proofs.extended.level_row.Goals as goal

pub returns-in-None : goal.returns-in-None
returns-in-None c = λ x lt.
    c.clear.ensures x lt
    ∙ level_clear c.args.vram.now c.args.palette.now c.args.layer.now (ext_across c.args.layer.now x)
    ∙ level_pixel c.args.vram.now c.args.palette.now c.args.layer.now x None c.requires.level c.in-None.ensures.value

pub returns-in-Some : goal.returns-in-Some
returns-in-Some c = λ x lt.
    c.line_row.ensures x lt
    ∙ level_pixel c.args.vram.now c.args.palette.now c.args.layer.now x (Some c.in-Some.y) c.requires.level c.in-Some.ensures.value
