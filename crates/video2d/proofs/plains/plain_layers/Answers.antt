use Rattle.video2d.proofs.Words.{ap, sym, ◌%◌, ◌^◌, ◌∙◌}
use Rattle.video2d.proofs.PlainLemmas.{backdrop_alone}
use Rattle.video2d.proofs.plains.plain_layers.Goals as goal

pub returns-then-has_no_backgrounds : goal.returns-then-has_no_backgrounds
returns-then-has_no_backgrounds c = λ x small.
    let a = c.args in
    c.fill.ensures x small
    ∙ ap (λ colour. colour % 2 ^ 15) c.palette_colour.ensures
    ∙ backdrop_alone a.vram.now a.colours.now a.which a.engine.now a.line x (sym c.has_no_backgrounds.ensures ∙ c.if-has_no_backgrounds.true)
