use Rattle.video2d.proofs.Words.{ap, lanes_pixel, layers_through, palette_colour, put_all, put_turn, shown_bits_at, started, ◌∙◌}
use Rattle.video2d.proofs.compositions.lay_fronts.Goals as goal

pub returns : goal.returns
unfolding put_all
returns c = λ x small.
    let a = c.args in
    let e = a.engine.now in
    let layers = layers_through a.vram.now a.colours.now a.which e a.line (shown_bits_at a.shown.now x) (lanes_pixel a.objects.now x) x in
    c.lay_turn_front-4.ensures x small
    ∙ ap (put_turn e 0 layers)
    (c.lay_turn_front-3.ensures x small
    ∙ ap (put_turn e 1 layers)
    (c.lay_turn_front-2.ensures x small
    ∙ ap (put_turn e 2 layers)
    (c.lay_turn_front.ensures x small
    ∙ ap (put_turn e 3 layers)
    (c.start_fronts.ensures x small
    ∙ ap (λ b. started b c.laid_as.result) c.palette_colour.ensures
    ∙ ap (started (palette_colour a.colours.now 0)) c.laid_as.ensures.value))))
