use Rattle.video2d.proofs.Words.{ap, bit, finished_where, lanes_pixel, shown_bits_at, ◌∙◌}
use Rattle.video2d.proofs.LineLemmas.{line_composed}
use Rattle.video2d.proofs.compositions.composed_line.Goals as goal

pub returns : goal.returns
returns c = λ x small.
    let a = c.args in
    let e = a.engine.now in
    let here = shown_bits_at c.find_shown.new.into x in
    c.finish_line.ensures x small
    ∙ ap (finished_where (bit 5 here) e) (c.lay_fronts.ensures x small)
    ∙ line_composed a.vram.now a.colours.now a.object_colours.now a.oam.now a.which e a.line x here _ (lanes_pixel c.draw_objects-spans.new.into x)
    (c.draw_objects-spans.ensures.row x small)
    (c.find_shown.ensures x small)
    (c.hide.ensures x small)
