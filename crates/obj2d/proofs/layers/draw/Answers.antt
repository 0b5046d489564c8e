use Rattle.obj2d.proofs.Words.{Object, ap, box_width, is_drawn, lanes_pixel, left_edge, priority, seen_at, subst, sym, true, ◌+◌, ◌∙◌, ◌≡◌}
use Rattle.obj2d.proofs.StripLemmas.{drawn, nothing_seen, rank_of, seen_covered}
use Rattle.obj2d.proofs.LayerLemmas.{within_more}
use Rattle.obj2d.proofs.layers.draw.Goals as goal

pub returns-then-is_drawn_at-clause-row : goal.returns-then-is_drawn_at-clause-row
returns-then-is_drawn_at-clause-row c =
    let a = c.args in
    let IsDrawn : Object → Type 0 = λ (o : Object). is_drawn a.display.now.control o a.line ≡ true in
    drawn a.vram.now a.palette.now a.oam.now a.display.now a.line a.number c.object_at-object.result c.down-y.result
    c.strip.new.into (lanes_pixel a.into.now) (lanes_pixel c.lay.new.into) c.object_at-object.ensures
    (subst IsDrawn (sym c.object_at-object.ensures) (sym c.is_drawn_at.ensures ∙ c.if-is_drawn_at.true)) c.down-y.ensures.value
    c.strip.ensures c.lay.ensures

pub returns-else-is_drawn_at-clause-row : goal.returns-else-is_drawn_at-clause-row
returns-else-is_drawn_at-clause-row c = λ x small.
    let a = c.args in
    sym (nothing_seen a.vram.now a.palette.now a.oam.now a.display.now a.line a.number x (lanes_pixel a.into.now x)
    (sym c.is_drawn_at.ensures ∙ c.if-is_drawn_at.false))

pub returns-then-is_drawn_at-clause-within : goal.returns-then-is_drawn_at-clause-within
returns-then-is_drawn_at-clause-within c =
    let a = c.args in
    let span = c.on_screen-span in
    within_more (λ x. seen_at a.vram.now a.palette.now a.oam.now a.display.now a.line x a.number) a.into.now c.lay.new.into a.spans.now c.widen.new.spans c.priority.result
    span.result.start (span.result.start + span.result.count)
    (λ x. rank_of a.vram.now a.palette.now a.oam.now a.display.now a.line x a.number c.priority.result
    (c.priority.ensures.value ∙ ap priority c.object_at-object.ensures))
    (λ x small full. seen_covered a.vram.now a.palette.now a.oam.now a.display.now a.line a.number x c.left_edge.result c.box_width.result
    span.result.start span.result.count small
    (c.left_edge.ensures.value ∙ ap left_edge c.object_at-object.ensures) (c.box_width.ensures.value ∙ ap box_width c.object_at-object.ensures)
    c.box_width.ensures.small span.ensures.start span.ensures.count full)
    (returns-then-is_drawn_at-clause-row c) c.widen.ensures.here c.widen.ensures.kept c.requires.within
