use Rattle.video2d.proofs.Words.{ObjectPixel, ap, engine_number, object_pixel, sym, ℕ, ◌∙◌}
use Rattle.video2d.specs.rows.Plain.{calm_over}
use Rattle.video2d.proofs.PlainLemmas.{calm_blank}
use Rattle.video2d.proofs.plains.calm_line.Goals as goal

pub returns-then-has_objects : goal.returns-then-has_objects
returns-then-has_objects c = λ x small.
    let a = c.args in
    let pixel : ℕ → ℕ → ObjectPixel =
    λ n k. object_pixel a.vram.now a.object_colours.now a.oam.now (record { engine = n; control = k }) a.line x in
    c.lay_turns.ensures x small
    ∙ ap (calm_over a.vram.now a.colours.now a.which a.engine.now a.line x)
    (c.object_lanes-has_objects.ensures.row c.if-has_objects.true x small
    ∙ ap (λ n. pixel n c.dispcnt-control.result) c.number.ensures
    ∙ ap (λ k. pixel (engine_number a.which) k) c.dispcnt-control.ensures)

pub returns-else-has_objects : goal.returns-else-has_objects
returns-else-has_objects c = λ x small.
    let a = c.args in
    let pixel : ℕ → ℕ → ObjectPixel =
    λ n k. object_pixel a.vram.now a.object_colours.now a.oam.now (record { engine = n; control = k }) a.line x in
    c.plain_layers.ensures x small
    ∙ calm_blank a.vram.now a.colours.now a.which a.engine.now a.line x
    ∙ ap (calm_over a.vram.now a.colours.now a.which a.engine.now a.line x)
    (sym (c.object_lanes-has_objects.ensures.none c.if-has_objects.false x small)
    ∙ ap (λ n. pixel n c.dispcnt-control.result) c.number.ensures
    ∙ ap (λ k. pixel (engine_number a.which) k) c.dispcnt-control.ensures)
