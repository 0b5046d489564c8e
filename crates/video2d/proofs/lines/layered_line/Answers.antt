use Rattle.video2d.proofs.Words.{sym, ◌∙◌}
use Rattle.video2d.proofs.PlainLemmas.{calm_layered, plain_layered}
use Rattle.video2d.proofs.lines.layered_line.Goals as goal

pub returns-then-is_plain : goal.returns-then-is_plain
returns-then-is_plain c = λ x small.
    let a = c.args in
    c.plain_layers.ensures x small
    ∙ plain_layered a.vram.now a.colours.now a.object_colours.now a.oam.now a.which a.engine.now a.line x small (sym c.is_plain.ensures ∙ c.if-is_plain.true)

pub returns-then-is_calm : goal.returns-then-is_calm
returns-then-is_calm c = λ x small.
    let a = c.args in
    c.calm_line.ensures x small
    ∙ calm_layered a.vram.now a.colours.now a.object_colours.now a.oam.now a.which a.engine.now a.line x (sym c.is_calm.ensures ∙ c.if-is_calm.true)
