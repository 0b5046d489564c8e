use Rattle.bg_ext.proofs.Words.{Half, Space, ap, arith, direct_pixel, vram_value, ℕ, ◌*◌, ◌+◌, ◌∙◌}
use Rattle.bg_ext.proofs.StraightLemmas.{straight_half}
use Rattle.bg_ext.proofs.lines.straight_halves.Goals as goal

pub returns : goal.returns
returns c = λ x lt.
    let a = c.args in
    let at : ℕ = c.halves_start.result + 2 * a.first in
    c.loop-x.invariant x (omega arith)
    ∙ ap (λ (s : Space). direct_pixel (vram_value a.vram.now s (at + 2 * x) Half)) c.background_space-space.ensures
    ∙ straight_half a.vram.now a.palette.now a.layer.now a.y a.first x at c.requires.bitmap c.requires.halves (c.requires.straight x lt)
    (ap (λ (n : ℕ). n + 2 * a.first) c.halves_start.ensures.value)
