use Rattle.bg_ext.proofs.Words.{Space, ap, arith, indexed_pixel, palette_colour, vram_byte, ℕ, ◌+◌, ◌∙◌}
use Rattle.bg_ext.proofs.StraightLemmas.{straight_byte}
use Rattle.bg_ext.proofs.lines.straight_bytes.Goals as goal

pub returns : goal.returns
returns c = λ x lt.
    let a = c.args in
    let at : ℕ = c.bytes_start.result + a.first in
    let long = c.row.auto.into in
    c.loop-x.invariant x (omega arith)
    ∙ ap (indexed_pixel (palette_colour a.palette.now))
    (c.row.ensures.value x (omega (arith, long, lt)) ∙ ap (λ (s : Space). vram_byte a.vram.now s (at + x)) c.background_space.ensures)
    ∙ straight_byte a.vram.now a.palette.now a.layer.now a.y a.first x at c.requires.bitmap c.requires.bytes (c.requires.straight x lt)
    (ap (λ (n : ℕ). n + a.first) c.bytes_start.ensures.value)
