use Rattle.bg2d.proofs.Words.{Bool, ap, arith, bit, flipped, get_or, indexed_pixel, palette_colour, ℕ, ◌+◌, ◌∙◌}
use Rattle.bg2d.proofs.TilingLemmas.{kept_pixel}
use Rattle.bg2d.proofs.texts.paint_extended_tile.Goals as goal

pub returns-clause-pixels : goal.returns-clause-pixels
returns-clause-pixels c = λ i lt.
    let a = c.args in
    let kept = c.keep_palette.new.kept in
    let place : ℕ = flipped (bit 10 a.entry) i in
    let byte = c.type_inv.indices place in
    c.paint_standard.ensures i lt
    ∙ ap (λ (b : Bool). indexed_pixel (λ k. palette_colour kept.bytes (0 + k)) (get_or a.indices.now (flipped b i) 0)) c.flips_across-flip.ensures
    ∙ kept_pixel a.vram.now a.palette.now a.layer.now a.entry (get_or a.indices.now place 0) kept c.requires.extended (omega (arith, byte)) c.keep_palette.ensures.value
    (c.keep_palette.ensures.at ∙ c.extended_palette-at.ensures)
