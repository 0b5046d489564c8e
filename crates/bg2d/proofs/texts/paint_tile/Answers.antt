use Rattle.bg2d.proofs.Words.{Bool, ap, arith, bit, flipped, get_or, ℕ, ◌+◌, ◌∙◌}
use Rattle.bg2d.proofs.TilingLemmas.{table_256}
use Rattle.bg2d.proofs.texts.paint_tile.Goals as goal

pub returns : goal.returns
returns c = λ i lt.
    let a = c.args in
    let place : ℕ = flipped (bit 10 a.entry) i in
    let index : ℕ = get_or a.indices.now place 0 in
    let byte = c.type_inv.indices place in
    c.paint_by_table.ensures i lt
    ∙ ap (λ (b : Bool). get_or a.table.now (0 + get_or a.indices.now (flipped b i) 0) 0) c.flips_across.ensures
    ∙ c.requires.table (0 + index) (omega (arith, byte))
    ∙ table_256 a.vram.now a.palette.now a.layer.now a.entry index c.requires.wide c.requires.standard (omega (arith, byte))
