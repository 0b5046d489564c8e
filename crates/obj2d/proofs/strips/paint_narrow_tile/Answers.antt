use Rattle.obj2d.proofs.Words.{Bool, ap, arith, flipped, flips_across, get_or, nibble_at, vram_byte, ℕ, ◌%◌, ◌*◌, ◌+◌, ◌/◌, ◌<◌, ◌^◌, ◌∙◌}
use Rattle.obj2d.proofs.StripLemmas.{flipped_below, narrow_point}
use Rattle.obj2d.proofs.strips.paint_narrow_tile.Goals as goal

pub returns : goal.returns
returns c = λ i lt.
    let a = c.args in
    let word : ℕ = c.row_word-word.result in
    let place : ℕ = flipped (flips_across a.object.now) i in
    let below : place < 8 = flipped_below (flips_across a.object.now) i lt in
    c.paint_nibbles.ensures i lt
    ∙ ap (λ (b : Bool). get_or a.table.now (a.start + word / 2 ^ (4 * flipped b i) % 16) 0) c.flips_across.ensures
    ∙ narrow_point a.vram.now a.palette.now a.display.now a.object.now a.table.now a.start a.at a.y a.tx place (word / 2 ^ (4 * place) % 16)
    c.requires.narrow c.requires.table c.requires.place below (omega arith)
    (c.row_word-word.ensures place below ∙ ap (λ s. nibble_at place (vram_byte a.vram.now s (a.at + place / 2))) c.object_space.ensures)
