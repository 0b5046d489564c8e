use Rattle.obj2d.proofs.Words.{Bool, ap, arith, flipped, flips_across, get_or, vram_byte, ℕ, ◌+◌, ◌<◌, ◌∙◌, ◌≡◌}
use Rattle.obj2d.proofs.StripLemmas.{flipped_below, wide_point}
use Rattle.obj2d.proofs.strips.paint_wide_tile.Goals as goal

pub paint_by_table-requires-clause-inside : goal.paint_by_table-requires-clause-inside
paint_by_table-requires-clause-inside c = λ i lt.
    let a = c.args in
    let there : get_or c.copy_eight.new.into i 0 ≡ vram_byte a.vram.now c.object_space.result (a.at + i) = c.copy_eight.ensures i lt in
    let byte = c.bank_laws.ensures.narrow c.object_space.result (a.at + i) in
    omega (arith, there, byte)

pub returns : goal.returns
returns c = λ i lt.
    let a = c.args in
    let place : ℕ = flipped (flips_across a.object.now) i in
    let below : place < 8 = flipped_below (flips_across a.object.now) i lt in
    let index : ℕ = get_or c.copy_eight.new.into place 0 in
    let there : index ≡ vram_byte a.vram.now c.object_space.result (a.at + place) = c.copy_eight.ensures place below in
    let byte = c.bank_laws.ensures.narrow c.object_space.result (a.at + place) in
    let small : index < 256 = omega (arith, there, byte) in
    c.paint_by_table.ensures i lt
    ∙ ap (λ (b : Bool). get_or a.table.now (0 + get_or c.copy_eight.new.into (flipped b i) 0) 0) c.flips_across.ensures
    ∙ wide_point a.vram.now a.palette.now a.display.now a.object.now a.table.now a.at a.y a.tx place index
    c.requires.wide c.requires.table c.requires.place below small
    (there ∙ ap (λ s. vram_byte a.vram.now s (a.at + place)) c.object_space.ensures)
