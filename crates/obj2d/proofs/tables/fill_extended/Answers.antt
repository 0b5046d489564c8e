use Rattle.obj2d.proofs.Words.{ap, rules, vram_byte, ℕ, ◌*◌, ◌+◌, ◌∙◌}
use Rattle.obj2d.proofs.StripLemmas.{coloured_extended}
use Rattle.obj2d.proofs.tables.fill_extended.Goals as goal

pub returns : goal.returns
returns c =
    let a = c.args in
    let at : ℕ = 512 * c.palette_number.result in
    coloured_extended a.vram.now a.palette.now a.display.now a.object.now c.row.new.into c.fill_table.new.into at
    c.requires.wide c.requires.extended (ap (λ (n : ℕ). 512 * n) c.palette_number.ensures.value)
    (λ i within. c.row.ensures.value i (search rules) ∙ ap (λ s. vram_byte a.vram.now s (at + i)) c.object_palette_space-space.ensures)
    c.fill_table.ensures
