use Rattle.obj2d.proofs.Words.{ap, sym, ℕ, ◌%◌, ◌*◌, ◌/◌, ◌^◌, ◌∙◌}
use Rattle.obj2d.proofs.StripLemmas.{coloured_16, coloured_256, off_by}
use Rattle.obj2d.proofs.strips.strip.Goals as goal

pub tabled_strip-requires-clause-table : goal.tabled_strip-requires-clause-table
tabled_strip-requires-clause-table c =
    let a = c.args in
    coloured_16 a.vram.now a.palette.now a.display.now a.object.now a.tables.now.narrow (16 * c.palette_number.result)
    (sym c.object_has_256.ensures ∙ c.if-not-object_has_256.true) (ap (λ (n : ℕ). 16 * n) c.palette_number.ensures.value) c.requires.narrow

pub tabled_strip-requires-else-display-eq1-clause-table : goal.tabled_strip-requires-else-display-eq1-clause-table
tabled_strip-requires-else-display-eq1-clause-table c =
    let a = c.args in
    coloured_256 a.vram.now a.palette.now a.display.now a.object.now a.tables.now.wide
    (sym c.object_has_256.ensures ∙ c.if-not-object_has_256.false) (off_by (a.display.now.control / 2 ^ 31 % 2) c.if-display-eq1.false) c.requires.wide
