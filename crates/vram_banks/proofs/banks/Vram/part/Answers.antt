use Rattle.vram_banks.proofs.Words.{Banks, List, ap, arith, get_or, get_or-replicate, length, or_at, subst, sym, ℕ, ◌+◌, ◌<◌, ◌∙◌, ◌≡◌}
use Rattle.vram_banks.proofs.CellLemmas.{part_of_empty, part_of_one, index_of_range}
use Rattle.vram_banks.proofs.banks.Vram.part.Goals as goal

pub returns-in-Empty : goal.returns-in-Empty
returns-in-Empty c = λ i lt.
    let v = c.self.inside in
    let filled = c.fill.ensures.after (λ y h. h) in
    let same = c.fill.ensures.len in
    let within : i < length c.args.into.now = omega (arith, same) in
    let P : Banks → Type 0 = λ s. get_or c.fill.new.self i 0 ≡ or_at s.controls s.bytes (c.args.x + i) in
    subst P c.self.view_is
    (ap (λ (row : List ℕ). get_or row i 0) filled ∙ get_or-replicate (length c.args.into.now) i 0 0 within
    ∙ sym (part_of_empty v.map v.cells c.args.x i c.in-Empty.ensures (omega arith)))

pub returns-in-One : goal.returns-in-One
returns-in-One c = λ i lt.
    let v = c.self.inside in
    let same = ap length c.copy.ensures in
    let long = c.copy.auto.into in
    let within : i < length c.args.into.now = omega (arith, long) in
    let P : Banks → Type 0 = λ s. get_or c.copy.new.into i 0 ≡ or_at s.controls s.bytes (c.args.x + i) in
    subst P c.self.view_is
    (ap (λ (row : List ℕ). get_or row i 0) c.copy.ensures ∙ index_of_range v.cells c.in-One.cell (length c.args.into.now) i within
    ∙ sym (part_of_one v.map v.cells c.args.x c.in-One.cell i c.in-One.ensures (omega arith)))
