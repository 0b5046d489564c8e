use Rattle.vram_banks.proofs.Words.{Banks, Half, arith, or_at, subst, sym, value_by, ◌∙◌, ◌≡◌}
use Rattle.vram_banks.proofs.CellLemmas.{value_of_empty, value_of_one}
use Rattle.vram_banks.proofs.banks.Vram.half.Goals as goal

pub returns-in-Empty : goal.returns-in-Empty
returns-in-Empty c =
    let v = c.self.inside in
    let P : Banks → Type 0 = λ s. 0 ≡ value_by Half (or_at s.controls s.bytes) c.args.x in
    subst P c.self.view_is (sym (value_of_empty Half v.map v.cells c.args.x c.in-Empty.ensures (omega arith)))

pub returns-in-One : goal.returns-in-One
returns-in-One c =
    let v = c.self.inside in
    let P : Banks → Type 0 = λ s. c.half.result ≡ value_by Half (or_at s.controls s.bytes) c.args.x in
    subst P c.self.view_is (c.half.ensures ∙ sym (value_of_one Half v.map v.cells c.args.x c.in-One.cell c.in-One.ensures (omega arith)))
