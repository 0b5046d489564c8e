use Rattle.vram_banks.proofs.Words.{Banks, Byte, arith, or_at, subst, sym, value_by, ◌∙◌, ◌≡◌}
use Rattle.vram_banks.proofs.CellLemmas.{value_of_empty, value_of_one}
use Rattle.vram_banks.proofs.banks.Vram.byte.Goals as goal

pub returns-in-Empty : goal.returns-in-Empty
returns-in-Empty c =
    let v = c.self.inside in
    let P : Banks → Type 0 = λ s. 0 ≡ value_by Byte (or_at s.controls s.bytes) c.args.x in
    subst P c.self.view_is (sym (value_of_empty Byte v.map v.cells c.args.x c.in-Empty.ensures (omega arith)))

pub returns-in-One : goal.returns-in-One
returns-in-One c =
    let v = c.self.inside in
    let P : Banks → Type 0 = λ s. c.byte.result ≡ value_by Byte (or_at s.controls s.bytes) c.args.x in
    subst P c.self.view_is (c.byte.ensures ∙ sym (value_of_one Byte v.map v.cells c.args.x c.in-One.cell c.in-One.ensures (omega arith)))
