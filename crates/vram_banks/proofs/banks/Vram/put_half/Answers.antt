use Rattle.vram_banks.proofs.Words.{Banks, Half, ap, arith, put_by, put_in_cells, subst, sym, ◌∙◌, ◌≡◌}
use Rattle.vram_banks.proofs.CellLemmas.{with_bytes, put_to_empty, put_to_one}
use Rattle.vram_banks.proofs.banks.Vram.put_half.Goals as goal

pub returns-in-Empty : goal.returns-in-Empty
returns-in-Empty c =
    let v = c.self.inside in
    let P : Banks → Type 0 = λ s. s ≡ record s { bytes = put_by Half (put_in_cells s.controls) c.args.x c.args.value s.bytes } in
    subst P c.self.view_is (ap (with_bytes v.map) (sym (put_to_empty Half v.map c.args.x c.args.value v.cells c.in-Empty.ensures (omega arith))))

pub returns-in-One : goal.returns-in-One
returns-in-One c =
    let v = c.self.inside in
    let P : Banks → Type 0 = λ s. with_bytes v.map c.put_half.new.self ≡ record s { bytes = put_by Half (put_in_cells s.controls) c.args.x c.args.value s.bytes } in
    subst P c.self.view_is (ap (with_bytes v.map) (c.put_half.ensures ∙ sym (put_to_one Half v.map c.args.x c.args.value v.cells c.in-One.cell c.in-One.ensures (omega arith))))
