use Rattle.vram_banks.proofs.Words.{Banks, Byte, ap, arith, put_by, put_in_cells, slice_set, subst, sym, ℕ, ◌%◌, ◌∙◌, ◌≡◌}
use Rattle.vram_banks.proofs.CellLemmas.{with_bytes, put_to_empty, put_to_one}
use Rattle.vram_banks.proofs.banks.Vram.put_byte.Goals as goal

pub returns-in-Empty : goal.returns-in-Empty
returns-in-Empty c =
    let v = c.self.inside in
    let P : Banks → Type 0 = λ s. s ≡ record s { bytes = put_by Byte (put_in_cells s.controls) c.args.x c.args.value s.bytes } in
    subst P c.self.view_is (ap (with_bytes v.map) (sym (put_to_empty Byte v.map c.args.x c.args.value v.cells c.in-Empty.ensures (omega arith))))

pub returns-in-One : goal.returns-in-One
returns-in-One c =
    let v = c.self.inside in
    let small : c.args.value ≡ c.args.value % 256 = omega (arith, c.ranges.value) in
    let P : Banks → Type 0 = λ s. with_bytes v.map c.put_byte.new.self ≡ record s { bytes = put_by Byte (put_in_cells s.controls) c.args.x c.args.value s.bytes } in
    subst P c.self.view_is (ap (with_bytes v.map) (c.put_byte.ensures ∙ ap (λ (value : ℕ). slice_set v.cells c.in-One.cell value) small ∙ sym (put_to_one Byte v.map c.args.x c.args.value v.cells c.in-One.cell c.in-One.ensures (omega arith))))
