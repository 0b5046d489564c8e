use Rattle.vram_banks.proofs.Words.{Banks, IsWritten, aligned_down, ap, length, put_by, put_in_cells, subst, sym, vram_written, ℕ, ◌∙◌, ◌≡◌}
use Rattle.vram_banks.proofs.SetLaws.{written_flat, is_written}
use Rattle.vram_banks.proofs.banks.Vram.write.Goals as goal

pub returns : goal.returns
returns c =
    let v : Banks = c.args.self.now in
    let place = ap (aligned_down c.args.width) c.flat.ensures.value in
    let same : c.write_flat.new.self ≡ vram_written v c.args.space c.args.at c.args.width c.args.value =
    c.write_flat.ensures ∙ ap (λ (x : ℕ). record v { bytes = put_by c.args.width (put_in_cells v.controls) x c.args.value v.bytes }) place
    ∙ sym (written_flat v c.args.space c.args.at c.args.width c.args.value) in
    let L : Banks → Type 0 = λ s. length s.bytes ≡ 0xA4000 in
    let P : Banks → Type 0 = λ s. IsWritten v s c.args.space c.args.at c.args.width c.args.value in
    record { value = same; changed = subst P (sym same) (is_written v c.args.space c.args.at c.args.width c.args.value (subst L c.self.view_is c.self.invariant)) }
