use Rattle.vram_banks.proofs.Words.{Banks, IsCellAt, IsOr, arith, subst, sym, ℕ, ◌+◌, ◌∙◌}
use Rattle.vram_banks.proofs.SetLaws.{byte_flat, byte_is_or}
use Rattle.vram_banks.proofs.banks.Vram.row.Goals as goal

pub returns-clause-value : goal.returns-clause-value
returns-clause-value c = λ i lt.
    c.loop-done.invariant.so_far i (omega arith) ∙ sym (byte_flat c.args.self.now c.args.space (c.args.at + i))

pub returns-clause-stands : goal.returns-clause-stands
returns-clause-stands c = λ i lt.
    let v : Banks = c.args.self.now in
    let same = c.loop-done.invariant.so_far i (omega arith) ∙ sym (byte_flat v c.args.space (c.args.at + i)) in
    let P : ℕ → Type 0 = λ value. IsOr (IsCellAt v c.args.space (c.args.at + i)) v.bytes value in
    subst P (sym same) (byte_is_or v c.args.space (c.args.at + i))
