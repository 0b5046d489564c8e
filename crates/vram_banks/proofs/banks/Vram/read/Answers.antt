use Rattle.vram_banks.proofs.Words.{Banks, IsRead, subst, sym, ℕ}
use Rattle.vram_banks.proofs.SetLaws.{is_read}
use Rattle.vram_banks.proofs.banks.Vram.read.Goals as goal

pub returns-clause-stands : goal.returns-clause-stands
returns-clause-stands c =
    let v : Banks = c.args.self.now in
    let P : ℕ → Type 0 = λ value. IsRead v c.args.space c.args.at c.args.width value in
    subst P (sym c.read_in_line.ensures.value) (is_read v c.args.space c.args.at c.args.width)
