use Rattle.vram_banks.proofs.Words.{Banks, aligned_down, ap, or_at, value_by, ◌∙◌}
use Rattle.vram_banks.proofs.SetLaws.{value_flat}
use Rattle.vram_banks.proofs.banks.Vram.read_in_line.Goals as goal

pub returns-clause-value : goal.returns-clause-value
returns-clause-value c =
    let v : Banks = c.args.self.now in
    c.read_flat.ensures.value
    ∙ ap (λ at. value_by c.args.width (or_at v.controls v.bytes) (aligned_down c.args.width at)) c.flat.ensures.value
    ∙ value_flat v c.args.space c.args.at c.args.width
