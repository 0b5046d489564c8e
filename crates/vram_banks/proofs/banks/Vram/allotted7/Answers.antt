use Rattle.vram_banks.proofs.Words.{Arm7, Banks, allotted_bit, ap, get_or, subst, ◌%◌, ◌*◌, ◌+◌, ◌/◌, ◌∙◌, ◌≡◌}
use Rattle.vram_banks.specs.BankMap.{StandsIn}
use Rattle.vram_banks.proofs.MapLaws.{low_bit, high_bit}
use Rattle.vram_banks.proofs.banks.Vram.allotted7.Goals as goal

pub returns-clause-c : goal.returns-clause-c
returns-clause-c c =
    let sum = c.allotted_bit-c.result + 2 * c.allotted_bit-d.result in
    let P : Banks → Type 0 = λ s. (sum % 2 ≡ 1 → StandsIn 2 (get_or s.controls 2 0) Arm7) × (StandsIn 2 (get_or s.controls 2 0) Arm7 → sum % 2 ≡ 1) in
    subst P c.self.view_is (low_bit c.allotted_bit-c.result c.allotted_bit-d.result c.self.inside.map
    (c.allotted_bit-c.ensures ∙ ap allotted_bit c.control.ensures) (c.allotted_bit-d.ensures ∙ ap allotted_bit c.control-2.ensures))

pub returns-clause-d : goal.returns-clause-d
returns-clause-d c =
    let sum = c.allotted_bit-c.result + 2 * c.allotted_bit-d.result in
    let P : Banks → Type 0 = λ s. (sum / 2 % 2 ≡ 1 → StandsIn 3 (get_or s.controls 3 0) Arm7) × (StandsIn 3 (get_or s.controls 3 0) Arm7 → sum / 2 % 2 ≡ 1) in
    subst P c.self.view_is (high_bit c.allotted_bit-c.result c.allotted_bit-d.result c.self.inside.map
    (c.allotted_bit-c.ensures ∙ ap allotted_bit c.control.ensures) (c.allotted_bit-d.ensures ∙ ap allotted_bit c.control-2.ensures))
