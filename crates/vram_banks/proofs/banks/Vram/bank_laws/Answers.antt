use Rattle.vram_banks.proofs.Words.{Banks, subst, vram_byte, ◌<◌}
use Rattle.vram_banks.proofs.Allotted.{stands_in_seven}
use Rattle.vram_banks.proofs.SetLaws.{byte_narrow}
use Rattle.vram_banks.proofs.banks.Vram.bank_laws.Goals as goal

pub returns-clause-narrow : goal.returns-clause-narrow
returns-clause-narrow c = λ space at.
    let P : Banks → Type 0 = λ v. vram_byte v space at < 256 in
    subst P c.self.view_is (byte_narrow (record { bytes = c.self.inside.cells; controls = c.self.inside.map }) space at c.byte_laws.ensures.narrow)

pub returns-clause-allotted : goal.returns-clause-allotted
returns-clause-allotted c = stands_in_seven c.args.self.now
