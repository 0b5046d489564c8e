use Rattle.asm_files.proofs.FrontLaws.{one_image, none_bad, one_bad}
use Rattle.asm_files.proofs.laws.listing_laws.Goals as goal

pub returns-clause-one : goal.returns-clause-one
returns-clause-one c = one_image c.statement_laws.ensures

pub returns-clause-good : goal.returns-clause-good
returns-clause-good c text image line = none_bad c.statement_laws.ensures text image line

pub returns-clause-first : goal.returns-clause-first
returns-clause-first c = one_bad
