use Rattle.std.proofs.Common.{◌≡◌, sym, subst, Some}
use Rattle.ds_base.specs.declared.processors.Arch.{Arch}
use Rattle.arm_words.specs.Spellings.{decoded, Has}
use Rattle.arm_words.specs.declared.spellings.Spelling.{Spelling}
use Rattle.arm_words.proofs.Laws.{spelling_again, instruction_fields}
use Rattle.arm_words.specs.Canonical.{IsCanonical}
use Rattle.arm_words.proofs.CanonicalLaws.{canonical_spelling}
use Rattle.arm_words.proofs.spellings.encode.Goals as goal

pub spell-requires : goal.spell-requires
spell-requires c = instruction_fields c.args.instr.now c.requires.instruction

pub returns-clause-again : goal.returns-clause-again
returns-clause-again c =
    let P : Spelling → Type 0 = λ s. (arch : Arch) → Has arch c.args.instr.now → decoded arch s ≡ Some c.args.instr.now in
    subst P (sym c.spell.ensures) (spelling_again c.args.instr.now)

pub returns-clause-canonical : goal.returns-clause-canonical
returns-clause-canonical c =
    let P : Spelling → Type 0 = λ t. (arch : Arch) (s : Spelling) → IsCanonical arch s → decoded arch s ≡ Some c.args.instr.now → t ≡ s in
    subst P (sym c.spell.ensures) (canonical_spelling c.args.instr.now)
