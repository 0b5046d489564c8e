use Rattle.std.proofs.Common.{◌↔◌, sym, subst, Option, IfSome, IsSome}
use Rattle.arm_words.specs.Fields.{HasFields}
use Rattle.arm_words.specs.Spellings.{decoded, IsInstruction}
use Rattle.arm_words.specs.Canonical.{IsCanonical}
use Rattle.arm_words.specs.declared.instructions.Instr.{Instr}
use Rattle.arm_words.proofs.CanonicalLaws.{canonical_exactly, kept_fact}
use Rattle.arm_words.proofs.canonicals.canonical.Goals as goal

pub returns-clause-exactly : goal.returns-clause-exactly
returns-clause-exactly c =
    let P : Option Instr → Type 0 = λ o. IsSome o ↔ IsCanonical c.args.arch c.args.spelling in
    subst P (sym c.keep.ensures.test) (canonical_exactly c.args.arch c.args.spelling c.keep.ensures.fields)

pub returns-clause-fields : goal.returns-clause-fields
returns-clause-fields c =
    let P : Option Instr → Type 0 = λ o. IfSome o (λ i. HasFields i) in
    subst P (sym c.keep.ensures.test)
    (kept_fact c.args.spelling (decoded c.args.arch c.args.spelling) (λ i. HasFields i) c.keep.ensures.fields)

pub returns-clause-instruction : goal.returns-clause-instruction
returns-clause-instruction c =
    let P : Option Instr → Type 0 = λ o. IfSome o (λ i. IsInstruction i) in
    subst P (sym c.keep.ensures.test)
    (kept_fact c.args.spelling (decoded c.args.arch c.args.spelling) (λ i. IsInstruction i) c.keep.ensures.instruction)
