use Rattle.std.proofs.Common.{arith, sym, subst, Option, IfSome}
use Rattle.arm_words.specs.Fields.{HasFields}
use Rattle.arm_words.specs.Spellings.{IsInstruction}
use Rattle.arm_words.specs.declared.instructions.Instr.{Instr}
use Rattle.arm_words.proofs.Laws.{decoded_arm_fields, decoded_arm_instruction}
use Rattle.arm_words.proofs.arm.decode_arm.Goals as goal

pub returns-clause-fields : goal.returns-clause-fields
returns-clause-fields c =
    let P : Option Instr → Type 0 = λ o. IfSome o (λ i. HasFields i) in
    subst P (sym c.by_tables.ensures) (decoded_arm_fields c.args.arch c.args.word (omega arith))

pub returns-clause-instruction : goal.returns-clause-instruction
returns-clause-instruction c =
    let P : Option Instr → Type 0 = λ o. IfSome o (λ i. IsInstruction i) in
    subst P (sym c.by_tables.ensures) (decoded_arm_instruction c.args.arch c.args.word (omega arith))
