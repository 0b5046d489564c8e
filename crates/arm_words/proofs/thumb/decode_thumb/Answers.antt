use Rattle.std.proofs.Common.{arith, sym, subst, Option, IfSome}
use Rattle.arm_words.specs.Fields.{HasFields}
use Rattle.arm_words.specs.Spellings.{IsInstruction}
use Rattle.arm_words.specs.declared.instructions.Instr.{Instr}
use Rattle.arm_words.proofs.Laws.{decoded_thumb_fields, decoded_thumb_instruction}
use Rattle.arm_words.proofs.thumb.decode_thumb.Goals as goal

pub returns-clause-fields : goal.returns-clause-fields
returns-clause-fields c =
    let P : Option Instr → Type 0 = λ o. IfSome o (λ i. HasFields i) in
    subst P (sym c.by_tables.ensures) (decoded_thumb_fields c.args.arch c.args.half (omega arith))

pub returns-clause-instruction : goal.returns-clause-instruction
returns-clause-instruction c =
    let P : Option Instr → Type 0 = λ o. IfSome o (λ i. IsInstruction i) in
    subst P (sym c.by_tables.ensures) (decoded_thumb_instruction c.args.arch c.args.half (omega arith))
