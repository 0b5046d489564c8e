use Rattle.ds_machine.proofs.Words.{Arch, Half, ProcessorState, Word, ap, decoded_arm, decoded_thumb, fetch_of, sym, ℕ, ◌%◌, ◌^◌, ◌∙◌}
use Rattle.ds_machine.proofs.PrivateTests.{half_is, word_is}
use Rattle.ds_machine.proofs.parts.Parts.next_instr.Goals as goal

pub returns-then-is_thumb-clause-instr : goal.returns-then-is_thumb-clause-instr
returns-then-is_thumb-clause-instr c =
    let s = c.args.self.now in
    half_is s c.args.proc c.processor.result.now.core.registers c.fetch_of.result c.decoded_half.result.instr (ap (λ (p : ProcessorState). p.registers) c.processor.ensures)
    (sym c.is_thumb.ensures ∙ c.if-is_thumb.true) (c.fetch_of.ensures ∙ ap (λ (at : ℕ). fetch_of s c.args.proc at Half) c.pc-at.ensures)
    (c.decoded_half.ensures.instr ∙ ap (λ (a : Arch). decoded_thumb a (c.fetch_of.result % 2 ^ 16)) c.architecture-arch.ensures)

pub returns-clause-instr : goal.returns-clause-instr
returns-clause-instr c =
    let s = c.args.self.now in
    word_is s c.args.proc c.processor.result.now.core.registers c.fetch_of-2.result c.decoded_word.result.instr (ap (λ (p : ProcessorState). p.registers) c.processor.ensures)
    (sym c.is_thumb.ensures ∙ c.if-is_thumb.false) (c.fetch_of-2.ensures ∙ ap (λ (at : ℕ). fetch_of s c.args.proc at Word) c.pc-at.ensures)
    (c.decoded_word.ensures.instr ∙ ap (λ (a : Arch). decoded_arm a c.fetch_of-2.result) c.architecture-arch.ensures)
