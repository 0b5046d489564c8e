use Rattle.ds_machine.proofs.Words.{ProcessorState, ap, arith, sym, ◌<◌, ◌^◌, ◌∙◌}
use Rattle.ds_machine.proofs.GoingSteps.{fetched_if, fetched_then}
use Rattle.ds_machine.proofs.parts.Parts.is_fetch_private.Goals as goal

pub returns : goal.returns
returns c =
    let s = c.args.self.now in
    let at = c.pc-at.ensures ∙ ap (λ (p : ProcessorState). p.registers.pc) c.processor.ensures in
    let low : c.pc-at.result < 2 ^ 32 = omega arith in
    (λ h. fetched_if s c.args.proc c.pc-at.result at low (sym c.is_private.ensures ∙ h), λ k. c.is_private.ensures ∙ fetched_then s c.args.proc c.pc-at.result at low k)
