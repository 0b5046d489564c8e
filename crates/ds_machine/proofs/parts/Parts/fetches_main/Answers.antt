use Rattle.ds_machine.proofs.Words.{IsMainPast, MachineState, Proc, ProcessorState, ap, arith, false, is_private_to, subst, sym, true, true≢false}
use Rattle.ds_machine.proofs.Words.{◌<◌, ◌^◌, ◌∙◌, ◌≡◌}
use Rattle.ds_machine.proofs.GoingSteps.{fetched_then}
use Rattle.ds_machine.proofs.PlacesByWords.{main_of_nine, main_of_seven}
use Rattle.ds_machine.proofs.parts.Parts.fetches_main.Goals as goal

pub returns-in-Nine : goal.returns-in-Nine
returns-in-Nine c = λ main k.
    (let s = c.args.self.now in
    let at = c.pc-at.ensures ∙ ap (λ (p : ProcessorState). p.registers.pc) c.processor.ensures in
    let low : c.pc-at.result < 2 ^ 32 = omega arith in
    let private = fetched_then s c.args.proc c.pc-at.result at low k in
    let past = subst (λ (m : MachineState). IsMainPast m.nine.cp15 c.pc-at.result false true) c.self.view_is (c.is_main_fetch.ensures.0 main) in
    true≢false (sym (subst (λ (p : Proc). is_private_to s p false true c.pc-at.result ≡ true) c.in-Nine.is private) ∙ main_of_nine s c.pc-at.result past))

pub returns-in-Seven : goal.returns-in-Seven
returns-in-Seven c = λ main k.
    (let s = c.args.self.now in
    let at = c.pc-at.ensures ∙ ap (λ (p : ProcessorState). p.registers.pc) c.processor.ensures in
    let low : c.pc-at.result < 2 ^ 32 = omega arith in
    let private = fetched_then s c.args.proc c.pc-at.result at low k in
    true≢false (sym (subst (λ (p : Proc). is_private_to s p false true c.pc-at.result ≡ true) c.in-Seven.is private) ∙ main_of_seven c.pc-at.result (sym c.is_main.ensures ∙ main)))
