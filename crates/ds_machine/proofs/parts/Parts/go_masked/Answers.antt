use Rattle.ds_machine.proofs.Words.{ProcessorState, ap, arith, sym, true, true≢false, ◌∙◌}
use Rattle.ds_machine.proofs.FastTurns.{over_past, went_more, went_none, went_same}
use Rattle.ds_machine.proofs.parts.Parts.go_masked.Goals as goal

pub steps-init : goal.steps-init
steps-init c = went_none c.args.until.0 c.args.proc c.args.end c.args.limit true c.args.self.now c.requires.goes

pub returns-then-processor-limit-clause-over : goal.returns-then-processor-limit-clause-over
returns-then-processor-limit-clause-over c = λ over.
    (let n = c.processor.result.now.due in
    let due = ap (λ (p : ProcessorState). p.due) c.processor.ensures in
    let goes = c.steps.invariant.goes in
    over_past c.steps.self c.args.proc c.args.until.0 c.args.end c.args.limit true n goes due c.requires.early (omega (arith, c.if-processor-limit.true))
    (λ lt ahead. true≢false (sym goes.line ∙ ahead.private.down)))

pub steps-preserved-in-Took : goal.steps-preserved-in-Took
steps-preserved-in-Took c =
    went_more c.args.until.0 c.args.proc c.args.end c.args.limit true c.args.self.now c.steps.self c.step_least.new.self c.steps.invariant c.in-Took.ensures

pub steps-preserved : goal.steps-preserved
steps-preserved c =
    let here = went_same c.args.until.0 c.args.proc c.args.end c.args.limit true c.args.self.now c.steps.self c.step_least.new.self c.steps.invariant c.in-List.ensures in
    went_more c.args.until.0 c.args.proc c.args.end c.args.limit true c.args.self.now c.step_least.new.self c.step_list_least.new.self here c.in-Took-step_list_least.ensures
