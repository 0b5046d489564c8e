use Rattle.ds_machine.proofs.Words.{ProcessorState, ap, arith, processor_of, refl, ◌<◌}
use Rattle.ds_machine.proofs.GoingSteps.{belongs_below}
use Rattle.ds_machine.proofs.parts.Parts.belongs_by.Goals as goal

pub returns-then-processor-limit : goal.returns-then-processor-limit
returns-then-processor-limit c =
    let s = c.args.self.now in
    let proc = c.args.proc in
    let known = c.if-processor-limit.true in
    let due = ap (λ (p : ProcessorState). p.due) c.processor.ensures in
    let below : (processor_of s proc).due < c.args.limit = omega (arith, known, due) in
    (λ yes. belongs_below c.args.until.0 c.args.limit s proc (c.requires.limit below) below, λ belongs. refl)
