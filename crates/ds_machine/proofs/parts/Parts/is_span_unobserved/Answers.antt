use Rattle.ds_machine.proofs.Words.{ap, arith, is_unobserved_at, not, sym, ◌∙◌}
use Rattle.ds_machine.proofs.PrivateTests.{span_ends, span_more}
use Rattle.ds_machine.proofs.parts.Parts.is_span_unobserved.Goals as goal

pub loop-i-preserved : goal.loop-i-preserved
loop-i-preserved c =
    span_more (is_unobserved_at c.args.self.now c.args.writing) c.args.first c.loop-i.i c.args.length (omega arith)
    (ap not (sym c.is_observed.ensures ∙ c.if-is_observed.false)) ∙ c.loop-i.invariant

pub returns-then-is_observed : goal.returns-then-is_observed
returns-then-is_observed c =
    sym (span_ends (is_unobserved_at c.args.self.now c.args.writing) c.args.first c.loop-i.i c.args.length (omega arith)
    (ap not (sym c.is_observed.ensures ∙ c.if-is_observed.true))) ∙ c.loop-i.invariant
