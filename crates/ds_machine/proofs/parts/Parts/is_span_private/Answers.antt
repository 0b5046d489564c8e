use Rattle.ds_machine.proofs.Words.{arith, is_private_to, sym, ◌∙◌}
use Rattle.ds_machine.proofs.PrivateTests.{span_ends, span_more}
use Rattle.ds_machine.proofs.parts.Parts.is_span_private.Goals as goal

pub loop-i-preserved : goal.loop-i-preserved
loop-i-preserved c =
    span_more (is_private_to c.args.self.now c.args.proc c.args.writing c.args.fetching) c.args.first c.loop-i.i c.args.length (omega arith)
    (sym c.is_private.ensures ∙ c.if-not-is_private.false) ∙ c.loop-i.invariant

pub returns-then-not-is_private : goal.returns-then-not-is_private
returns-then-not-is_private c =
    sym (span_ends (is_private_to c.args.self.now c.args.proc c.args.writing c.args.fetching) c.args.first c.loop-i.i c.args.length (omega arith)
    (sym c.is_private.ensures ∙ c.if-not-is_private.true)) ∙ c.loop-i.invariant
