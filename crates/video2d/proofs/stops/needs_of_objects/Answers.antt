use Rattle.video2d.proofs.Words.{arith, refl, sym, ◌∙◌}
use Rattle.video2d.specs.Stops.{needs_of_object, needs_of_objects}
use Rattle.video2d.proofs.StopLemmas.{needs_here, needs_later, needs_none, nothing_needed, nothing_needed_off}
use Rattle.video2d.proofs.stops.needs_of_objects.Goals as goal

pub returns-then-not-has_objects : goal.returns-then-not-has_objects
returns-then-not-has_objects c =
    let a = c.args in
    sym (nothing_needed_off a.which a.engine.now a.oam.now a.line (sym c.has_objects.ensures ∙ c.if-not-has_objects.true))

pub returns-then-not-may_need : goal.returns-then-not-may_need
returns-then-not-may_need c =
    let a = c.args in
    sym (nothing_needed a.which a.engine.now a.oam.now a.line (c.may_need.ensures c.if-not-may_need.true))

pub loop-n-init : goal.loop-n-init
unfolding needs_of_objects
loop-n-init c = refl

pub returns-in-Some : goal.returns-in-Some
returns-in-Some c =
    let a = c.args in
    let here = needs_here (needs_of_object a.which a.engine.now a.oam.now a.line) c.loop-n.n 128 c.in-Some.stop (omega (arith, c.loop-n-test.true)) (sym c.needs_of_object.ensures ∙ c.in-Some.is) in
    sym here ∙ c.loop-n.invariant

pub loop-n-preserved : goal.loop-n-preserved
loop-n-preserved c =
    let a = c.args in
    needs_later (needs_of_object a.which a.engine.now a.oam.now a.line) c.loop-n.n 128 (omega (arith, c.loop-n-test.true)) (sym c.needs_of_object.ensures ∙ c.in_default.is)
    ∙ c.loop-n.invariant

pub returns : goal.returns
returns c =
    let a = c.args in
    sym (needs_none (needs_of_object a.which a.engine.now a.oam.now a.line) c.loop-n.n 128 (omega (arith, c.loop-n-test.false))) ∙ c.loop-n.invariant
