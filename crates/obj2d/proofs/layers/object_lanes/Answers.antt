use Rattle.obj2d.proofs.Words.{AreNotDrawn, arith, subst, ◌≡◌}
use Rattle.obj2d.proofs.OffLemmas.{none_before}
use Rattle.obj2d.proofs.layers.object_lanes.Goals as goal

pub returns-then-first-eq128-clause-none : goal.returns-then-first-eq128-clause-none
returns-then-first-eq128-clause-none c = λ _ x small.
    let a = c.args in
    let all : c.first_drawn-first.result ≡ 128 = omega arith in
    none_before a.vram.now a.palette.now a.oam.now (record { engine = a.engine; control = a.control }) a.line x 128
    (subst (AreNotDrawn a.oam.now a.control a.line) all c.first_drawn-first.ensures.before)
