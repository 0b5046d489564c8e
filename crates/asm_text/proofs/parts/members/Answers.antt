use Rattle.asm_text.proofs.Words.{arith, ◌≡◌, ◌+◌, suc, ◌-◌, refl, members}
use Rattle.std.proofs.lemmas.Grind.{common_steps}
use Rattle.asm_text.proofs.parts.members.Goals as goal

pub loop-r-init : goal.loop-r-init
unfolding members
loop-r-init c = record { text = refl; room = omega arith }

pub loop-r-preserved : goal.loop-r-preserved
loop-r-preserved c =
    let e : 16 - c.loop-r.r ≡ suc (16 - (c.loop-r.r + 1)) = omega arith in
    let t = rw e at c.loop-r.invariant.text in
    record { text = grind (arith, common_steps, t); room = grind arith }

pub returns-clause-text : goal.returns-clause-text
returns-clause-text c =
    let e : 16 - c.loop-r.r ≡ 0 = omega arith in
    let t = rw e at c.loop-r.invariant.text in
    grind (arith, common_steps, t)
