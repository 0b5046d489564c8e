use Rattle.asm_text.proofs.Words.{◌≡◌, ◌-◌, ◌+◌, suc, arith, refl, rotation_of}
use Rattle.asm_text.proofs.reading.parts.rotation_of.Goals as goal

pub loop-rotate-init : goal.loop-rotate-init
unfolding rotation_of
loop-rotate-init c = refl

pub loop-rotate-preserved : goal.loop-rotate-preserved
loop-rotate-preserved c =
    let e : 16 - c.loop-rotate.rotate ≡ suc (16 - (c.loop-rotate.rotate + 1)) = omega arith in
    let t = rw e at c.loop-rotate.invariant in
    grind (arith, t)

pub returns-then-immed-lt256-clause-value : goal.returns-then-immed-lt256-clause-value
returns-then-immed-lt256-clause-value c =
    let e : 16 - c.loop-rotate.rotate ≡ suc (16 - (c.loop-rotate.rotate + 1)) = omega arith in
    let t = rw e at c.loop-rotate.invariant in
    grind (arith, t)

pub returns-clause-value : goal.returns-clause-value
returns-clause-value c =
    let e : 16 - c.loop-rotate.rotate ≡ 0 = omega arith in
    rw e at c.loop-rotate.invariant
