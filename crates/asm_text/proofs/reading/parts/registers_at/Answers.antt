use Rattle.asm_text.proofs.Words.{◌≡◌, ℕ, List, ◌-◌, ◌+◌, suc, arith, refl, ap, registers_at}
use Rattle.asm_text.proofs.reading.parts.registers_at.Goals as goal

pub loop-init : goal.loop-init
unfolding registers_at
loop-init c = record { members = refl; bits = omega arith }

pub loop-preserved : goal.loop-preserved
loop-preserved c =
    let e : 16 - c.loop.counter ≡ suc (16 - (c.loop.counter + 1)) = omega arith in
    let t = rw e at c.loop.invariant.members in
    record { members = rw (c.member_at-bit.ensures.value, c.member_at-bit.ensures.rest) t; bits = omega arith }

pub returns-clause-value : goal.returns-clause-value
returns-clause-value c =
    let e : 16 - c.loop.counter ≡ 0 = omega arith in
    let t = rw e at c.loop.invariant.members in
    ap (λ (p : ℕ × List ℕ). p.0) t

pub returns-clause-rest : goal.returns-clause-rest
returns-clause-rest c =
    let e : 16 - c.loop.counter ≡ 0 = omega arith in
    let t = rw e at c.loop.invariant.members in
    ap (λ (p : ℕ × List ℕ). p.1) t
