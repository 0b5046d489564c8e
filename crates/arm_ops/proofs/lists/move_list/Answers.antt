use Rattle.std.proofs.Common.{◌≤◌, subst}
use Rattle.std.specs.Prelude.{ℕ}
use Rattle.arm_ops.proofs.Words.{list_near}
use Rattle.arm_ops.proofs.lists.move_list.Goals as goal

pub returns-clause-near : goal.returns-clause-near
returns-clause-near g c = λ some.
    (let low = subst (λ (n : ℕ). 0x2000000 ≤ n) c.first_word.ensures (c.is_ram_run.ensures.low c.if-not-is_ram_run.false) in
    let high = subst (λ (n : ℕ). n ≤ 0x3FFFFC0) c.first_word.ensures (c.is_ram_run.ensures.high c.if-not-is_ram_run.false) in
    list_near c.args.arch c.args.s.now c.args.it g.N.Near.near low high)
