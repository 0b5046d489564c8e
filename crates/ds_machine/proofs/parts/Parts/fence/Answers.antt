use Rattle.ds_machine.proofs.Words.{IsFence, Nine, Proc, Seven, subst, sym}
use Rattle.ds_machine.proofs.FenceFirsts.{fence_is}
use Rattle.ds_machine.proofs.parts.Parts.fence.Goals as goal

pub returns-in-Nine : goal.returns-in-Nine
returns-in-Nine c =
    let first = c.first_fence_of_nine.result in
    subst (λ (p : Proc). IsFence c.args.self.now p first.tick) (sym c.in-Nine.is) (fence_is c.args.self.now Nine first c.first_fence_of_nine.ensures)

pub returns-in-Seven : goal.returns-in-Seven
returns-in-Seven c =
    let first = c.first_fence_of_seven.result in
    subst (λ (p : Proc). IsFence c.args.self.now p first.tick) (sym c.in-Seven.is) (fence_is c.args.self.now Seven first c.first_fence_of_seven.ensures)
