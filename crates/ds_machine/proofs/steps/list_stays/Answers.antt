use Rattle.ds_machine.proofs.Words.{HasOp, count_ones, false, not, subst, true, ℕ, ◌%◌, ◌*◌, ◌+◌, ◌<◌, ◌^◌, ◌≡◌}
use Rattle.ds_machine.proofs.DecodedStays.{reach_list}
use Rattle.ds_machine.proofs.steps.list_stays.Goals as goal

pub returns-in-Multiple : goal.returns-in-Multiple
returns-in-Multiple g c = λ words stays.
    (let it = c.in-Multiple.it in
    let fields = subst HasOp c.in-Multiple.is c.requires.0 in
    let low : it.list < 2 ^ 16 = search in
    reach_list g.V.Side.side (g.V.Side.state c.args.view.now) words g.V.Side.side.step.arch c.args.s.now it c.args.next.now c.in-Multiple.is fields.1
    low (subst (λ (n : ℕ). n < 2 ^ 32) c.first_word.ensures c.first_word.type_inv)
    (subst (λ (at : ℕ). (i : ℕ) → i < count_ones it.list → g.V.Side.side.is_private (g.V.Side.state c.args.view.now) (not it.load) false ((at + 4 * i) % 2 ^ 32) ≡ true)
    c.first_word.ensures (c.words_stay.ensures stays)))
