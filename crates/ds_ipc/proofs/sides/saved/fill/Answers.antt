use Rattle.std.proofs.Common.{◌≡◌, ◌<◌, ℕ, arith}
use Rattle.std.proofs.lemmas.List.{get_or_default}
use Rattle.ds_ipc.proofs.sides.saved.fill.Goals as goal

pub returns-clause-fit : goal.returns-clause-fit
returns-clause-fit c = λ k d within.
    let same = get_or_default c.args.received.now k d 0 within in
    let word = c.type_inv.received k in
    omega (arith, same, word)
