use Rattle.run_ahead.proofs.Words.{ConsoleState, ap, arith, ◌≡◌}
use Rattle.run_ahead.proofs.consoles.Console.counts.Goals as goal

pub returns-clause-bound : goal.returns-clause-bound
returns-clause-bound c =
    let all = c.self.invariant.0 in
    let limit : c.self.inside.limit ≡ c.args.self.now.limit = ap (λ (x : ConsoleState). x.limit) c.self.view_is in
    let n = c.steps.ensures in
    let s = c.steps-2.ensures in
    let e = c.events.ensures in
    omega (arith, all, limit, n, s, e)

pub returns-clause-fewer : goal.returns-clause-fewer
returns-clause-fewer c =
    let few = c.self.invariant.4 in
    let n = c.steps.ensures in
    let s = c.steps-2.ensures in
    let e = c.events.ensures in
    omega (arith, few, n, s, e)
