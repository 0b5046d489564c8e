use Rattle.run_ahead.proofs.Words.{AreAtOnce, ConsoleState, Ends, arith, open_of, subst, ◌≤◌}
use Rattle.run_ahead.proofs.StepTurns.{at_once}
use Rattle.run_ahead.proofs.consoles.Console.ends.Goals as goal

pub returns-then-until-most : goal.returns-then-until-most
returns-then-until-most c =
    let has = c.ends-ends.ensures in
    let ends : Ends = record { end = 0; nine = c.ends-ends.result.nine; seven = c.ends-ends.result.seven } in
    subst (λ (x : ConsoleState). AreAtOnce c.args.until.0 x ends) c.self.view_is (record {
      known = record { end = λ some. absurd (omega (arith, some)); nine = has.nine; seven = has.seven };
      same = λ some. absurd (omega (arith, some));
      still_open = λ some. absurd (omega (arith, some));
    })

pub returns : goal.returns
returns c =
    let until = c.args.until.0 in
    let no = c.if-until-most.false in
    let most_is = c.self.invariant.2 in
    let le : until ≤ open_of c.self.inside.limit c.self.inside.stopped = omega (arith, no, most_is) in
    let has = c.ends-ends.ensures in
    subst (λ (x : ConsoleState). AreAtOnce until x c.ends-ends.result) c.self.view_is (record {
      known = has;
      same = λ some. (at_once until c.self.inside.limit c.self.inside.stopped (record { 0 = 0 }) le ((has.end some 0).0 some).0).0;
      still_open = λ some. (at_once until c.self.inside.limit c.self.inside.stopped (record { 0 = 0 }) le ((has.end some 0).0 some).0).1;
    })
