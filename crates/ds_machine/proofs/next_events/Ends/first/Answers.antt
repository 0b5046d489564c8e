use Rattle.ds_machine.proofs.Words.{Nine, Seven, arith}
use Rattle.ds_machine.proofs.EndTicks.{first_in}
use Rattle.ds_machine.proofs.next_events.Ends.first.Goals as goal

pub returns-then-nine-self-clause-known : goal.returns-then-nine-self-clause-known
returns-then-nine-self-clause-known c = λ until s early has.
    (let before = c.if-nine-seven.true in
    let lt = c.if-nine-self.true in
    first_in until s c.args.self.now (record { proc = Nine; limit = c.limit.result }) early has c.limit.ensures (omega (arith, lt)) (omega (arith, before)))

pub returns-then-seven-self-clause-known : goal.returns-then-seven-self-clause-known
returns-then-seven-self-clause-known c = λ until s early has.
    (let before = c.if-nine-seven.false in
    let lt = c.if-seven-self.true in
    first_in until s c.args.self.now (record { proc = Seven; limit = c.limit-then-seven-self.result }) early has c.limit-then-seven-self.ensures (omega (arith, lt)) (omega (arith, before)))
