use Rattle.std.proofs.Common.{inl, arith}
use Rattle.machine_tests.proofs.tests.told.Tested.act.Goals as goal

pub catch_up_before-requires-clause-running : goal.catch_up_before-requires-clause-running
catch_up_before-requires-clause-running c = c.self.invariant c.if-self.false

pub step_inserted-requires-clause-running : goal.step_inserted-requires-clause-running
step_inserted-requires-clause-running c = c.catch_up_before.ensures.running

pub step_inserted-requires-clause-may : goal.step_inserted-requires-clause-may
step_inserted-requires-clause-may c =
    let low = c.if-acting-gt1048576.false in
    let least = c.acting-acting.ensures in
    (c.acting_laws.ensures.may c.self.inside.machine c.catch_up_before.new.self c.acting-acting.result.tick c.acting-acting.result.rank
    (c.self.invariant c.if-self.false).sound
    (record { due = least.there; may = inl least }) (omega (arith, low)) c.catch_up_before.ensures.caught).may

pub invariant_of-self : goal.invariant_of-self
invariant_of-self c = λ going. c.in-Made.ensures.running

pub invariant_of-self-in-Frame : goal.invariant_of-self-in-Frame
invariant_of-self-in-Frame c = λ going. c.in-Frame.ensures.running
