use Rattle.gdb_session.proofs.Words.{arith, ◌∙◌}
use Rattle.std.proofs.Common.{refl}
use Rattle.gdb_session.proofs.Coming.{ran_limit, ran_on, ran_there, stays}
use Rattle.gdb_session.proofs.runs.run_console.Goals as goal

pub frames-init : goal.frames-init
frames-init c = record { comes = stays _; limit = refl }

pub frames-preserved : goal.frames-preserved
frames-preserved c = record {
  comes = ran_on _ _ _ _ _ c.frames.invariant.comes c.run_on.ensures.turns;
  limit = ran_limit _ _ _ _ c.run_on.ensures.turns ∙ c.frames.invariant.limit;
}

pub returns-in-Stopped-clause-comes : goal.returns-in-Stopped-clause-comes
returns-in-Stopped-clause-comes c = ran_on _ _ _ _ _ c.frames.invariant.comes c.run_on.ensures.turns

pub returns-in-AtEnd-clause-comes : goal.returns-in-AtEnd-clause-comes
returns-in-AtEnd-clause-comes c = ran_on _ _ _ _ _ c.frames.invariant.comes c.run_on.ensures.turns

pub returns-in-AtEnd-clause-taken : goal.returns-in-AtEnd-clause-taken
returns-in-AtEnd-clause-taken c = λ _ le.
    let is = c.min.ensures in ran_there c.args.until.0 c.min.result c.args.console.now c.frames.console c.run_on.new.self (grind (arith, is, le)) c.frames.invariant.limit c.in-AtEnd.ensures.turns
