use Rattle.run_ahead.proofs.Words.{IsLeast, acting_dues, acting_low, arith, inl, inr, subst}
use Rattle.run_ahead.proofs.StepTurns.{before_all, over_from}
use Rattle.run_ahead.proofs.machine_turns.take_turn.Goals as goal

pub catch_up-requires-clause-before : goal.catch_up-requires-clause-before
catch_up-requires-clause-before c =
    before_all c.args.until.0 c.args.machine.now (over_from c.args.until.0 c.args.machine.now c.args.acting.tick c.args.acting.rank c.requires.acting c.if-until-acting.true)

pub returns-then-until-acting : goal.returns-then-until-acting
returns-then-until-acting c = inr (inr (record {
  none = over_from c.args.until.0 c.args.machine.now c.args.acting.tick c.args.acting.rank c.requires.acting c.if-until-acting.true;
  some = c.requires.some c.if-until-acting.true;
  catches = c.catch_up.ensures.caught;
}))

pub processor_of-requires : goal.processor_of-requires
processor_of-requires c = acting_low c.args.machine.now c.args.acting.rank c.args.acting.tick c.requires.acting.there

pub returns-in-Some-take_stretch_slowly : goal.returns-in-Some-take_stretch_slowly
returns-in-Some-take_stretch_slowly c = inr (record {
  proc = c.in-Some.proc;
  tick = c.args.acting.tick;
  least = subst (IsLeast (acting_dues c.args.machine.now) c.args.acting.tick) c.in-Some.ensures c.requires.acting;
  below = omega (arith, c.if-until-acting.false);
  before = c.in-Some-take_stretch_slowly.ensures.0;
  steps = c.in-Some-take_stretch_slowly.ensures.1;
  belongs = c.in-Some-take_stretch_slowly.ensures.2;
  caught = c.in-Some-take_stretch_slowly.ensures.3.0;
  catches = c.in-Some-take_stretch_slowly.ensures.3.1;
  step = c.in-Some-take_stretch_slowly.ensures.3.2;
})

pub returns-in-None : goal.returns-in-None
returns-in-None c = inr (inl (record {
  proc = c.in-Some.proc;
  tick = c.args.acting.tick;
  least = subst (IsLeast (acting_dues c.args.machine.now) c.args.acting.tick) c.in-Some.ensures c.requires.acting;
  below = omega (arith, c.if-until-acting.false);
  steps = c.in-None.ensures.0;
  longest = c.in-None.ensures.1;
}))
