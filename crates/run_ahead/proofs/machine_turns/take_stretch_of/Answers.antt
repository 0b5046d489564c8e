use Rattle.run_ahead.proofs.Words.{HasLimit, Proc, TookStretch, subst, sym}
use Rattle.run_ahead.proofs.machine_turns.take_stretch_of.Goals as goal

pub take_stretch-requires-clause-limit : goal.take_stretch-requires-clause-limit
take_stretch-requires-clause-limit c = subst (λ (p : Proc). HasLimit c.args.until.0 c.args.machine.now p c.args.first.limit) c.in-Nine.is c.requires.limit

pub take_stretch-requires-in-Seven-clause-limit : goal.take_stretch-requires-in-Seven-clause-limit
take_stretch-requires-in-Seven-clause-limit c = subst (λ (p : Proc). HasLimit c.args.until.0 c.args.machine.now p c.args.first.limit) c.in-Seven.is c.requires.limit

pub returns-in-Nine-clause-took : goal.returns-in-Nine-clause-took
returns-in-Nine-clause-took c =
    subst (λ (p : Proc). TookStretch c.args.until.0 p c.args.machine.now c.take_stretch.new.stop c.take_stretch.new.machine) (sym c.in-Nine.is) c.take_stretch.ensures.took

pub returns-in-Seven-clause-took : goal.returns-in-Seven-clause-took
returns-in-Seven-clause-took c =
    subst (λ (p : Proc). TookStretch c.args.until.0 p c.args.machine.now c.take_stretch-in-Seven.new.stop c.take_stretch-in-Seven.new.machine) (sym c.in-Seven.is) c.take_stretch-in-Seven.ensures.took
