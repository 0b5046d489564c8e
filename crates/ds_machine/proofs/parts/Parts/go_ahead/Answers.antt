use Rattle.ds_machine.proofs.Words.{false, refl}
use Rattle.ds_machine.proofs.FastTurns.{is_due, over_past, went_none}
use Rattle.ds_machine.proofs.GoingSteps.{ahead_may}
use Rattle.ds_machine.proofs.parts.Parts.go_ahead.Goals as goal

pub returns-then-fetches_main-clause-went : goal.returns-then-fetches_main-clause-went
returns-then-fetches_main-clause-went c = went_none c.args.until.0 c.args.proc c.args.end c.args.limit false c.args.self.now c.requires.goes

pub returns-then-fetches_main-clause-over : goal.returns-then-fetches_main-clause-over
returns-then-fetches_main-clause-over c = λ over.
    over_past c.args.self.now c.args.proc c.args.until.0 c.args.end c.args.limit false _ c.requires.goes refl c.requires.early c.requires.past
    (λ lt ahead. c.fetches_main.ensures c.if-fetches_main.true
    (ahead_may c.args.self.now c.args.proc _ (is_due c.args.self.now c.args.proc c.args.until.0 c.args.end c.args.limit false _ c.requires.goes refl c.requires.early) ahead).fetch)
