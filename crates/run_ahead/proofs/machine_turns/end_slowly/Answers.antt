use Rattle.run_ahead.proofs.Words.{sym, ◌∙◌}
use Rattle.run_ahead.proofs.Stretches.{some_of}
use Rattle.run_ahead.proofs.machine_turns.end_slowly.Goals as goal

pub returns-clause-stops : goal.returns-clause-stops
returns-clause-stops c = λ some. some_of c.take_stretch_slowly.result (sym c.is_some.ensures ∙ some)
