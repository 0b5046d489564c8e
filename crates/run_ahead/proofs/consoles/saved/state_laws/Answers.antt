use Rattle.run_ahead.proofs.SavedStates.{one_state_spelling}
use Rattle.run_ahead.proofs.StateSizes.{states_are_short}
use Rattle.run_ahead.proofs.consoles.saved.state_laws.Goals as goal

pub returns-clause-spelling : goal.returns-clause-spelling
returns-clause-spelling c = one_state_spelling c.saved_laws.ensures

pub returns-clause-short : goal.returns-clause-short
returns-clause-short c = states_are_short
