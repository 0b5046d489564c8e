use Rattle.run_ahead.proofs.TickTurns.{turns_of_one_tick}
use Rattle.run_ahead.proofs.laws.tick_turn_laws.Goals as goal

pub returns : goal.returns
returns c = turns_of_one_tick
