use Rattle.run_ahead.proofs.TurnExists.{turns_end}
use Rattle.run_ahead.proofs.TurnLaws.{turns_add_up}
use Rattle.run_ahead.proofs.TurnRuns.{turns_end_as_runs, turns_keep_runs, turns_stop_as_runs}
use Rattle.run_ahead.proofs.TurnsAreOne.{turn_is_one, turns_are_one}
use Rattle.run_ahead.proofs.laws.turn_laws.Goals as goal

pub returns-clause-add : goal.returns-clause-add
returns-clause-add c = turns_add_up

pub returns-clause-one : goal.returns-clause-one
returns-clause-one c = turn_is_one

pub returns-clause-end : goal.returns-clause-end
returns-clause-end c = turns_end

pub returns-clause-ends_are_one : goal.returns-clause-ends_are_one
returns-clause-ends_are_one c = turns_are_one

pub returns-clause-ends : goal.returns-clause-ends
returns-clause-ends c = turns_end_as_runs

pub returns-clause-runs : goal.returns-clause-runs
returns-clause-runs c = turns_keep_runs

pub returns-clause-stops : goal.returns-clause-stops
returns-clause-stops c = turns_stop_as_runs
