use Rattle.ds_machine.proofs.LagLaw.{lag_runs, lag_stops}
use Rattle.ds_machine.proofs.laws.lag_laws.Goals as goal

pub returns : goal.returns
returns c = record { runs = lag_runs; stops = lag_stops }
