use Rattle.run_ahead.proofs.TurnLaws.{has_runs}
use Rattle.run_ahead.proofs.consoles.Console.has_runs.Goals as goal

pub returns : goal.returns
returns c = has_runs c.args.self.now.machine c.laws.ensures.parts
