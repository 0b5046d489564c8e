use Rattle.gx_fifo.proofs.Laws.{finished_run}
use Rattle.gx_fifo.proofs.gx.Gx.laws.Goals as goal

pub returns-clause-run : goal.returns-clause-run
returns-clause-run c = finished_run c.args.self.now
