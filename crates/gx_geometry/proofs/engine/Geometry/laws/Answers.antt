use Rattle.gx_matrix.specs.CommandTable.{command_of}
use Rattle.gx_geometry.proofs.Bounds.{run_after}
use Rattle.gx_geometry.proofs.engine.Geometry.laws.Goals as goal

pub returns-clause-run : goal.returns-clause-run
returns-clause-run c = λ code params. run_after (command_of code) params c.args.self.now
