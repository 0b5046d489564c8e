use Rattle.ds_ports.proofs.Halving.{goes_by_halves}
use Rattle.ds_ports.proofs.ports.register_laws.Goals as goal

pub returns-clause-halves : goal.returns-clause-halves
returns-clause-halves c = goes_by_halves
