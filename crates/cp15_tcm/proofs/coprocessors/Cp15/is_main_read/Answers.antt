use Rattle.std.proofs.Common.{rules, false}
use Rattle.cp15_tcm.proofs.MainPast.{data_past}
use Rattle.cp15_tcm.proofs.coprocessors.Cp15.is_main_read.Goals as goal

pub returns : goal.returns
returns c = rw (← c.self.view_is, c.self.invariant.0) (data_past _ false c.args.at (search (rules, c.ranges.at.fits)))
