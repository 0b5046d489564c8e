use Rattle.std.proofs.Common.{rules, true}
use Rattle.cp15_tcm.proofs.MainPast.{data_past}
use Rattle.cp15_tcm.proofs.coprocessors.Cp15.is_main_write.Goals as goal

pub returns : goal.returns
returns c = rw (← c.self.view_is, c.self.invariant.0) (data_past _ true c.args.at (search (rules, c.ranges.at.fits)))
