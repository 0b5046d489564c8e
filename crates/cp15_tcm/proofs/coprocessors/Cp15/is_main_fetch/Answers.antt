use Rattle.std.proofs.Common.{rules}
use Rattle.cp15_tcm.proofs.MainPast.{fetch_past}
use Rattle.cp15_tcm.proofs.coprocessors.Cp15.is_main_fetch.Goals as goal

pub returns : goal.returns
returns c = rw (← c.self.view_is, c.self.invariant.0) (fetch_past _ c.args.at (search (rules, c.ranges.at.fits)))
