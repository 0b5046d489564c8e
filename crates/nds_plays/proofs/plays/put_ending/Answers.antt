use Rattle.nds_plays.proofs.Lengths.{ending_few}
use Rattle.nds_plays.proofs.plays.put_ending.Goals as goal

pub returns-in-Some-clause-few : goal.returns-in-Some-clause-few
returns-in-Some-clause-few g c = ending_few c.args.stop c.in-Some.left c.args.until.0 c.args.console.now.turns c.args.console.now.machine c.in-Some.is
