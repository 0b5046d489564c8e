use Rattle.video2d.specs.rows.Needs.{AreAmong}
use Rattle.video2d.proofs.stops.bits_of_all.Given as goal

abbrev pub invariant-loop-n : goal.invariant-loop-n
invariant-loop-n l = AreAmong l.oam l.n l.all
