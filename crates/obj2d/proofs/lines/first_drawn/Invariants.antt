use Rattle.obj2d.proofs.Words.{AreNotDrawn, ◌-◌, ◌≤◌}
use Rattle.obj2d.proofs.lines.first_drawn.Given as goal

abbrev pub invariant-numbers : goal.invariant-numbers
invariant-numbers l = record {
  before : AreNotDrawn l.oam l.control l.line l.number;
  small : l.number ≤ 128;
}

abbrev pub decreases-numbers : goal.decreases-numbers
decreases-numbers l = 128 - l.number
