use Rattle.run_ahead.proofs.Words.{AreAtOnce, RanOn, turns_remaining, ◌≤◌}
use Rattle.run_ahead.proofs.consoles.Console.run_on.Given as goal

-- the turns so far ran, no more of them are left than before, and it is known by what the next is found that can be taken at once
abbrev pub invariant-run : goal.invariant-run
invariant-run l = record {
  ran : RanOn l.until.0 l.initial.self l.self;
  left : turns_remaining l.until.0 l.self.machine ≤ turns_remaining l.until.0 l.initial.self.machine;
  ends : AreAtOnce l.until.0 l.self l.ends;
}

abbrev pub decreases-run : goal.decreases-run
decreases-run l = turns_remaining l.until.0 l.self.machine
