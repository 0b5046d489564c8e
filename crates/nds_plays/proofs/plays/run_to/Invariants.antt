use Rattle.run_ahead.specs.TurnLaws.{turns_remaining}
use Rattle.nds_plays.proofs.Playing.{Writing}
use Rattle.nds_plays.proofs.plays.run_to.Given as goal

-- what runs on from here is the rest of the run, so far there were turns, and the frames that they made whole are written
abbrev pub invariant-turns : goal.invariant-turns
invariant-turns g l = Writing g.O.Sink.tells g.O.Sink.taken g.O.Sink.faults l.until.0 l.keep l.initial.console l.initial.out l.console l.out

abbrev pub decreases-turns : goal.decreases-turns
decreases-turns g l = turns_remaining l.until.0 l.console.machine
