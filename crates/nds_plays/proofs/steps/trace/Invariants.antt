use Rattle.nds_plays.proofs.Words.{None, max, ◌*◌, ◌+◌, ◌-◌, ◌≡◌}
use Rattle.nds_plays.proofs.Tracing.{Tracing}
use Rattle.nds_plays.proofs.steps.trace.Given as goal

-- the lines so far are written
abbrev pub invariant-turns : goal.invariant-turns
invariant-turns g l = record {
  still_open : l.console.stopped ≡ None;
  tracing : Tracing g.O.Sink.tells g.O.Sink.taken g.O.Sink.faults l.until.0 l.proc l.count l.initial.console.machine l.initial.out l.console.machine l.out l.left;
}

-- no more turns count than 24 times the greatest limit that they come to
abbrev pub decreases-turns : goal.decreases-turns
decreases-turns g l = 24 * max l.console.limit l.until.0 + 1 - l.console.turns
