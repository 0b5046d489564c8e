use Rattle.gdb_session.proofs.Words.{ComesFrom, ◌≡◌}
use Rattle.std.proofs.Common.{max}
use Rattle.run_ahead.specs.TurnLaws.{turns_remaining}
use Rattle.gdb_session.proofs.runs.run_console.Given as goal

abbrev pub invariant-frames : goal.invariant-frames
invariant-frames l = record {
  comes : ComesFrom l.initial.console l.console;
  limit : max l.console.limit l.until.0 ≡ max l.initial.console.limit l.until.0;
}

abbrev pub decreases-frames : goal.decreases-frames
decreases-frames l = turns_remaining l.until.0 l.console.machine
