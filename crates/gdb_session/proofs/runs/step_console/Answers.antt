use Rattle.gdb_session.proofs.Coming.{one_comes, stays}
use Rattle.gdb_session.proofs.runs.step_console.Goals as goal

pub returns-then-at-ge-MOST_TICK : goal.returns-then-at-ge-MOST_TICK
returns-then-at-ge-MOST_TICK c = stays _

pub returns-in-Stopped : goal.returns-in-Stopped
returns-in-Stopped c = one_comes _ _ _ _ c.turn.ensures.turn

pub returns-in_default : goal.returns-in_default
returns-in_default c = one_comes _ _ _ _ c.turn.ensures.turn
