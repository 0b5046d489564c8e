use Rattle.gdb_session.proofs.Coming.{one_comes, stays}
use Rattle.gdb_session.proofs.runs.save_console.Goals as goal

pub returns-then-not-is_over-clause-comes : goal.returns-then-not-is_over-clause-comes
returns-then-not-is_over-clause-comes c = stays _

pub returns-in-AtEnd-clause-comes : goal.returns-in-AtEnd-clause-comes
returns-in-AtEnd-clause-comes c = one_comes _ _ _ _ c.turn.ensures.turn

pub returns-in_default : goal.returns-in_default
returns-in_default c = record { comes = one_comes _ _ _ _ c.turn.ensures.turn; «open» = tt; over = tt; back = tt }
