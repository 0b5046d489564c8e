use Rattle.gdb_session.proofs.Words.{take, ◌≡◌}
use Rattle.gdb_session.proofs.runs.copy_keys.Given as goal

abbrev pub invariant-lines : goal.invariant-lines
invariant-lines l = l.copy ≡ take l.place l.keys
