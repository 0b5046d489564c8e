use Rattle.gdb_session.proofs.Words.{All, Contains}
use Rattle.gdb_session.proofs.saves.Saves.thin.Given as goal

abbrev pub invariant-places : goal.invariant-places
invariant-places l = All (Contains l.initial.self.all.items) l.self.all.items
