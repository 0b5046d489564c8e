use Rattle.gdb_session.proofs.Words.{Contains, IfSome}
use Rattle.std.proofs.Common.{◌≤◌}
use Rattle.gdb_session.proofs.saves.Saves.before.Given as goal

abbrev pub invariant-saves : goal.invariant-saves
invariant-saves l = record {
  there : IfSome l.found (λ save. Contains l.self.all.items save.now);
  early : IfSome l.found (λ save. save.now.at ≤ l.at);
}
