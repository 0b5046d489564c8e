use Rattle.gdb_session.proofs.Words.{◌≡◌}
use Rattle.gdb_session.proofs.engines.go.Given as goal

abbrev pub invariant-chunks : goal.invariant-chunks
invariant-chunks g l = g.D.Deck.boot l.deck ≡ g.D.Deck.boot l.initial.deck
