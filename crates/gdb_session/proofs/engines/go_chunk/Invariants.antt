use Rattle.gdb_session.proofs.Words.{◌≡◌}
use Rattle.gdb_session.proofs.engines.go_chunk.Given as goal

abbrev pub invariant-steps : goal.invariant-steps
invariant-steps g l = g.D.Deck.boot l.deck ≡ g.D.Deck.boot l.initial.deck
