use Rattle.gdb_session.proofs.Words.{◌≡◌}
use Rattle.gdb_session.proofs.hearing.Line.hear.Given as goal

abbrev pub invariant-bytes : goal.invariant-bytes
invariant-bytes g l = g.D.Deck.boot l.deck ≡ g.D.Deck.boot l.initial.deck
