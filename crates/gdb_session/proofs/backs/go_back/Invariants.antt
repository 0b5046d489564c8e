use Rattle.gdb_session.proofs.Words.{◌≡◌}
use Rattle.gdb_session.proofs.backs.go_back.Given as goal

abbrev pub invariant-ways : goal.invariant-ways
invariant-ways g l = g.D.Deck.boot l.deck ≡ g.D.Deck.boot l.initial.deck
