use Rattle.gdb_session.proofs.Words.{◌≡◌}
use Rattle.gdb_session.proofs.backs.look_through.Given as goal

abbrev pub invariant-rounds : goal.invariant-rounds
invariant-rounds g l = g.D.Deck.boot l.deck ≡ g.D.Deck.boot l.initial.deck
