use Rattle.gdb_session.proofs.Words.{arith, ◌∙◌}
use Rattle.gdb_session.proofs.tapes.TapeDeck.go_to.Goals as goal

pub returns-in-Taken : goal.returns-in-Taken
returns-in-Taken c =
    let early = c.come_before.ensures.early c.if-not-come_before.false in
    let h = c.run_to.ensures.taken c.in-Taken.is c.if-at-gt-MOST_TICK.false in
    let limit = h.0 in record {
      boot = c.run_to.ensures.boot ∙ c.come_before.ensures.boot;
      stands = λ _. (grind (arith, limit, early), h.1, h.2);
    }
