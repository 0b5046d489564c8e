use Rattle.gdb_session.proofs.Words.{ConsoleState, ap, ◌∙◌}
use Rattle.gdb_session.proofs.Kept.{begins, begins_boot}
use Rattle.gdb_session.proofs.tapes.Tape.new.Goals as goal

pub invariant_of-tape : goal.invariant_of-tape
invariant_of-tape c =
    let e = c.in_ok-console.ensures in
    begins c.args.cart c.args.keys _ _ c.in_ok-script.ensures e.booted _ _ c.new-2.ensures (c.laws.ensures.sound (ap (λ (k : ConsoleState). k.stopped) e.booted)) e.parts e.within

pub returns : goal.returns
returns c = c.keep.ensures.boot ∙ begins_boot c.args.cart c.args.keys _ _ c.in_ok-script.ensures c.in_ok-console.ensures.booted
