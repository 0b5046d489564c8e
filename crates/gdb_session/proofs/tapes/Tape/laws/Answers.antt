use Rattle.gdb_session.proofs.Words.{ComesFromBoot, TapeState, boot_of, subst}
use Rattle.gdb_session.proofs.tapes.Tape.laws.Goals as goal

pub returns : goal.returns
returns c =
    subst (λ (t : TapeState). ComesFromBoot (boot_of t) t.console) c.self.view_is c.self.invariant.came
